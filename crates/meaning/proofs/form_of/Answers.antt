use Prim.Native.Nat.{◌+◌, ◌≤◌}
use Rattle.bits.specs.Packed.{bytes_at}
use Rattle.meaning.proofs.Forming.{formed, known, packed_char}
use Rattle.meaning.specs.Meaning.{merged_of}
use Rattle.places.specs.Nodes.{short}
use Rattle.text.specs.Laws.{said_stands}
use Rattle.text.specs.declared.Text.TheVariants.{Digits, Packed, Part, Said}
use Rattle.value.specs.declared.Value.TheVariants.{Context, Empty, False, Index, IndexText, Literal, Missing, Name, Null, PackedChar, Place, SaidChar, Text, True}
use borrow.Author.Rules.{rules}
use mathlib.Core.Bool.{false, true}
use mathlib.Core.Path.{ap, refl}
use native.Mathlib.Omega.{arith}
use Rattle.meaning.specs.declared.Form.TheVariants as form
use Rattle.meaning.proofs.form_of.Goals as goal

pub place_form-requires : goal.place_form-requires
place_form-requires c = let s = c in let k = known s.args.s.now s.args.b.now s.args.v (Context c.in-Context.i) c.in-Context.is refl s.requires.2 in (s.requires.0, k.0)

pub place_form-requires-in-Place : goal.place_form-requires-in-Place
place_form-requires-in-Place c = let s = c in let k = known s.args.s.now s.args.b.now s.args.v (Place c.in-Place.i) c.in-Place.is refl s.requires.2 in (s.requires.0, k)

pub literal_form-requires : goal.literal_form-requires
literal_form-requires c = let s = c in let k = known s.args.s.now s.args.b.now s.args.v (Literal c.in-Literal.p) c.in-Literal.is refl s.requires.2 in (s.requires.1, k)

pub overflow_add-result : goal.overflow_add-result
overflow_add-result c = let s = c in let k = known s.args.s.now s.args.b.now s.args.v (Name c.in-Name.o) c.in-Name.is refl s.requires.2 in let l = short s.args.s.now s.requires.0.answers in omega (arith, k.within)

pub text_form-requires : goal.text_form-requires
text_form-requires c = let s = c in let k = known s.args.s.now s.args.b.now s.args.v (Text c.in-Text.p) c.in-Text.is refl s.requires.2 in (s.requires.1, k)

pub returns-in-Missing : goal.returns-in-Missing
returns-in-Missing c = let s = c in formed s.args.s.now s.args.b.now s.args.v Missing form.Null c.in-Missing.is refl refl

pub returns-in-Null : goal.returns-in-Null
returns-in-Null c = let s = c in formed s.args.s.now s.args.b.now s.args.v Null form.Null c.in-Null.is refl refl

pub returns-in-False : goal.returns-in-False
returns-in-False c = let s = c in formed s.args.s.now s.args.b.now s.args.v False (form.Boolean false) c.in-False.is refl refl

pub returns-in-True : goal.returns-in-True
returns-in-True c = let s = c in formed s.args.s.now s.args.b.now s.args.v True (form.Boolean true) c.in-True.is refl refl

pub returns-in-Empty : goal.returns-in-Empty
unfolding bytes_at
returns-in-Empty c = let s = c in formed s.args.s.now s.args.b.now s.args.v Empty (form.String (Packed 0 0)) c.in-Empty.is refl (record { is = refl; stands = omega arith })

pub returns-in-Context : goal.returns-in-Context
returns-in-Context c = let s = c in formed s.args.s.now s.args.b.now s.args.v (Context c.in-Context.i) c.place_form.result c.in-Context.is refl c.place_form.ensures

pub returns-in-Place : goal.returns-in-Place
returns-in-Place c = let s = c in formed s.args.s.now s.args.b.now s.args.v (Place c.in-Place.i) c.place_form-in-Place.result c.in-Place.is refl c.place_form-in-Place.ensures

pub returns-in-Literal : goal.returns-in-Literal
returns-in-Literal c = let s = c in formed s.args.s.now s.args.b.now s.args.v (Literal c.in-Literal.p) c.literal_form.result c.in-Literal.is refl c.literal_form.ensures

pub returns-in-Index : goal.returns-in-Index
returns-in-Index c = let s = c in let n = c.in-Index.n in formed s.args.s.now s.args.b.now s.args.v (Index n) (form.Unsigned n) c.in-Index.is refl refl

pub returns-in-IndexText : goal.returns-in-IndexText
returns-in-IndexText c = let s = c in let n = c.in-IndexText.n in formed s.args.s.now s.args.b.now s.args.v (IndexText n) (form.String (Digits n 0)) c.in-IndexText.is refl (record { is = refl; stands = tt })

pub returns-in-Name : goal.returns-in-Name
returns-in-Name c = let s = c in
    let o = c.in-Name.o in
    let k = known s.args.s.now s.args.b.now s.args.v (Name o) c.in-Name.is refl s.requires.2 in
    let l = short s.args.s.now s.requires.0.answers in
    let le : o ≤ 65536 = omega (arith, k.within) in
    formed s.args.s.now s.args.b.now s.args.v (Name o) (form.String (Said (o + 1) 0)) c.in-Name.is refl (record { is = refl; stands = said_stands s.args.s.now s.args.b.now o le })

pub returns-in-Text : goal.returns-in-Text
returns-in-Text c = let s = c in formed s.args.s.now s.args.b.now s.args.v (Text c.in-Text.p) c.text_form.result c.in-Text.is refl c.text_form.ensures

pub returns-in-SaidChar : goal.returns-in-SaidChar
returns-in-SaidChar c = let s = c in
    let o = c.in-SaidChar.o in
    let n = c.in-SaidChar.n in
    let k = known s.args.s.now s.args.b.now s.args.v (SaidChar o n) c.in-SaidChar.is refl s.requires.2 in
    formed s.args.s.now s.args.b.now s.args.v (SaidChar o n) (form.String (Part o 0 n)) c.in-SaidChar.is refl (record { is = refl; stands = k.inside })

pub returns-in-PackedChar : goal.returns-in-PackedChar
returns-in-PackedChar c = let s = c in
    let o = c.in-PackedChar.p in
    let n = c.in-PackedChar.n in
    let k = known s.args.s.now s.args.b.now s.args.v (PackedChar o n) c.in-PackedChar.is refl s.requires.2 in
    formed s.args.s.now s.args.b.now s.args.v (PackedChar o n) (form.String (Packed o n)) c.in-PackedChar.is refl (packed_char s.args.s.now s.args.b.now o n s.requires.1 k)

pub returns-in-Merged : goal.returns-in-Merged
returns-in-Merged c = ap merged_of c.in-Merged.is
