use Rattle.lookup.proofs.Spelling.{spells_none, spells_same, spells_eq}
use Rattle.meaning.specs.Standing.{PlainStands}
use Rattle.meaning.specs.Meaning.{plain_json}
use Rattle.chars.specs.Laws.{nothing_spelled, name_spelled, said_spelled, packed_spelled}
use Rattle.text.specs.declared.Text.TheVariants.{Packed, Part, Said, Digits}
use Rattle.saying.specs.Said.{remaining}
use Rattle.places.specs.Places.{json_at}
use Rattle.places.specs.Nodes.{short}
use Rattle.bits.specs.Packed.{bytes_at}
use Rattle.parts.specs.Says.{literal_at}
use Rattle.layout.specs.Text.{text_at}
use Rattle.rules.specs.Template.{literal_json}
use Rattle.rules.specs.Scan.{saying}
use Rattle.rules.specs.Json.{jnull, jbool, jpos}
use Rattle.rules.specs.Bits.{bits}
use Rattle.rules.specs.Bytes.{digits}
use Prim.Native.Nat.{◌+◌}
use lib.ListN.{take}
use mathlib.Core.Bool.{true, false}
use mathlib.Core.List.{[]}
use native.Mathlib.Omega.{arith}
use mathlib.Core.Path.{ap, refl, subst}
use borrow.Author.Rules.{rules}
use Rattle.lookup.proofs.string_text.Goals as goal

pub place_text-requires : goal.place_text-requires
place_text-requires c = (c.requires.0, (subst (PlainStands c.args.s.now c.args.b.now) c.in-Context.is c.requires.2.stands).0)

pub place_text-requires-in-Place : goal.place_text-requires-in-Place
place_text-requires-in-Place c = (c.requires.0, subst (PlainStands c.args.s.now c.args.b.now) c.in-Place.is c.requires.2.stands)

pub literal_text-requires : goal.literal_text-requires
literal_text-requires c = (c.requires.1, subst (PlainStands c.args.s.now c.args.b.now) c.in-Literal.is c.requires.2.stands)

pub overflow_add-result : goal.overflow_add-result
overflow_add-result c = let l = short c.args.s.now c.requires.0.answers in let k = subst (PlainStands c.args.s.now c.args.b.now) c.in-Name.is c.requires.2.stands in omega (arith, k.within)

pub text_of-requires : goal.text_of-requires
text_of-requires c = (c.requires.1, subst (PlainStands c.args.s.now c.args.b.now) c.in-Text.is c.requires.2.stands)

pub returns-in-Missing : goal.returns-in-Missing
returns-in-Missing c = spells_none c.args.s.now c.args.b.now (Packed 0 0) (plain_json c.args.s.now c.args.b.now c.args.v) (jnull) (ap (plain_json c.args.s.now c.args.b.now) c.in-Missing.is) tt

pub returns-in-Null : goal.returns-in-Null
returns-in-Null c = spells_none c.args.s.now c.args.b.now (Packed 0 0) (plain_json c.args.s.now c.args.b.now c.args.v) (jnull) (ap (plain_json c.args.s.now c.args.b.now) c.in-Null.is) tt

pub returns-in-False : goal.returns-in-False
returns-in-False c = spells_none c.args.s.now c.args.b.now (Packed 0 0) (plain_json c.args.s.now c.args.b.now c.args.v) (jbool false) (ap (plain_json c.args.s.now c.args.b.now) c.in-False.is) tt

pub returns-in-True : goal.returns-in-True
returns-in-True c = spells_none c.args.s.now c.args.b.now (Packed 0 0) (plain_json c.args.s.now c.args.b.now c.args.v) (jbool true) (ap (plain_json c.args.s.now c.args.b.now) c.in-True.is) tt

pub returns-in-Empty : goal.returns-in-Empty
unfolding bytes_at
returns-in-Empty c = spells_same c.args.s.now c.args.b.now (Packed 0 0) (plain_json c.args.s.now c.args.b.now c.args.v) [] (ap (plain_json c.args.s.now c.args.b.now) c.in-Empty.is) refl (nothing_spelled c.args.s.now c.args.b.now)

pub returns-in-Context : goal.returns-in-Context
returns-in-Context c = spells_eq c.args.s.now c.args.b.now c.place_text.result (plain_json c.args.s.now c.args.b.now c.args.v) (json_at c.args.s.now c.in-Context.i) (ap (plain_json c.args.s.now c.args.b.now) c.in-Context.is) c.place_text.ensures

pub returns-in-Place : goal.returns-in-Place
returns-in-Place c = spells_eq c.args.s.now c.args.b.now c.place_text-in-Place.result (plain_json c.args.s.now c.args.b.now c.args.v) (json_at c.args.s.now c.in-Place.i) (ap (plain_json c.args.s.now c.args.b.now) c.in-Place.is) c.place_text-in-Place.ensures

pub returns-in-Literal : goal.returns-in-Literal
returns-in-Literal c = spells_eq c.args.s.now c.args.b.now c.literal_text.result (plain_json c.args.s.now c.args.b.now c.args.v) (literal_json (literal_at (bits c.args.b.now) c.in-Literal.p)) (ap (plain_json c.args.s.now c.args.b.now) c.in-Literal.is) c.literal_text.ensures

pub returns-in-Index : goal.returns-in-Index
returns-in-Index c = spells_none c.args.s.now c.args.b.now (Packed 0 0) (plain_json c.args.s.now c.args.b.now c.args.v) (jpos c.in-Index.field-0) (ap (plain_json c.args.s.now c.args.b.now) c.in-Index.is) tt

pub returns-in-IndexText : goal.returns-in-IndexText
returns-in-IndexText c = spells_same c.args.s.now c.args.b.now (Digits c.in-IndexText.n 0) (plain_json c.args.s.now c.args.b.now c.args.v) (digits c.in-IndexText.n) (ap (plain_json c.args.s.now c.args.b.now) c.in-IndexText.is) refl (subst (PlainStands c.args.s.now c.args.b.now) c.in-IndexText.is c.requires.2.stands)

pub returns-in-Name : goal.returns-in-Name
returns-in-Name c = let l = short c.args.s.now c.requires.0.answers in
    let k = subst (PlainStands c.args.s.now c.args.b.now) c.in-Name.is c.requires.2.stands in
    spells_same c.args.s.now c.args.b.now (Said (c.in-Name.o + 1) 0) (plain_json c.args.s.now c.args.b.now c.args.v) (saying c.args.s.now c.in-Name.o) (ap (plain_json c.args.s.now c.args.b.now) c.in-Name.is) refl (name_spelled c.args.s.now c.args.b.now c.in-Name.o (omega (arith, k.within)) k)

pub returns-in-Text : goal.returns-in-Text
returns-in-Text c = spells_same c.args.s.now c.args.b.now c.text_of.result (plain_json c.args.s.now c.args.b.now c.args.v) (text_at (bits c.args.b.now) c.in-Text.p) (ap (plain_json c.args.s.now c.args.b.now) c.in-Text.is) c.text_of.ensures.0 c.text_of.ensures.2

pub returns-in-SaidChar : goal.returns-in-SaidChar
returns-in-SaidChar c = spells_same c.args.s.now c.args.b.now (Part c.in-SaidChar.o 0 c.in-SaidChar.n) (plain_json c.args.s.now c.args.b.now c.args.v) (take c.in-SaidChar.n (remaining c.args.s.now c.in-SaidChar.o 0)) (ap (plain_json c.args.s.now c.args.b.now) c.in-SaidChar.is) refl (said_spelled c.args.s.now c.args.b.now c.in-SaidChar.o c.in-SaidChar.n (subst (PlainStands c.args.s.now c.args.b.now) c.in-SaidChar.is c.requires.2.stands))

pub returns-in-PackedChar : goal.returns-in-PackedChar
returns-in-PackedChar c = spells_same c.args.s.now c.args.b.now (Packed c.in-PackedChar.p c.in-PackedChar.n) (plain_json c.args.s.now c.args.b.now c.args.v) (bytes_at (bits c.args.b.now) c.in-PackedChar.p c.in-PackedChar.n) (ap (plain_json c.args.s.now c.args.b.now) c.in-PackedChar.is) refl (packed_spelled c.args.s.now c.args.b.now c.in-PackedChar.p c.in-PackedChar.n (subst (PlainStands c.args.s.now c.args.b.now) c.in-PackedChar.is c.requires.2.stands))

pub returns-in-Merged : goal.returns-in-Merged
returns-in-Merged c = spells_none c.args.s.now c.args.b.now (Packed 0 0) (plain_json c.args.s.now c.args.b.now c.args.v) (jnull) (ap (plain_json c.args.s.now c.args.b.now) c.in-Merged.is) tt
