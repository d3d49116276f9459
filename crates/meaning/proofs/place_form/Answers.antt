use Prim.Native.Nat.{◌≤◌}
use Rattle.meaning.proofs.Forming.{false_kind, null_kind, place_text, true_kind}
use Rattle.places.specs.Kinds.{list_kind, negative_kind, object_kind, unsigned_kind}
use Rattle.places.specs.Nodes.{short}
use Rattle.places.specs.Places.{json_at}
use Rattle.rules.specs.Json.{jneg, jpos}
use borrow.Author.Rules.{rules}
use mathlib.Core.Path.{◌∙◌, ap, refl, sym}
use native.Mathlib.Omega.{arith}
use Rattle.meaning.proofs.place_form.Goals as goal

pub returns-in-Null : goal.returns-in-Null
returns-in-Null c = let s = c in null_kind (json_at s.args.s.now s.args.i) (sym c.in-Null.is ∙ c.kind_of-k.ensures)

pub returns-in-False : goal.returns-in-False
returns-in-False c = let s = c in false_kind (json_at s.args.s.now s.args.i) (sym c.in-False.is ∙ c.kind_of-k.ensures)

pub returns-in-True : goal.returns-in-True
returns-in-True c = let s = c in true_kind (json_at s.args.s.now s.args.i) (sym c.in-True.is ∙ c.kind_of-k.ensures)

pub returns-in-Unsigned : goal.returns-in-Unsigned
returns-in-Unsigned c = let s = c in unsigned_kind (json_at s.args.s.now s.args.i) (sym c.in-Unsigned.is ∙ c.kind_of-k.ensures) ∙ ap jpos (sym c.number.ensures)

pub returns-in-Negative : goal.returns-in-Negative
returns-in-Negative c = let s = c in negative_kind (json_at s.args.s.now s.args.i) (sym c.in-Negative.is ∙ c.kind_of-k.ensures) ∙ ap jneg (sym c.number-in-Negative.ensures)

pub returns-in-Text : goal.returns-in-Text
returns-in-Text c = let s = c in
    let h = s.requires.0.answers in
    let l = short s.args.s.now h in
    let le : c.start.result ≤ 65536 = omega (arith, c.start.ensures.1) in
    place_text s.args.s.now s.args.b.now h s.args.i s.requires.1 (sym c.in-Text.is ∙ c.kind_of-k.ensures) c.start.result c.start.ensures.0 le

pub returns-in-List : goal.returns-in-List
returns-in-List c = let s = c in record { at = refl; within = s.requires.1; is = list_kind (json_at s.args.s.now s.args.i) (sym c.in-List.is ∙ c.kind_of-k.ensures) }

pub returns-in-Object : goal.returns-in-Object
returns-in-Object c = let s = c in record { at = refl; within = s.requires.1; is = object_kind (json_at s.args.s.now s.args.i) (sym c.in-Object.is ∙ c.kind_of-k.ensures) }
