use mathlib.Core.Path.{◌∙◌, sym}
use Rattle.lookup.proofs.Finding.{place_held, place_object}
use Rattle.text.specs.Rest.{rest}
use borrow.Author.Rules.{rules}
use Rattle.lookup.proofs.plain_member.Goals as goal

pub is_object-requires : goal.is_object-requires
is_object-requires c = let z = c in
    let a = z.args in
    let e = sym c.pathless.ensures ∙ c.in-Place.is in
    (z.requires.0, place_held a.s.now a.b.now a.v z.requires.2 c.in-Place.i e)

pub object_member-requires : goal.object_member-requires
object_member-requires c = let z = c in
    let a = z.args in
    let e = sym c.pathless.ensures ∙ c.in-Place.is in
    (z.requires.0, place_held a.s.now a.b.now a.v z.requires.2 c.in-Place.i e, z.requires.3)

pub returns-then-is_object : goal.returns-then-is_object
returns-then-is_object c = let z = c in
    let a = z.args in
    let e = sym c.pathless.ensures ∙ c.in-Place.is in
    rw c.placed.ensures (place_object a.s.now a.b.now a.v z.requires.2 c.in-Place.i e a.tab.now z.requires.0 (sym c.is_object.ensures ∙ c.if-is_object.true)
    (rest a.s.now a.b.now a.t) c.object_member.result c.object_member.ensures)
