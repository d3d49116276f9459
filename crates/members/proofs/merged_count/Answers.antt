use native.Mathlib.Omega.{arith}
use mathlib.Core.Path.{◌∙◌, ap, sym}
use borrow.Author.Tests.{eqb-true}
use Rattle.places.specs.Items.{object_at}
use Rattle.value.specs.Numbers.{decoded}
use Rattle.members.proofs.Objects.{object_few, base_place, object_parts}
use borrow.Author.Rules.{rules}
use Rattle.members.proofs.merged_count.Goals as goal

pub high-u-requires : goal.high-u-requires
high-u-requires c = omega (arith, c.requires.2.room, c.requires.2.keys.some)

pub is_object-requires : goal.is_object-requires
is_object-requires c = let z = c in
    let a = z.args in
    (z.requires.0, base_place a.s.now a.b.now a.tab.now z.requires.0 a.ent.now a.h a.n z.requires.2 c.high-u.result (ap decoded c.high-u.ensures) c.if-tag.true)

pub object_lacking-new-requires : goal.object_lacking-new-requires
object_lacking-new-requires c = let z = c in
    let a = z.args in
    let w = base_place a.s.now a.b.now a.tab.now z.requires.0 a.ent.now a.h a.n z.requires.2 c.high-u.result (ap decoded c.high-u.ensures) c.if-tag.true in
    (z.requires.0, z.requires.1, w, object_at a.s.now _ (eqb-true _ 123 (sym c.is_object.ensures ∙ c.if-is_object.true)), z.requires.2.room, z.requires.2.keys)

pub members-requires : goal.members-requires
members-requires c = let z = c in
    let a = z.args in
    (z.requires.0, base_place a.s.now a.b.now a.tab.now z.requires.0 a.ent.now a.h a.n z.requires.2 c.high-u.result (ap decoded c.high-u.ensures) c.if-tag.true)

pub overflow_add-result : goal.overflow_add-result
overflow_add-result c = let z = c in
    let a = z.args in
    let w = base_place a.s.now a.b.now a.tab.now z.requires.0 a.ent.now a.h a.n z.requires.2 c.high-u.result (ap decoded c.high-u.ensures) c.if-tag.true in
    let e = object_at a.s.now _ (eqb-true _ 123 (sym c.is_object.ensures ∙ c.if-is_object.true)) in
    omega (arith, object_few a.s.now a.tab.now z.requires.0 _ w e, c.members.ensures, c.object_lacking-new.ensures.1, z.requires.2.keys.few)

pub returns-then-is_object : goal.returns-then-is_object
returns-then-is_object c = let z = c in
    let a = z.args in
    object_parts a.s.now a.b.now a.tab.now z.requires.0 a.ent.now a.h a.n z.requires.2 c.high-u.result (ap decoded c.high-u.ensures) c.if-tag.true c.object_lacking-new.result c.members.result (object_at a.s.now _ (eqb-true _ 123 (sym c.is_object.ensures ∙ c.if-is_object.true))) c.object_lacking-new.ensures.0 c.members.ensures

pub returns : goal.returns
returns c = c.any_count.ensures
