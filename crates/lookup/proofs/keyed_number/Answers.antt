use borrow.Enum.Refused.{opened}
use Prim.Native.Nat.{◌+◌, ◌≤◌}
use native.Mathlib.Omega.{arith}
use mathlib.Core.Path.{ap, sym, subst}
use Rattle.layout.specs.Text.{text_at}
use Rattle.rules.specs.Bits.{bits}
use Rattle.value.specs.declared.Value.{Value}
use Rattle.value.specs.declared.Value.TheVariants.{Merged}
use Rattle.lookup.specs.Answers.{Held, pathless}
use Rattle.lookup.specs.Keyed.{key_told, MergedNumber}
use Rattle.lookup.proofs.Keyed.{string_literal, not_string, looked_place, looked_merged, looked_other}
use Rattle.lookup.proofs.Leading.{placed_within}
use Rattle.lookup.proofs.Ordered.{string_near}
use borrow.Author.Rules.{rules}
use Rattle.lookup.proofs.keyed_number.Goals as goal

pub returns-then-x-lt-STRING : goal.returns-then-x-lt-STRING
returns-then-x-lt-STRING c = let a = c.args in
    not_string a.s.now a.b.now a.ent.now a.v a.l _ c.field-x.ensures c.if-x-lt-STRING.true

pub overflow_add-l : goal.overflow_add-l
overflow_add-l c = let z = c in
    let a = z.args in
    let x = string_literal a.b.now a.l c.field-x.result z.requires.3 c.field-x.ensures (omega (arith, c.if-x-lt-STRING.false)) in
    omega (arith, string_near a.b.now (a.l + 3) z.requires.1 x.holds)

pub object_key-requires : goal.object_key-requires
object_key-requires c = let z = c in
    let a = z.args in
    let x = string_literal a.b.now a.l c.field-x.result z.requires.3 c.field-x.ensures (omega (arith, c.if-x-lt-STRING.false)) in
    (z.requires.0, z.requires.1, placed_within a.s.now a.b.now a.ent.now a.v c.in-Context.i (ap pathless c.in-Context.is) z.requires.2, x.holds, x.count)

pub overflow_add-l-in-Place : goal.overflow_add-l-in-Place
overflow_add-l-in-Place c = let z = c in
    let a = z.args in
    let x = string_literal a.b.now a.l c.field-x.result z.requires.3 c.field-x.ensures (omega (arith, c.if-x-lt-STRING.false)) in
    omega (arith, string_near a.b.now (a.l + 3) z.requires.1 x.holds)

pub object_key-requires-in-Place : goal.object_key-requires-in-Place
object_key-requires-in-Place c = let z = c in
    let a = z.args in
    let x = string_literal a.b.now a.l c.field-x.result z.requires.3 c.field-x.ensures (omega (arith, c.if-x-lt-STRING.false)) in
    (z.requires.0, z.requires.1, placed_within a.s.now a.b.now a.ent.now a.v c.in-Place.i (ap pathless c.in-Place.is) z.requires.2, x.holds, x.count)

pub overflow_add-l-in-Merged : goal.overflow_add-l-in-Merged
overflow_add-l-in-Merged c = let z = c in
    let a = z.args in
    let x = string_literal a.b.now a.l c.field-x.result z.requires.3 c.field-x.ensures (omega (arith, c.if-x-lt-STRING.false)) in
    omega (arith, string_near a.b.now (a.l + 3) z.requires.1 x.holds)

pub merged_key-requires : goal.merged_key-requires
merged_key-requires c = let z = c in
    let a = z.args in
    let x = string_literal a.b.now a.l c.field-x.result z.requires.3 c.field-x.ensures (omega (arith, c.if-x-lt-STRING.false)) in
    (z.requires.0, z.requires.1, subst (Held a.s.now a.b.now a.ent.now) c.in-Merged.is z.requires.2, x.holds, x.count)

pub returns-in-Context : goal.returns-in-Context
returns-in-Context c = let z = c in
    let a = z.args in
    let x = string_literal a.b.now a.l c.field-x.result z.requires.3 c.field-x.ensures (omega (arith, c.if-x-lt-STRING.false)) in
    looked_place a.s.now a.b.now a.ent.now a.v a.l _ c.field-x.ensures (omega (arith, c.if-x-lt-STRING.false)) x c.in-Context.i (ap pathless c.in-Context.is) (ap (key_told a.s.now a.b.now a.ent.now (text_at (bits a.b.now) (a.l + 3))) c.in-Context.is) c.object_key.result c.object_key.ensures

pub returns-in-Place : goal.returns-in-Place
returns-in-Place c = let z = c in
    let a = z.args in
    let x = string_literal a.b.now a.l c.field-x.result z.requires.3 c.field-x.ensures (omega (arith, c.if-x-lt-STRING.false)) in
    looked_place a.s.now a.b.now a.ent.now a.v a.l _ c.field-x.ensures (omega (arith, c.if-x-lt-STRING.false)) x c.in-Place.i (ap pathless c.in-Place.is) (ap (key_told a.s.now a.b.now a.ent.now (text_at (bits a.b.now) (a.l + 3))) c.in-Place.is) c.object_key-in-Place.result c.object_key-in-Place.ensures

pub returns-in-Merged : goal.returns-in-Merged
returns-in-Merged c = let z = c in
    let a = z.args in
    let k = text_at (bits a.b.now) (a.l + 3) in
    let x = string_literal a.b.now a.l c.field-x.result z.requires.3 c.field-x.ensures (omega (arith, c.if-x-lt-STRING.false)) in
    looked_merged a.s.now a.b.now a.ent.now a.v a.l _ c.field-x.ensures (omega (arith, c.if-x-lt-STRING.false)) x c.in-Merged.h c.in-Merged.n c.in-Merged.is z.requires.2 c.merged_key.result
    (subst (λ (v : Value). MergedNumber a.s.now a.b.now a.ent.now v k c.merged_key.result) (sym c.in-Merged.is) c.merged_key.ensures)

pub returns-in_default : goal.returns-in_default
returns-in_default c = let z = c in
    let a = z.args in
    let le : 327680 ≤ c.field-x.result = omega (arith, c.if-x-lt-STRING.false) in
    let x = string_literal a.b.now a.l c.field-x.result z.requires.3 c.field-x.ensures le in
    looked_other a.s.now a.b.now a.ent.now a.v a.l _ c.field-x.ensures le x (opened c.in_default.in_default-own.keys4)
