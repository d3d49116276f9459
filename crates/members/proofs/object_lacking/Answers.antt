use Rattle.members.proofs.Counting.{lacking_step}
use Rattle.meaning.specs.Entries.{place}
use Rattle.meaning.specs.Meaning.{json_of, pairs}
use Rattle.merging.specs.Counting as spec
use Rattle.layout.specs.Text.{text_at}
use Rattle.parts.specs.Holds.{Holds}
use Rattle.places.specs.Places.{json_at}
use Rattle.rules.specs.Bits.{bits}
use Rattle.rules.specs.Bundle.{string}
use Rattle.rules.specs.Context.{base_map}
use Rattle.rules.specs.Json.{get_member}
use native.Mathlib.Omega.{arith}
use Prim.Native.Nat.{ℕ, ◌-◌, ◌≤◌}
use mathlib.Core.Path.{◌≡◌, ◌∙◌, ap, refl, sym, subst}
use Rattle.members.proofs.object_lacking.Goals as goal

pub loop-k-init : goal.loop-k-init
loop-k-init c = (omega arith, refl)

pub overflow_add-h : goal.overflow_add-h
overflow_add-h c = omega (arith, c.requires.4, c.loop-k.invariant.0)

pub place-requires : goal.place-requires
place-requires c = omega (arith, c.requires.4, c.loop-k.invariant.0, c.loop-k-test.true)

pub new_in-r-requires : goal.new_in-r-requires
new_in-r-requires c = let z = c in
    (z.requires.0, z.requires.1, z.requires.2, z.requires.3, subst (Holds string (bits z.args.b.now)) (sym c.place.ensures) (z.requires.5.keys c.loop-k.k c.loop-k-test.true))

pub overflow_add-r : goal.overflow_add-r
overflow_add-r c = omega (arith, c.requires.4, c.loop-k.invariant.0, c.new_in-r.ensures.1, c.loop-k-test.true)

pub loop-k-preserved : goal.loop-k-preserved
loop-k-preserved c = let a = c.args in
    let m = base_map (json_at a.s.now a.i) in
    let x = lacking_step a.b.now a.ent.now (json_of a.s.now a.b.now a.ent.now) a.h c.loop-k.k m in
    let y = c.new_in-r.ensures.0 ∙ ap (λ (p : ℕ). spec.one_if_new (get_member m (text_at (bits a.b.now) p))) c.place.ensures in
    (omega (arith, c.loop-k.invariant.0, c.new_in-r.ensures.1), omega (arith, c.loop-k.invariant.1))

pub returns : goal.returns
returns c = let a = c.args in
    let e : c.loop-k.k ≡ a.n = omega (arith, c.loop-k-test.false) in
    (c.loop-k.invariant.1 ∙ ap (λ (k : ℕ). spec.lacking (pairs a.b.now a.ent.now (json_of a.s.now a.b.now a.ent.now) a.h k) (base_map (json_at a.s.now a.i))) e, omega (arith, c.loop-k.invariant.0))
