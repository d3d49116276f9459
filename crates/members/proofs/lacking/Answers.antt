use Rattle.members.proofs.Counting.{lacking_step}
use Rattle.meaning.specs.Meaning.{json_of, pairs}
use Rattle.merging.specs.Counting as spec
use Rattle.rules.specs.Context.{base_map}
use native.Mathlib.Omega.{arith}
use Prim.Native.Nat.{ℕ, ◌-◌, ◌≤◌}
use mathlib.Core.Path.{◌≡◌, ◌∙◌, ap, refl}
use Rattle.members.proofs.lacking.Goals as goal

pub loop-k-init : goal.loop-k-init
loop-k-init c = (omega arith, refl)

pub overflow_add-h : goal.overflow_add-h
overflow_add-h c = omega (arith, c.requires.3, c.loop-k.invariant.0)

pub is_new-r-requires : goal.is_new-r-requires
is_new-r-requires c = (c.requires.0, c.requires.1, c.requires.2, omega (arith, c.requires.3, c.loop-k-test.true), c.requires.4.keys c.loop-k.k c.loop-k-test.true)

pub overflow_add-r : goal.overflow_add-r
overflow_add-r c = omega (arith, c.requires.3, c.loop-k.invariant.0, c.is_new-r.ensures.1, c.loop-k-test.true)

pub loop-k-preserved : goal.loop-k-preserved
loop-k-preserved c = let x = lacking_step c.args.b.now c.args.ent.now (json_of c.args.s.now c.args.b.now c.args.ent.now) c.args.h c.loop-k.k (base_map (json_of c.args.s.now c.args.b.now c.args.ent.now c.args.base)) in
    (omega (arith, c.loop-k.invariant.0, c.is_new-r.ensures.1), omega (arith, c.loop-k.invariant.1, c.is_new-r.ensures.0))

pub returns : goal.returns
returns c = let e : c.loop-k.k ≡ c.args.n = omega (arith, c.loop-k-test.false) in
    (c.loop-k.invariant.1 ∙ ap (λ (k : ℕ). spec.lacking (pairs c.args.b.now c.args.ent.now (json_of c.args.s.now c.args.b.now c.args.ent.now) c.args.h k) (base_map (json_of c.args.s.now c.args.b.now c.args.ent.now c.args.base))) e, omega (arith, c.loop-k.invariant.0))
