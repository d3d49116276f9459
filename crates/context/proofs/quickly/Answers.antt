use mathlib.Core.Path.{refl, sym, subst}
use native.Mathlib.Omega.{arith}
use Rattle.rules.specs.Bits.{bits}
use Rattle.rules.specs.Bundle.{seg}
use Rattle.rules.specs.BundleLaws.{bits_size}
use Rattle.parts.specs.Holds.{Holds}
use Rattle.value.specs.Numbers.{decoded}
use Prim.Native.Nat.{ℕ, suc, ◌+◌, ◌*◌, ◌-◌}
use mathlib.Core.Path.{◌≡◌, ap}
use Rattle.context.specs.Evaluated.{Evaluates, found_is, Walked, numbered}
use Rattle.context.proofs.Numbers.{count_is, name_stands, name_fits, step_missing, step_on}
use Rattle.context.proofs.Walking.{first_holds, Walks, walk_again, walk_missing, walk_done}
use Rattle.context.proofs.quickly.Goals as goal

pub overflow_add-at : goal.overflow_add-at
overflow_add-at c =
    let first : Holds seg (bits c.args.b.now) c.loop.at = first_holds (bits c.args.b.now) c.loop.at (c.args.n - c.loop.counter) (omega (arith, c.loop-test.true)) c.loop.invariant.0.holds in
    let a = c.args in omega (arith, name_fits a.b.now c.loop.at (first) c.field-x.result c.field-x.ensures (omega (arith, c.if-x-ge65536.false)), bits_size a.b.now, c.requires.1)

pub get_number-r-requires : goal.get_number-r-requires
get_number-r-requires c =
    let first : Holds seg (bits c.args.b.now) c.loop.at = first_holds (bits c.args.b.now) c.loop.at (c.args.n - c.loop.counter) (omega (arith, c.loop-test.true)) c.loop.invariant.0.holds in
    let z = c in
    let a = z.args in
    (z.requires.0, z.requires.1, c.loop.invariant.0.held, (name_stands a.b.now c.loop.at (first) c.field-x.result c.field-x.ensures (omega (arith, c.if-x-ge65536.false))).parts, count_is a.b.now c.loop.at (first) c.field-x.result c.field-x.ensures (omega (arith, c.if-x-ge65536.false)))

pub returns-then-r-le1 : goal.returns-then-r-le1
returns-then-r-le1 c =
    let first : Holds seg (bits c.args.b.now) c.loop.at = first_holds (bits c.args.b.now) c.loop.at (c.args.n - c.loop.counter) (omega (arith, c.loop-test.true)) c.loop.invariant.0.holds in
    let a = c.args in
    record {
      small = omega (arith, c.if-r-le1.true);
      told = λ ne.
          let e : c.get_number-r.result ≡ 1 = omega (arith, c.if-r-le1.true) in
          subst (λ (m : ℕ). Walked a.s.now a.b.now a.ent.now (decoded a.v) a.p a.n (numbered m)) (sym e)
          (λ t st x. walk_missing a.s.now a.b.now a.ent.now (decoded a.v) a.p a.n (decoded c.loop.cur) c.loop.at (c.args.n - c.loop.counter) c.loop.invariant.0 (omega (arith, c.loop-test.true)) (step_missing a.b.now c.loop.at (first) c.field-x.result c.field-x.ensures (omega (arith, c.if-x-ge65536.false)) a.s.now a.ent.now a.tab.now c.requires.0 c.loop.cur c.loop.invariant.0.held c.get_number-r.result c.get_number-r.ensures e) t x);
    }

pub overflow_add-at-in-loop-2 : goal.overflow_add-at-in-loop-2
overflow_add-at-in-loop-2 c =
    let first : Holds seg (bits c.args.b.now) c.loop.at = first_holds (bits c.args.b.now) c.loop.at (c.args.n - c.loop.counter) (omega (arith, c.loop-test.true)) c.loop.invariant.0.holds in
    let a = c.args in omega (arith, name_fits a.b.now c.loop.at (first) c.field-x.result c.field-x.ensures (omega (arith, c.if-x-ge65536.false)), bits_size a.b.now, c.requires.1)

pub loop-preserved : goal.loop-preserved
loop-preserved c =
    let first : Holds seg (bits c.args.b.now) c.loop.at = first_holds (bits c.args.b.now) c.loop.at (c.args.n - c.loop.counter) (omega (arith, c.loop-test.true)) c.loop.invariant.0.holds in
    let a = c.args in
    let e : a.n - c.loop.counter - 1 ≡ a.n - (c.loop.counter + 1) = omega arith in
    (subst (Walks a.s.now a.b.now a.ent.now (decoded a.v) a.p a.n (decoded c.present_number-cur.result) (c.loop.at + (18 + 8 * c.field-x.result))) e (walk_again a.s.now a.b.now a.ent.now (decoded a.v) a.p a.n (decoded c.loop.cur) c.loop.at (c.args.n - c.loop.counter) c.loop.invariant.0 (decoded c.present_number-cur.result) _ (omega (arith, c.loop-test.true)) (step_on a.b.now c.loop.at (first) c.field-x.result c.field-x.ensures (omega (arith, c.if-x-ge65536.false)) a.s.now a.ent.now a.tab.now c.requires.0 c.loop.cur c.loop.invariant.0.held c.get_number-r.result c.get_number-r.ensures (λ e. omega (arith, c.if-r-le1.false)) (λ e. omega (arith, c.if-r-le1.false)) c.present_number-cur.result c.present_number-cur.ensures _ refl)), omega arith)

pub returns : goal.returns
returns c = let a = c.args in
    record {
      small = omega (arith, c.loop.invariant.1);
      told = λ ne.
          let f : 2 + c.loop.cur ≡ suc (suc c.loop.cur) = omega arith in
          subst (Walked a.s.now a.b.now a.ent.now (decoded a.v) a.p a.n) (sym (ap numbered f)) (λ t st x. subst (Evaluates a.s.now a.b.now a.ent.now t _) (sym (found_is (decoded c.loop.cur) (c.loop.invariant.0.present x))) (walk_done a.s.now a.b.now a.ent.now (decoded a.v) a.p a.n (decoded c.loop.cur) c.loop.at (c.args.n - c.loop.counter) c.loop.invariant.0 (omega (arith, c.loop-test.false)) t st x));
    }
