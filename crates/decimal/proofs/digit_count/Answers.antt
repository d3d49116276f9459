use Rattle.decimal.proofs.Digits.{at_least, counted_length}
use Rattle.decimal.proofs.Powers.{power_at}
use mathlib.Core.Path.{◌≡◌}
use native.Mathlib.Omega.{arith}
use Prim.Native.Nat.{◌+◌, ◌-◌}
use Rattle.decimal.proofs.digit_count.Goals as goal

pub returns-then-n-k : goal.returns-then-n-k
returns-then-n-k c = let l = c.loop-k in
    let n = c.args.n in
    counted_length l.k n (record { some = omega arith; few = omega arith; below = rw (power_at l.k (omega arith)) at c.if-n-k.true; reached = l.invariant })

pub loop-k-preserved : goal.loop-k-preserved
loop-k-preserved c = let l = c.loop-k in
    let n = c.args.n in
    let e : l.k + 1 - 1 ≡ l.k = omega arith in
    rw e (at_least l.k n (rw (power_at l.k (omega arith)) at c.if-n-k.false))

pub returns : goal.returns
returns c = let l = c.loop-k in
    let n = c.args.n in
    let e : l.k ≡ 20 = omega arith in
    counted_length 20 n (record { some = omega arith; few = omega arith; below = omega arith; reached = rw e at l.invariant })
