use Rattle.decimal.proofs.Digits.{AtLeast}
use Prim.Native.Nat.{◌-◌}
use Rattle.decimal.proofs.digit_count.Given as goal

abbrev pub invariant-loop-k : goal.invariant-loop-k
invariant-loop-k l = AtLeast (l.k - 1) l.n
