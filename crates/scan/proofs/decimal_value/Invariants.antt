use Prim.Native.Nat.{◌≤◌}
use Rattle.rules.specs.Scan.{decimal_value, slice}
use mathlib.Core.Path.{◌≡◌}
use Rattle.scan.proofs.decimal_value.Given as goal

abbrev pub invariant-loop-k : goal.invariant-loop-k
invariant-loop-k l = (decimal_value 0 (slice l.s l.i l.e) ≡ decimal_value l.n (slice l.s l.k l.e)) × (l.n ≤ 18446744073709551615)
