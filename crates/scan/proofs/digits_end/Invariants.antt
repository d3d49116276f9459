use Prim.Native.Nat.{◌+◌}
use Rattle.rules.specs.Bytes.{run}
use Rattle.rules.specs.Scan.{is_digit}
use lib.ListN.{drop}
use mathlib.Core.Path.{◌≡◌}
use Rattle.scan.proofs.digits_end.Given as goal

abbrev pub invariant-loop-j : goal.invariant-loop-j
invariant-loop-j l = l.i + run is_digit (drop l.i l.s) ≡ l.j + run is_digit (drop l.j l.s)
