use mathlib.Core.Path.{◌≡◌}
use Prim.Native.Nat.{◌+◌}
use lib.ListN.{drop}
use Rattle.rules.specs.Bytes.{run}
use Rattle.support.specs.Runs.{quiet_byte}
use Rattle.support.proofs.quiet.Given as goal

abbrev pub invariant-loop-j : goal.invariant-loop-j
invariant-loop-j l = l.i + run (quiet_byte l.has_indent l.escape) (drop l.i l.v) ≡ l.j + run (quiet_byte l.has_indent l.escape) (drop l.j l.v)
