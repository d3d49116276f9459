use mathlib.Core.Bool.{true}
use mathlib.Core.Path.{◌≡◌}
use Prim.Native.Nat.{◌+◌}
use lib.ListN.{drop}
use Rattle.rules.specs.Bytes.{run}
use Rattle.rules.specs.Bits.{bits}
use Rattle.bits.specs.Packed.{bytes_at}
use Rattle.support.specs.Runs.{quiet_byte}
use Rattle.support.proofs.quiet_packed.Given as goal

abbrev pub invariant-loop-j : goal.invariant-loop-j
invariant-loop-j l = l.i + run (quiet_byte l.has_indent true) (drop l.i (bytes_at (bits l.s) l.p l.n)) ≡ l.j + run (quiet_byte l.has_indent true) (drop l.j (bytes_at (bits l.s) l.p l.n))
