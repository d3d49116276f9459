use mathlib.Core.Path.{◌≡◌}
use Prim.Native.Nat.{◌+◌}
use lib.ListN.{drop}
use Rattle.rules.specs.Bytes.{run}
use Rattle.rules.specs.Bits.{bits}
use Rattle.bits.specs.Packed.{bytes_at}
use Rattle.support.specs.Runs.{inner_byte}
use Rattle.support.proofs.line_end.Given as goal

abbrev pub invariant-loop-j : goal.invariant-loop-j
invariant-loop-j l = l.i + run inner_byte (drop l.i (bytes_at (bits l.s) l.p l.n)) ≡ l.j + run inner_byte (drop l.j (bytes_at (bits l.s) l.p l.n))
