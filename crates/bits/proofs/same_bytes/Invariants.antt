use mathlib.Core.Path.{◌≡◌}
use Rattle.rules.specs.Bytes.{same}
use Rattle.rules.specs.Bits.{bits}
use Rattle.bits.specs.Packed.{bytes_at}
use Rattle.bits.specs.Compare.{SameFrom}
use Rattle.bits.proofs.same_bytes.Given as goal

abbrev pub invariant-loop-i : goal.invariant-loop-i
invariant-loop-i l = SameFrom (bytes_at (bits l.s) l.p l.n) l.t l.i ≡ same (bytes_at (bits l.s) l.p l.n) l.t
