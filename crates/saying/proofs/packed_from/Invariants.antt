use Prim.Native.Nat.{◌*◌, ◌+◌, ◌-◌, ◌≤◌}
use Rattle.bits.specs.Packed.{bytes_at}
use Rattle.rules.specs.Bits.{bits}
use Rattle.rules.specs.Bytes.{same}
use Rattle.saying.specs.Said.{remaining}
use mathlib.Core.Path.{◌≡◌}
use Rattle.saying.proofs.packed_from.Given as goal

abbrev pub invariant-loop-k : goal.invariant-loop-k
invariant-loop-k l = (l.i + l.k ≤ 65548) × (same (remaining l.s l.i 0) (bytes_at (bits l.w) l.p l.n) ≡ same (remaining l.s (l.i + l.k) 0) (bytes_at (bits l.w) (l.p + 8 * l.k) (l.n - l.k)))
