use Prim.Native.Nat.{◌*◌, ◌+◌, ◌-◌}
use Rattle.bits.specs.Packed.{bytes_at}
use Rattle.rules.specs.Bits.{bits}
use Rattle.rules.specs.Bytes.{same}
use Rattle.saying.specs.Said.{Inside, remaining}
use mathlib.Core.Path.{◌≡◌}
use Rattle.saying.proofs.packed_steps.Given as goal

abbrev pub invariant-loop-m : goal.invariant-loop-m
invariant-loop-m l = Inside l.s l.at l.k × (same (remaining l.s l.i l.j) (bytes_at (bits l.w) l.p l.n) ≡ same (remaining l.s l.at l.k) (bytes_at (bits l.w) (l.p + 8 * l.m) (l.n - l.m)))
