use Rattle.bits.specs.Packed.{bytes_at}
use Rattle.rules.specs.Bits.{Bits, bits}
use Rattle.rules.specs.Bytes.{same}
use mathlib.Core.Path.{◌≡◌}
use mathlib.Core.Bool.{Bool}
use Prim.Native.Nat.{ℕ, ◌+◌, ◌-◌, ◌*◌, ◌≤◌}
use Rattle.bits.proofs.same_at.Given as goal

abbrev Same : Bits → ℕ → ℕ → ℕ → Bool
Same b p q n = same (bytes_at b p n) (bytes_at b q n)

abbrev pub invariant-loop-i : goal.invariant-loop-i
invariant-loop-i l = (l.i ≤ l.n) × (Same (bits l.s) (l.p + 8 * l.i) (l.q + 8 * l.i) (l.n - l.i) ≡ same (bytes_at (bits l.s) l.p l.n) (bytes_at (bits l.s) l.q l.m))

abbrev pub decreases-loop-i : goal.decreases-loop-i
decreases-loop-i l = l.n - l.i
