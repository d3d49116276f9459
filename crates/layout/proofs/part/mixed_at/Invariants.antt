use Prim.Native.Nat.{◌-◌, ◌≤◌}
use Rattle.bits.specs.Packed.{bytes_at}
use Rattle.layout.proofs.Parts.{Follows}
use Rattle.rules.specs.Bits.{bits}
use Rattle.rules.specs.Utf8.{utf8}
use Rattle.utf8.specs.Machine.{wanted}
use mathlib.Core.Path.{◌≡◌}
use Rattle.layout.proofs.part.mixed_at.Given as goal

abbrev pub invariant-loop-i : goal.invariant-loop-i
invariant-loop-i l = (l.i ≤ l.n) × (Follows (bits l.b) l.at l.n l.i (wanted l.u) ≡ utf8 (bytes_at (bits l.b) l.at l.n))

abbrev pub decreases-loop-i : goal.decreases-loop-i
decreases-loop-i l = l.n - l.i
