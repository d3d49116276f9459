use mathlib.Core.Path.{◌≡◌}
use Prim.Native.Nat.{◌+◌, ◌-◌, ◌≤◌}
use lib.Seq.{sets, slice}
use Rattle.output.proofs.move_text.Given as goal

abbrev pub invariant-loop-i : goal.invariant-loop-i
invariant-loop-i l = (l.begin ≤ l.i) × (l.texts ≡ sets l.initial.texts (l.high - (l.low - l.begin) + (l.i - l.begin)) (slice l.i l.low l.initial.texts))
