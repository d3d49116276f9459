use mathlib.Core.Path.{◌≡◌}
use Prim.Native.Nat.{◌-◌, ◌≤◌}
use lib.ListN.{length, drop}
use Rattle.output.specs.Writer.{output}
use Rattle.support.specs.Feed.{all_emitted, escaped}
use Rattle.support.proofs.feed_bytes.Given as goal

abbrev pub invariant-loop-i : goal.invariant-loop-i
invariant-loop-i l = (l.i ≤ length l.v) × (length l.out ≡ length l.initial.out) × (all_emitted l.indent (escaped l.escape (drop l.i l.v)) (output l.q l.out) ≡ all_emitted l.indent (escaped l.escape l.v) (output l.initial.q l.initial.out))

abbrev pub decreases-loop-i : goal.decreases-loop-i
decreases-loop-i l = length l.v - l.i
