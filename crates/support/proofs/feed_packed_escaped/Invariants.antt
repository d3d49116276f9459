use mathlib.Core.Path.{◌≡◌}
use mathlib.Core.Bool.{true}
use Prim.Native.Nat.{◌-◌, ◌≤◌}
use lib.ListN.{length, drop}
use Rattle.rules.specs.Bits.{bits}
use Rattle.bits.specs.Packed.{bytes_at}
use Rattle.output.specs.Writer.{output}
use Rattle.support.specs.Feed.{all_emitted, escaped}
use Rattle.support.proofs.feed_packed_escaped.Given as goal

abbrev pub invariant-loop-i : goal.invariant-loop-i
invariant-loop-i l = (l.i ≤ l.n)
    × (length l.out ≡ length l.initial.out)
    × (all_emitted l.indent (escaped true (drop l.i (bytes_at (bits l.s) l.p l.n))) (output l.q l.out) ≡ all_emitted l.indent (escaped true (bytes_at (bits l.s) l.p l.n)) (output l.initial.q l.initial.out))

abbrev pub decreases-loop-i : goal.decreases-loop-i
decreases-loop-i l = l.n - l.i
