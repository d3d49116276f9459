use Prim.Native.Nat.{◌+◌}
use Rattle.chars.specs.Spelled.{Spelled}
use Rattle.rules.specs.Context.{chars}
use Rattle.text.specs.Rest.{rest}
use lib.ListN.{length}
use mathlib.Core.Path.{◌≡◌}
use Rattle.chars.proofs.char_count.Given as goal

abbrev pub invariant-loop-w : goal.invariant-loop-w
invariant-loop-w l = Spelled l.s l.b l.u × (l.count + length (chars (rest l.s l.b l.u)) ≡ length (chars (rest l.s l.b l.initial.u)))

abbrev pub decreases-loop-w : goal.decreases-loop-w
decreases-loop-w l = length (rest l.s l.b l.u)
