use Rattle.std.proofs.Common.{length}
use Rattle.chars.specs.Spelled.{Spelled}
use Rattle.text.specs.Rest.{rest}
use Rattle.test_chars.proofs.show_all.Given as goal

abbrev pub invariant-loop-v : goal.invariant-loop-v
invariant-loop-v g l = Spelled l.s l.b l.u

abbrev pub decreases-loop-v : goal.decreases-loop-v
decreases-loop-v g l = length (rest l.s l.b l.u)
