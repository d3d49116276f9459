use Rattle.std.proofs.Common.{length}
use Rattle.text.specs.Rest.{Stands, rest}
use Rattle.test_chars.proofs.print_text.Given as goal

abbrev pub invariant-loop-c : goal.invariant-loop-c
invariant-loop-c g l = Stands l.s l.b l.u

abbrev pub decreases-loop-c : goal.decreases-loop-c
decreases-loop-c g l = length (rest l.s l.b l.u)
