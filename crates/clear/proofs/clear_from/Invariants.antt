use Rattle.clear.proofs.Clearing.{Clearing}
use Rattle.clear.proofs.clear_from.Given as goal

abbrev pub invariant-loop-i : goal.invariant-loop-i
invariant-loop-i g l = Clearing l.at l.fn.zero l.initial.b l.i l.b
