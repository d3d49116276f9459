use Rattle.scan.proofs.Words.{Worded}
use Rattle.scan.proofs.word_end.Given as goal

abbrev pub invariant-loop-k : goal.invariant-loop-k
invariant-loop-k l = Worded l.w l.s l.i l.k
