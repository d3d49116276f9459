use Rattle.saying.specs.Said.{Inside}
use Rattle.test_places.proofs.print_text.Given as goal

abbrev pub invariant-loop : goal.invariant-loop
invariant-loop g l = Inside l.s l.at l.k
