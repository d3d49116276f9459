use Rattle.places.specs.Kinds.{FoundIn}
use Rattle.test_places.proofs.print_members.Given as goal

abbrev pub invariant-loop : goal.invariant-loop
invariant-loop g l = FoundIn l.s l.last
