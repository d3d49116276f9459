use Rattle.std.proofs.Common.{subst}
use Rattle.places.proofs.Findings.{found_child}
use Rattle.places.specs.Kinds.{FoundIn}
use Rattle.places.specs.Nodes.{some_places}
use Rattle.test_places.proofs.print_first.Goals as goal

pub first-f-requires : goal.first-f-requires
first-f-requires g c = (c.requires, some_places c.args.s.now)

pub print_found-requires : goal.print_found-requires
print_found-requires g c = (c.requires, found_child c.args.s.now c.requires.answers 0 (some_places c.args.s.now) 0 c.first-f.result c.first-f.ensures)

pub print_next-requires : goal.print_next-requires
print_next-requires g c = (c.requires, subst (FoundIn c.args.s.now) c.in-Some.is (found_child c.args.s.now c.requires.answers 0 (some_places c.args.s.now) 0 c.first-f.result c.first-f.ensures))
