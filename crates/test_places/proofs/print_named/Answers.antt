use Rattle.std.proofs.Common.{arith, subst}
use Rattle.places.proofs.Findings.{found_member}
use Rattle.places.specs.Kinds.{FoundIn}
use Rattle.places.specs.Nodes.{short, some_places}
use Rattle.test_places.proofs.print_named.Goals as goal

pub member-a-requires : goal.member-a-requires
member-a-requires g c = (c.requires, some_places c.args.s.now, tt)

pub print_found-requires : goal.print_found-requires
print_found-requires g c = (c.requires, found_member c.args.s.now c.requires.answers 0 (some_places c.args.s.now) _ c.member-a.result c.member-a.ensures)

pub member-e-requires : goal.member-e-requires
member-e-requires g c = (c.requires, some_places c.args.s.now, omega arith)

pub print_found-requires-2 : goal.print_found-requires-2
print_found-requires-2 g c = (c.requires, found_member c.args.s.now c.requires.answers 0 (some_places c.args.s.now) _ c.member-e.result c.member-e.ensures)

pub name-requires : goal.name-requires
name-requires g c = (c.requires, subst (FoundIn c.args.s.now) c.in-Some.is (found_member c.args.s.now c.requires.answers 0 (some_places c.args.s.now) _ c.member-a.result c.member-a.ensures))

pub member-q-requires : goal.member-q-requires
member-q-requires g c = (c.requires, some_places c.args.s.now, omega (arith, c.name.ensures.1, short c.args.s.now c.requires.answers))

pub print_found-requires-3 : goal.print_found-requires-3
print_found-requires-3 g c = (c.requires, found_member c.args.s.now c.requires.answers 0 (some_places c.args.s.now) _ c.member-q.result c.member-q.ensures)
