use Rattle.places.specs.Nodes.{some_places}
use Rattle.test_places.proofs.print_all.Goals as goal

pub print_value-requires : goal.print_value-requires
print_value-requires g c = (c.requires, some_places c.args.s.now)

pub is_object-requires : goal.is_object-requires
is_object-requires g c = (c.requires, some_places c.args.s.now)

pub print_members-requires : goal.print_members-requires
print_members-requires g c = (c.requires, some_places c.args.s.now)

pub print_items-requires : goal.print_items-requires
print_items-requires g c = (c.requires, some_places c.args.s.now)
