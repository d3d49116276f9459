use Rattle.std.proofs.Common.{subst}
use Rattle.places.proofs.Findings.{found_child}
use Rattle.places.specs.Kinds.{FoundIn}
use Rattle.test_places.proofs.print_items.Goals as goal

pub print_value-requires : goal.print_value-requires
print_value-requires g c = (c.requires.0, subst (FoundIn c.args.s.now) c.in-Some.is (found_child c.args.s.now c.requires.0.answers c.args.i c.requires.1 c.loop-k.k c.nth.result c.nth.ensures))

pub print_up-requires : goal.print_up-requires
print_up-requires g c = (c.requires.0, subst (FoundIn c.args.s.now) c.in-Some.is (found_child c.args.s.now c.requires.0.answers c.args.i c.requires.1 c.loop-k.k c.nth.result c.nth.ensures))
