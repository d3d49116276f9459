use Rattle.std.proofs.Common.{subst}
use Rattle.places.proofs.Findings.{found_next}
use Rattle.places.specs.Kinds.{FoundIn, found_name}
use Rattle.places.specs.Nodes.{short}
use Rattle.test_places.proofs.print_members.Goals as goal

pub name-requires : goal.name-requires
name-requires g c = (c.requires.0, subst (FoundIn c.args.s.now) c.in-Some.is (found_next c.args.s.now c.requires.0.answers c.args.i c.requires.1 (found_name c.args.s.now c.loop.last) c.next_member.result c.next_member.ensures))

pub print_text-requires : goal.print_text-requires
print_text-requires g c = (short c.args.s.now c.requires.0.answers, c.name.ensures.1)

pub print_value-requires : goal.print_value-requires
print_value-requires g c = (c.requires.0, subst (FoundIn c.args.s.now) c.in-Some.is (found_next c.args.s.now c.requires.0.answers c.args.i c.requires.1 (found_name c.args.s.now c.loop.last) c.next_member.result c.next_member.ensures))

pub loop-preserved : goal.loop-preserved
loop-preserved g c = subst (FoundIn c.args.s.now) c.in-Some.is (found_next c.args.s.now c.requires.0.answers c.args.i c.requires.1 (found_name c.args.s.now c.loop.last) c.next_member.result c.next_member.ensures)
