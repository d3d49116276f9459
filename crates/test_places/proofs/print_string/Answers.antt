use Rattle.places.specs.Nodes.{short}
use Rattle.test_places.proofs.print_string.Goals as goal

pub print_text-requires : goal.print_text-requires
print_text-requires g c = (short c.args.s.now c.requires.0.answers, c.start-q.ensures.1)

pub characters-requires : goal.characters-requires
characters-requires g c = (short c.args.s.now c.requires.0.answers, c.start-q.ensures.1)
