use Rattle.std.proofs.Common.{arith}
use Rattle.text.specs.Laws.{part_stands, said_stands}
use Rattle.test_text.proofs.read.Goals as goal

pub returns-then-kind-eq0 : goal.returns-then-kind-eq0
returns-then-kind-eq0 c = said_stands c.args.s.now c.args.b.now c.small-x.result (omega (arith, c.small-x.ensures))

pub returns-then-kind-eq1 : goal.returns-then-kind-eq1
returns-then-kind-eq1 c = part_stands c.args.s.now c.args.b.now c.small-x.result c.small-n.result (omega (arith, c.small-x.ensures))
