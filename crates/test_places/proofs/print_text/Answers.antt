use Rattle.std.proofs.Common.{arith}
use Rattle.saying.proofs.Remaining.{inside_start}
use Rattle.test_places.proofs.print_text.Goals as goal

pub loop-init : goal.loop-init
loop-init g c = inside_start c.args.s.now _ (omega (arith, c.requires))
