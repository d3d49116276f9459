use Rattle.rules.specs.Bits.{bits}
use Rattle.layout.specs.Text.{text_at}
use Rattle.context.proofs.Climbing.{Climbs}
use Rattle.context.proofs.climb.Given as goal

abbrev pub invariant-loop-w : goal.invariant-loop-w
invariant-loop-w l = Climbs l.s l.i (text_at (bits l.b) l.q) l.at

abbrev pub decreases-loop-w : goal.decreases-loop-w
decreases-loop-w l = l.at
