use Rattle.rules.specs.Bits.{bits}
use Rattle.context.proofs.Starting.{Peeks}
use Rattle.context.proofs.begin_far.Given as goal

abbrev pub invariant-loop-ups : goal.invariant-loop-ups
invariant-loop-ups l = Peeks (bits l.b) l.p l.n l.ups l.at
