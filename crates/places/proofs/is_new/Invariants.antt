use Rattle.places.proofs.Counting.{Meeting}
use Rattle.rules.specs.Scan.{saying}
use Rattle.places.proofs.is_new.Given as goal

abbrev pub invariant-loop : goal.invariant-loop
invariant-loop l = Meeting l.s l.i (saying l.s l.q) l.n l.c l.counter
