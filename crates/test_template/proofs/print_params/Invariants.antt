use Rattle.rules.specs.Bundle.{param}
use Rattle.parts.specs.HoldsLaws.{Passed}
use Rattle.parts.specs.Holds.{end, row}
use Rattle.rules.specs.Bits.{bits}
use Rattle.test_template.proofs.print_params.Given as goal

abbrev pub invariant-loop : goal.invariant-loop
invariant-loop g l = Passed (param l.d) (bits l.b) l.n l.counter l.cur (end (row (param l.d) l.n) (bits l.b) l.p)
