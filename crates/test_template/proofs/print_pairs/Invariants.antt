use Rattle.rules.specs.Bundle.{string, param}
use Rattle.rules.specs.Layout.{◌then◌}
use Rattle.parts.specs.HoldsLaws.{Passed}
use Rattle.parts.specs.Holds.{end, row}
use Rattle.rules.specs.Bits.{bits}
use Rattle.test_template.proofs.print_pairs.Given as goal

abbrev pub invariant-loop : goal.invariant-loop
invariant-loop g l = Passed (string then param l.d) (bits l.b) l.n l.counter l.cur (end (row (string then param l.d) l.n) (bits l.b) l.p)
