use Rattle.parts.specs.HoldsLaws.{Passed}
use Rattle.parts.specs.Holds.{end, row}
use Rattle.rules.specs.Bundle.{seg}
use Rattle.rules.specs.Bits.{bits}
use Rattle.parts.proofs.skip_row.Given as goal

abbrev pub invariant-loop : goal.invariant-loop
invariant-loop l = Passed seg (bits l.b) l.n l.counter l.cur (end (row seg l.n) (bits l.b) l.p)
