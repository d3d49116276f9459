use Rattle.census.proofs.Steps.{Counting}
use Rattle.census.specs.Count.{count_bundle}
use Rattle.parts.specs.Holds.{end}
use Rattle.rules.specs.Bundle.{body, templates, bundle}
use Rattle.rules.specs.Bits.{bits}
use Rattle.census.proofs.count.Given as goal

abbrev pub invariant-loop : goal.invariant-loop
invariant-loop l = Counting (body 16 16) (bits l.b) l.kind l.n l.counter l.cur (end (templates 16) (bits l.b) 8) l.sum (count_bundle l.kind (bundle l.b))
