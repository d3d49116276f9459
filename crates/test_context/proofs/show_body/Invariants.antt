use Rattle.std.proofs.Common.{◌-◌}
use Rattle.template.specs.Views.{in_body}
use Rattle.rules.specs.Bundle.{body}
use Rattle.parts.specs.HoldsLaws.{Passed}
use Rattle.parts.specs.Holds.{end}
use Rattle.rules.specs.Bits.{bits}
use Rattle.test_context.proofs.show_body.Given as goal

abbrev pub invariant-loop : goal.invariant-loop
invariant-loop g l = Passed (in_body 16 (l.d - 1)) (bits l.b) l.count l.counter l.cur (end (body 16 l.d) (bits l.b) l.p)
