use Rattle.parts.specs.HoldsLaws.{Passed}
use Rattle.rules.specs.Bits.{bits}
use Rattle.rules.specs.Bundle.{body}
use Rattle.parts.specs.Holds.{end}
use Rattle.template.specs.Views.{in_body, template_at}
use Rattle.template.specs.Bodies.{elements_at}
use Rattle.census.specs.Count.{count_body}
use Prim.Native.Nat.{◌-◌, ◌*◌, ◌+◌}
use mathlib.Core.Path.{◌≡◌}
use Rattle.census.proofs.+counting.Given as goal

abbrev pub decreases-count_body : goal.decreases-count_body
decreases-count_body l = 3 * l.d

abbrev pub decreases-count_element : goal.decreases-count_element
decreases-count_element l = 3 * l.d + 2

abbrev pub decreases-count_maybe : goal.decreases-count_maybe
decreases-count_maybe l = 3 * l.d + 1

abbrev pub invariant-count_body-loop : goal.invariant-count_body-loop
invariant-count_body-loop l = Passed (in_body l.w (l.d - 1)) (bits l.b) l.count l.counter l.cur (end (body l.w l.d) (bits l.b) l.p) × (count_body l.kind (elements_at l.w (l.d - 1) (l.count - l.counter) (bits l.b) l.cur) l.sum ≡ count_body l.kind (template_at l.w l.d (bits l.b) l.p) l.n)
