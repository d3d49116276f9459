use Prim.Native.Nat.{◌+◌, ◌-◌, ◌*◌}
use Rattle.template.specs.Views.{in_body}
use Rattle.parts.specs.HoldsLaws.{Passed}
use Rattle.parts.specs.Holds.{end}
use Rattle.rules.specs.Bundle.{body}
use Rattle.rules.specs.Bits.{bits}
use Rattle.template.proofs.+skipping.Given as goal

abbrev pub decreases-skip_body : goal.decreases-skip_body
decreases-skip_body l = 4 * l.d

abbrev pub decreases-skip_content : goal.decreases-skip_content
decreases-skip_content l = 4 * l.d + 2

abbrev pub decreases-skip_maybe : goal.decreases-skip_maybe
decreases-skip_maybe l = 4 * l.d + 1

abbrev pub invariant-skip_body-loop : goal.invariant-skip_body-loop
invariant-skip_body-loop l = Passed (in_body l.w (l.d - 1)) (bits l.b) l.n l.counter l.cur (end (body l.w l.d) (bits l.b) l.p)
