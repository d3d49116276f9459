use Rattle.text.specs.Rest.{Stands, rest}
use Rattle.text.specs.Strip.{stripped}
use lib.ListN.{length}
use mathlib.Core.Path.{◌≡◌}
use Rattle.text.proofs.strip.Given as goal

abbrev pub invariant-loop-d : goal.invariant-loop-d
invariant-loop-d l = Stands l.s l.b l.u × Stands l.s l.b l.y × (stripped (rest l.s l.b l.initial.y) (rest l.s l.b l.initial.u) ≡ stripped (rest l.s l.b l.y) (rest l.s l.b l.u))

abbrev pub decreases-loop-d : goal.decreases-loop-d
decreases-loop-d l = length (rest l.s l.b l.y)
