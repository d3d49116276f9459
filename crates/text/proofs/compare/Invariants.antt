use Rattle.rules.specs.Order.{cmp}
use Rattle.text.specs.Rest.{Stands, rest}
use lib.ListN.{length}
use mathlib.Core.Path.{◌≡◌}
use Rattle.text.proofs.compare.Given as goal

abbrev pub invariant-loop-c : goal.invariant-loop-c
invariant-loop-c l = Stands l.s l.b l.x × Stands l.s l.b l.y × (cmp (rest l.s l.b l.initial.x) (rest l.s l.b l.initial.y) ≡ cmp (rest l.s l.b l.x) (rest l.s l.b l.y))

abbrev pub decreases-loop-c : goal.decreases-loop-c
decreases-loop-c l = length (rest l.s l.b l.x)
