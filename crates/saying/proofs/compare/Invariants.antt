use Rattle.rules.specs.Order.{cmp}
use Rattle.rules.specs.Scan.{saying}
use Rattle.saying.specs.Said.{Inside, remaining}
use lib.ListN.{length}
use mathlib.Core.Path.{◌≡◌}
use Rattle.saying.proofs.compare.Given as goal

abbrev pub invariant-loop-a : goal.invariant-loop-a
invariant-loop-a l = Inside l.s l.at l.k × Inside l.s l.to l.m × (cmp (saying l.s l.i) (saying l.s l.j) ≡ cmp (remaining l.s l.at l.k) (remaining l.s l.to l.m))

abbrev pub decreases-loop-a : goal.decreases-loop-a
decreases-loop-a l = length (remaining l.s l.at l.k)
