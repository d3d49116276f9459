use Prim.Native.Nat.{◌≤◌}
use Rattle.rules.specs.Order.{cmp}
use Rattle.rules.specs.Scan.{saying}
use Rattle.saying.specs.Said.{remaining}
use lib.ListN.{length}
use mathlib.Core.Path.{◌≡◌}
use Rattle.places.proofs.order.Given as goal

abbrev pub invariant-loop-i : goal.invariant-loop-i
invariant-loop-i l = (l.p ≤ 65537) × (l.q ≤ 65537) × (cmp (saying l.s l.i) (saying l.s l.j) ≡ cmp (remaining l.s l.p 0) (remaining l.s l.q 0))

abbrev pub decreases-loop-i : goal.decreases-loop-i
decreases-loop-i l = length (remaining l.s l.p 0)
