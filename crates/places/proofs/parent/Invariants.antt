use Rattle.places.proofs.Walking.{Rising, rise_start, rise_child, rise_on, rise_up}
use Rattle.places.specs.Children.{child_around}
use lib.Dec.{ltb}
use mathlib.Core.Path.{◌≡◌, ◌∙◌, refl}
use Prim.Native.Nat.{◌+◌, suc, ◌-◌, ◌≤◌, ◌<◌}
use Rattle.places.proofs.Fields.{index}
use native.Mathlib.Omega.{arith}
use borrow.Author.Rules.{rules}
use Rattle.places.proofs.parent.Given as goal

abbrev pub invariant-loop-d : goal.invariant-loop-d
invariant-loop-d l = Rising l.s l.c l.i l.d

abbrev pub decreases-loop-d : goal.decreases-loop-d
decreases-loop-d l = l.c - l.d
