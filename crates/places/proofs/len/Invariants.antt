use Rattle.places.proofs.Walking.{walk_within, count_end, count_more}
use Rattle.places.specs.Children.{end_at, Walk, walk_start, walk_on, walk_child}
use Rattle.places.specs.Places.{children}
use lib.ListN.{length}
use native.Mathlib.Numerals.{add-one}
use mathlib.Core.Path.{◌≡◌, subst, sym}
use Prim.Native.Nat.{◌+◌, suc, ◌-◌, ◌≤◌, ◌<◌}
use Rattle.places.proofs.Fields.{index}
use native.Mathlib.Omega.{arith}
use borrow.Author.Rules.{rules}
use Rattle.places.proofs.len.Given as goal

abbrev pub invariant-loop-c : goal.invariant-loop-c
invariant-loop-c l = Walk l.s l.i l.met l.c × (l.met ≤ length (children l.s l.i))

abbrev pub decreases-loop-c : goal.decreases-loop-c
decreases-loop-c l = l.e - l.c
