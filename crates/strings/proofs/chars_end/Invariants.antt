use Prim.Native.Nat.{◌+◌, ◌-◌, ℕ}
use Rattle.strings.proofs.Ends.{Going, going_broken, going_end, going_on, going_run, going_start}
use Rattle.strings.proofs.Lengths.{char_in, char_most}
use borrow.Author.Rules.{rules}
use lib.ListN.{length}
use mathlib.Core.Path.{◌∙◌, subst, sym}
use native.Mathlib.Omega.{arith}
use Rattle.strings.proofs.chars_end.Given as goal

abbrev pub invariant-loop-i : goal.invariant-loop-i
invariant-loop-i l = Going l.s l.i l.j

abbrev pub decreases-loop-i : goal.decreases-loop-i
decreases-loop-i l = length l.s - l.j
