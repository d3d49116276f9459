use Rattle.places.proofs.Walking.{walk_within, Choosing, choose_start, choose_on, choose_end, in_pick}
use Rattle.places.specs.Children.{end_at}
use Rattle.places.specs.Kinds.{found, found_name, FoundIn}
use mathlib.Core.Path.{◌≡◌, ◌∙◌, refl}
use Prim.Native.Nat.{◌+◌, suc, ◌-◌, ◌≤◌, ◌<◌}
use Rattle.places.proofs.Fields.{index}
use native.Mathlib.Omega.{arith}
use borrow.Author.Rules.{rules}
use Rattle.places.proofs.next_member.Given as goal

abbrev pub invariant-loop-c : goal.invariant-loop-c
invariant-loop-c l = Choosing l.s l.i (found_name l.s l.after) l.c (found l.best) × FoundIn l.s l.best

abbrev pub decreases-loop-c : goal.decreases-loop-c
decreases-loop-c l = l.e - l.c
