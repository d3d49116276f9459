use Rattle.places.proofs.Counting.{no_members_of, new_by, new_small, Counting, count_start, count_walk, count_on, count_end}
use Rattle.places.proofs.Fields.{index}
use Rattle.places.specs.Children.{end_at, walk_child}
use Rattle.places.specs.Places.{children}
use Rattle.rules.specs.Bytes.{byte_at}
use Rattle.rules.specs.Scan.{saying}
use Prim.Native.Nat.{◌-◌, ◌<◌}
use lib.ListN.{take}
use mathlib.Core.Path.{◌∙◌, ap, sym}
use native.Mathlib.Omega.{arith}
use borrow.Author.Rules.{rules}
use Rattle.places.proofs.members.Given as goal

abbrev pub invariant-loop-c : goal.invariant-loop-c
invariant-loop-c l = Counting l.s l.i l.met l.n l.c

abbrev pub decreases-loop-c : goal.decreases-loop-c
decreases-loop-c l = l.e - l.c
