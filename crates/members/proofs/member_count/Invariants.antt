use Rattle.members.proofs.Counting.{Counted, counted_start, counted_plain, counted_end, counted_merged, counted_room, counted_held, counted_less, counted_on}
use Rattle.lookup.proofs.Told.{no_merged}
use Rattle.meaning.specs.Meaning.{rank}
use Rattle.places.specs.Accepted.{Accepted}
use Rattle.value.specs.Numbers.{decoded}
use native.Mathlib.Omega.{arith}
use mathlib.Core.Path.{◌∙◌, ap}
use borrow.Author.Rules.{rules}
use borrow.Enum.Refused.{opened}
use Rattle.members.proofs.member_count.Given as goal

abbrev pub invariant-loop-u : goal.invariant-loop-u
invariant-loop-u l = (a : Accepted l.s l.tab) → Counted l.s l.b l.tab a l.ent l.initial.u l.n l.u

abbrev pub decreases-loop-u : goal.decreases-loop-u
decreases-loop-u l = rank l.u
