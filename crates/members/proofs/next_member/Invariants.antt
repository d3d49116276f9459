use Rattle.members.proofs.Nearing.{has_keyed}
use Rattle.members.proofs.Stepping.{Inwards, inwards_start, inwards_plain, inwards_end, inwards_merged, inwards_room, inwards_less, inwards_on}
use Rattle.members.specs.Next.{after_name, PlainItem, PairItem, ItemHeld}
use Rattle.lookup.proofs.Told.{no_merged}
use Rattle.meaning.specs.Meaning.{rank}
use Rattle.value.specs.Numbers.{decoded}
use native.Mathlib.Omega.{arith}
use mathlib.Core.Path.{◌∙◌, ap}
use borrow.Author.Rules.{rules}
use borrow.Enum.Refused.{opened}
use Rattle.members.proofs.next_member.Given as goal

abbrev pub invariant-loop-u : goal.invariant-loop-u
invariant-loop-u l = Inwards l.s l.b l.ent l.initial.u (after_name l.s l.b l.after) l.best l.u

abbrev pub decreases-loop-u : goal.decreases-loop-u
decreases-loop-u l = rank l.u
