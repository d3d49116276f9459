use Rattle.lookup.proofs.Finding.{Inward, inward_start, inward_plain, inward_end, inward_merged, inward_room, inward_found, inward_on, inward_less}
use Rattle.lookup.proofs.Told.{no_merged}
use Rattle.lookup.specs.Keys.{KeyFound}
use Rattle.lookup.specs.Answers as answers
use Rattle.meaning.specs.Meaning.{pairs, json_of, rank}
use Rattle.value.specs.Numbers.{decoded}
use Rattle.text.specs.Rest.{rest}
use Rattle.places.specs.Nodes.{short}
use Rattle.merging.specs.Lookup.{find_last}
use native.Mathlib.Omega.{arith}
use mathlib.Core.Path.{◌∙◌, ap, subst}
use borrow.Author.Rules.{rules}
use Rattle.lookup.proofs.get_member.Given as goal

abbrev pub invariant-loop-u : goal.invariant-loop-u
invariant-loop-u l = Inward l.s l.b l.ent l.initial.u (rest l.s l.b l.t) l.u

abbrev pub decreases-loop-u : goal.decreases-loop-u
decreases-loop-u l = rank l.u
