use Prim.Native.Nat.{ℕ, ◌+◌, ◌-◌}
use native.Mathlib.Omega.{arith}
use mathlib.Core.Path.{◌≡◌, refl, sym, ap, ◌∙◌, subst}
use Rattle.rules.specs.Bits.{bits}
use Rattle.layout.specs.Text.{text_at}
use Rattle.value.specs.Numbers.{decoded}
use Rattle.meaning.specs.Meaning.{pairs, json_of, merged_of, rank}
use Rattle.merging.specs.Lookup.{find_last}
use Rattle.lookup.specs.Answers as answers
use Rattle.lookup.specs.Keys.{KeyFound}
use Rattle.lookup.specs.Numbers.{pair_at}
use Rattle.lookup.proofs.Finding.{Inward, inward_start, inward_merged, inward_room, inward_on, inward_less}
use Rattle.lookup.proofs.Numbers.{pair_key, inner_base, inner_pair}
use Rattle.lookup.proofs.Ordered.{string_near}
use Rattle.lookup.proofs.Told.{no_merged}
use borrow.Author.Rules.{rules}
use Rattle.lookup.proofs.inner_number.Given as goal

abbrev pub invariant-loop-h : goal.invariant-loop-h
invariant-loop-h l = Inward l.s l.b l.ent (decoded l.v) (text_at (bits l.b) l.q) (decoded l.u)

abbrev pub decreases-loop-h : goal.decreases-loop-h
decreases-loop-h l = rank (decoded l.u)
