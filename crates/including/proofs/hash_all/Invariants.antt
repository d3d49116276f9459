use Prim.Native.Nat.{ℕ, suc, ◌+◌, ◌-◌, ◌≤◌}
use mathlib.Core.Path.{◌≡◌, refl, sym, ap, ◌∙◌, subst}
use native.Mathlib.Omega.{arith}
use borrow.Author.Rules.{rules}
use lib.Dec.{eqb}
use lib.ListN.{length, set, length-set}
use Rattle.rules.specs.Bytes.{pick}
use Rattle.rules.specs.Bits.{bits}
use Rattle.rules.specs.Layout.{◌then◌}
use Rattle.rules.specs.Bundle.{string, param}
use Rattle.rules.specs.State.{RenderContext}
use Rattle.rules.specs.Registry.{Registry}
use Rattle.rules.specs.Expand as rules
use Rattle.parts.specs.Holds.{Holds, end}
use Rattle.calls.specs.Calls.{param_at, pair_content}
use Rattle.expand.specs.Answers.{Setting, Expands}
use Rattle.expand.proofs.Parts.{some_setting, some_used}
use Rattle.including.specs.Values.{pair_place, content_place, GotFits, Numbered, HashValuesIn}
use Rattle.including.specs.ValuesLaws.{got_fits, numbered, values_as_were, values_more}
use Rattle.including.specs.PairsLaws.{pair_holds, key_holds}
use Rattle.including.specs.Hashing.{next_place, WorkedOut, none_worked, one_worked, all_worked, one_refused, refusal_works, counted_all, counted_some}
use Rattle.including.proofs.hash_all.Given as goal

abbrev pub invariant-loop-i : goal.invariant-loop-i
invariant-loop-i l = (length l.values ≡ length l.initial.values) × (l.at ≡ pair_place l.d (bits l.b) l.p (l.i - 1))
    × ((g : Registry) (st : RenderContext) (t : ℕ) → Setting l.s l.b l.ent l.scopes l.used l.options g st t → HashValuesIn l.s l.b l.ent t l.d l.p l.i g st l.initial.values l.values × WorkedOut l.b l.d l.p g st l.i)
