use Rattle.std.specs.Prelude.{Some}
use Rattle.partials.proofs.Searches.{turn_found, turn_outer, turn_none, turn_ready, turn_is}
use Rattle.partials.specs.Finding.{EntryIs}
use Rattle.expand.specs.Answers.{name_of}
use Rattle.scope.specs.declared.Scope.{Scope}
use Rattle.scope.specs.Scopes.{blocks_of}
use Rattle.scope.proofs.NamesLaws.{in_stack}
use Rattle.meaning.specs.Standing.{Stands}
use Rattle.rules.specs.Partial.{get_partial}
use Rattle.rules.specs.Template.{Template}
use Prim.Native.Nat.{ℕ, ◌-◌, ◌≤◌}
use mathlib.Core.Path.{◌≡◌, refl, sym, ap, ◌∙◌, subst}
use mathlib.Core.Option.{Option}
use native.Mathlib.Omega.{arith}
use borrow.Author.Rules.{rules}
use Rattle.partials.proofs.get_partial.Given as goal

abbrev pub invariant-loop-i : goal.invariant-loop-i
invariant-loop-i l = (t : ℕ) → Stands l.s l.b l.ent t l.v → get_partial (blocks_of l.s l.b l.ent l.scopes l.i) (name_of l.s l.b l.ent l.v) ≡ get_partial (blocks_of l.s l.b l.ent l.scopes l.used) (name_of l.s l.b l.ent l.v)
