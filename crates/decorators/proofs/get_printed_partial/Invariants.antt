use Rattle.decorators.proofs.Naming.{one_compared, one_more_unnamed}
use Rattle.decorators.specs.Inlined.{Unnamed}
use Rattle.expand.specs.Answers.{name_of}
use Rattle.meaning.specs.Standing.{Stands}
use Rattle.scope.specs.Scopes.{inline_name}
use Prim.Native.Nat.{ℕ, ◌+◌, ◌-◌, ◌≤◌}
use mathlib.Core.Path.{◌≡◌, refl, subst}
use mathlib.Core.Bool.{true, false}
use native.Mathlib.Omega.{arith}
use borrow.Author.Rules.{rules}
use Rattle.decorators.proofs.get_printed_partial.Given as goal

abbrev pub invariant-loop-i : goal.invariant-loop-i
invariant-loop-i l = (t : ℕ) → Stands l.s l.b l.ent t l.v → Unnamed l.s l.b l.ent l.e l.i (name_of l.s l.b l.ent l.v)
