use Rattle.decorators.proofs.Naming.{one_more_unnamed}
use Rattle.decorators.specs.Inlined.{Unnamed}
use Rattle.layout.specs.Text.{text_at}
use Rattle.rules.specs.Bits.{bits}
use Prim.Native.Nat.{ℕ, ◌-◌, ◌≤◌}
use mathlib.Core.Path.{◌≡◌, refl, sym, ◌∙◌, subst}
use native.Mathlib.Omega.{arith}
use borrow.Author.Rules.{rules}
use Rattle.decorators.proofs.get_named_partial.Given as goal

abbrev pub invariant-loop-i : goal.invariant-loop-i
invariant-loop-i l = Unnamed l.s l.b l.ent l.e l.i (text_at (bits l.b) l.q)
