use Prim.Native.Nat.{ℕ, ◌+◌, ◌-◌, ◌≤◌, ◌<◌}
use lib.ListN.{get_or}
use Rattle.scope.specs.declared.Scope.{Scope}
use mathlib.Core.Path.{◌≡◌, sym, ap, ◌∙◌}
use native.Mathlib.Omega.{arith}
use Rattle.scope.proofs.NamesLaws.{in_stack}
use Rattle.scope.specs.Scopes.{blank}
use Rattle.state.specs.World.{sizes_of}
use Rattle.texts.specs.Peeking.{peeked}
use Rattle.texts.proofs.Downward.{sizes_down, peeked_down, peek_nothing, peek_text, peek_on_zero}
use borrow.Author.Rules.{rules}
use Rattle.texts.proofs.peek_partial_block.Given as goal

abbrev pub invariant-loop-i : goal.invariant-loop-i
invariant-loop-i l = (l.from + sizes_of l.scopes l.i ≡ l.initial.from + sizes_of l.scopes l.initial.i) × (peeked l.scopes l.i l.from ≡ peeked l.scopes l.initial.i l.initial.from)
