use Rattle.blocks.specs.Opened.{NamesNear, named, named_once}
use Rattle.parts.specs.declared.BlockParam.{BlockParam}
use Rattle.scope.specs.declared.Scope.{Scope}
use Prim.Native.Nat.{ℕ, ◌≤◌}
use native.Mathlib.Omega.{arith}
use mathlib.Core.Path.{sym, ap, ap₂, ◌∙◌, subst}
use borrow.Author.Rules.{rules}
use Rattle.blocks.proofs.each_scope.Goals as goal

pub returns : goal.returns
returns c = c.named.ensures ∙ ap (λ (x : Scope). named x c.args.names) (c.child.ensures ∙ rw (c.encode.ensures, c.behind.ensures))
