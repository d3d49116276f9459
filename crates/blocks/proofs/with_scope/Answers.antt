use Rattle.blocks.specs.Opened.{NamesNear, named, named_once}
use Rattle.parts.specs.declared.BlockParam.{BlockParam}
use Rattle.scope.specs.declared.Scope.{Scope}
use Prim.Native.Nat.{ℕ, ◌≤◌}
use native.Mathlib.Omega.{arith}
use mathlib.Core.Path.{sym, ap, ap₂, ◌∙◌, subst}
use borrow.Author.Rules.{rules}
use Rattle.blocks.proofs.with_scope.Goals as goal

pub overflow_cast-p : goal.overflow_cast-p
overflow_cast-p c = omega (arith, subst NamesNear c.in-Single.is c.requires.1)

pub returns-in-None : goal.returns-in-None
returns-in-None c = (c.with_locals-c.ensures ∙ rw (c.child.ensures, c.encode.ensures, c.behind.ensures)) ∙ ap (named_once _) (sym c.in-None.is)

pub returns-in-Single : goal.returns-in-Single
returns-in-Single c = c.with_names.ensures ∙ rw (c.with_locals-c.ensures, c.child.ensures, c.encode.ensures, c.behind.ensures) (ap (named_once _) (sym c.in-Single.is))

pub returns-in-Pair : goal.returns-in-Pair
returns-in-Pair c = (c.with_locals-c.ensures ∙ rw (c.child.ensures, c.encode.ensures, c.behind.ensures)) ∙ ap (named_once _) (sym c.in-Pair.is)
