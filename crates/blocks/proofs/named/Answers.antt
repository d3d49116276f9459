use Rattle.blocks.specs.Opened.{NamesNear, named, named_once}
use Rattle.parts.specs.declared.BlockParam.{BlockParam}
use Rattle.scope.specs.declared.Scope.{Scope}
use Prim.Native.Nat.{ℕ, ◌≤◌}
use native.Mathlib.Omega.{arith}
use mathlib.Core.Path.{sym, ap, ap₂, ◌∙◌, subst}
use borrow.Author.Rules.{rules}
use Rattle.blocks.proofs.named.Goals as goal

pub overflow_cast-p : goal.overflow_cast-p
overflow_cast-p c = omega (arith, subst NamesNear c.in-Single.is c.requires)

pub overflow_cast-p-in-Pair : goal.overflow_cast-p-in-Pair
overflow_cast-p-in-Pair c = omega (arith, subst NamesNear c.in-Pair.is c.requires)

pub returns-in-None : goal.returns-in-None
returns-in-None c = ap (named c.args.c) (sym c.in-None.is)

pub returns-in-Single : goal.returns-in-Single
returns-in-Single c = c.with_names.ensures ∙ ap (named c.args.c) (sym c.in-Single.is)

pub returns-in-Pair : goal.returns-in-Pair
returns-in-Pair c = c.with_names-in-Pair.ensures ∙ ap (named c.args.c) (sym c.in-Pair.is)
