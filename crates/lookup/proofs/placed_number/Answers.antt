use native.Mathlib.Omega.{arith}
use mathlib.Core.Path.{refl}
use borrow.Author.Tests.{lt-ltb, le-ltb}
use Rattle.rules.specs.Picks.{yes, no}
use borrow.Author.Rules.{rules}
use Rattle.lookup.proofs.placed_number.Goals as goal

pub returns-then-r-lt-MEMBER : goal.returns-then-r-lt-MEMBER
returns-then-r-lt-MEMBER c = yes _ _ _ _ (lt-ltb _ 2 c.if-r-lt-MEMBER.true) refl

pub overflow_add-result : goal.overflow_add-result
overflow_add-result c = omega (arith, c.requires.0, c.requires.1)

pub overflow_sub-result : goal.overflow_sub-result
overflow_sub-result c = omega (arith, c.requires.0, c.requires.1)

pub overflow_mul-result : goal.overflow_mul-result
overflow_mul-result c = omega (arith, c.requires.0, c.requires.1)

pub overflow_add-result-2 : goal.overflow_add-result-2
overflow_add-result-2 c = omega (arith, c.requires.0, c.requires.1)

pub returns : goal.returns
returns c = no _ _ _ _ (le-ltb c.args.r 2 (omega arith)) refl
