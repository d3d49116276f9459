use native.Mathlib.Omega.{arith}
use mathlib.Core.Path.{refl}
use borrow.Author.Tests.{lt-ltb, le-ltb}
use Rattle.rules.specs.Picks.{yes, no}
use Rattle.scope.proofs.spare.Goals as goal

pub returns-then-y-lt-LONG : goal.returns-then-y-lt-LONG
returns-then-y-lt-LONG c = yes _ _ _ _ (lt-ltb c.args.y 6597069766656 c.if-y-lt-LONG.true) refl

pub returns : goal.returns
returns c = no _ _ _ _ (le-ltb c.args.y 6597069766656 (omega arith)) refl
