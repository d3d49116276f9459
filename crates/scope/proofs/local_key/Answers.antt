use borrow.Author.Tests.{lt-leb}
use Rattle.rules.specs.Picks.{no}
use native.Mathlib.Omega.{arith}
use mathlib.Core.Path.{refl}
use Rattle.scope.proofs.local_key.Goals as goal

pub returns : goal.returns
returns c = no _ _ _ _ (lt-leb 5 c.args.c.locals (omega arith)) refl
