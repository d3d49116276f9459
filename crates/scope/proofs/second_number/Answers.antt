use native.Mathlib.Omega.{arith}
use mathlib.Core.Path.{refl}
use borrow.Author.Tests.{lt-leb}
use Rattle.rules.specs.Picks.{no}
use Rattle.scope.proofs.Numbers.{index_number}
use Rattle.scope.proofs.second_number.Goals as goal

pub overflow_add-result : goal.overflow_add-result
overflow_add-result c = omega (arith, c.struct_known-1.given)

pub returns : goal.returns
returns c = (no _ _ _ _ (lt-leb 5 c.args.c.locals (omega arith)) (index_number c.args.c.index _ (omega (arith, c.struct_known-1.given)) refl), omega (arith, c.struct_known-1.given))
