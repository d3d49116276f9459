use native.Mathlib.Omega.{arith}
use mathlib.Core.Path.{refl, sym, ◌∙◌}
use Rattle.rules.specs.Picks.{yes, no}
use Rattle.scope.proofs.Numbers.{number_one}
use Rattle.scope.proofs.one_number.Goals as goal

pub same_headed-requires : goal.same_headed-requires
same_headed-requires c = (c.requires.1, c.requires.0, c.field.ensures, c.requires.2, c.requires.3)

pub overflow_add-result : goal.overflow_add-result
overflow_add-result c = omega (arith, c.struct_known-1.given)

pub returns-then-same_headed : goal.returns-then-same_headed
returns-then-same_headed c = (yes _ _ _ _ (sym c.same_headed.ensures ∙ c.if-same_headed.true) (number_one c.args.c.base _ refl), omega (arith, c.struct_known-1.given))

pub returns : goal.returns
returns c = (no _ _ _ _ (sym c.same_headed.ensures ∙ c.if-same_headed.false) refl, omega arith)
