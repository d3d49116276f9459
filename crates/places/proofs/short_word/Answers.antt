use Prim.Native.Nat.{◌-◌, ◌*◌, ◌^◌}
use native.Mathlib.Nat.{div-le_self}
use native.Mathlib.Omega.{arith}
use mathlib.Core.Path.{refl}
use Rattle.places.proofs.Short.{fill_small, short_is}
use borrow.Author.Rules.{rules}
use Rattle.places.proofs.short_word.Goals as goal

pub returns-then-m-gt7 : goal.returns-then-m-gt7
returns-then-m-gt7 c = λ ne. absurd (ne refl)

pub overflow_add-n : goal.overflow_add-n
overflow_add-n c = let a = c.args in omega (arith, c.requires, div-le_self a.x (2 ^ (56 - 8 * a.m)), fill_small (8 * a.m))

pub overflow_mul-result : goal.overflow_mul-result
overflow_mul-result c = let a = c.args in omega (arith, c.requires, div-le_self a.x (2 ^ (56 - 8 * a.m)))

pub overflow_add-result : goal.overflow_add-result
overflow_add-result c = let a = c.args in omega (arith, c.requires, div-le_self a.x (2 ^ (56 - 8 * a.m)))

pub returns-then-are_small : goal.returns-then-are_small
returns-then-are_small c = let a = c.args in λ ne. short_is a.x a.m _ (omega (arith, c.if-m-gt7.false)) (c.are_small.ensures c.if-are_small.true) refl

pub returns : goal.returns
returns c = λ ne. absurd (ne refl)
