use borrow.Author.Rules.{rules}
use borrow.Author.Tests.{le-leb, ne_eqb}
use native.Mathlib.Omega.{arith}
use Rattle.saying.proofs.is_own.Goals as goal

pub returns-then-c-gt92 : goal.returns-then-c-gt92
returns-then-c-gt92 c = let x = c.args.c in
    rw (le-leb 32 x (omega (arith, c.if-c-gt92.true)), ne_eqb x 34 (λ e. omega (arith, c.if-c-gt92.true)), ne_eqb x 92 (λ e. omega (arith, c.if-c-gt92.true)))
