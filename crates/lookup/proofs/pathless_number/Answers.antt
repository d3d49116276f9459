use native.Mathlib.Omega.{arith}
use Rattle.lookup.proofs.Numbers.{pathless_context, pathless_other}
use borrow.Author.Rules.{rules}
use Rattle.lookup.proofs.pathless_number.Goals as goal

pub overflow_add-result : goal.overflow_add-result
overflow_add-result c = omega arith

pub returns-then-n-eq-CONTEXT : goal.returns-then-n-eq-CONTEXT
returns-then-n-eq-CONTEXT c = pathless_context c.args.n c.if-n-eq-CONTEXT.true

pub returns : goal.returns
returns c = pathless_other c.args.n c.if-n-eq-CONTEXT.false
