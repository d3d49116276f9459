use native.Mathlib.Omega.{arith}
use Rattle.scope.proofs.Numbers.{bare_missing, bare_context, bare_other}
use Rattle.scope.proofs.bare.Goals as goal

pub returns-then-n-eq0 : goal.returns-then-n-eq0
returns-then-n-eq0 c = bare_missing c.args.n c.if-n-eq0.true

pub overflow_add-result : goal.overflow_add-result
overflow_add-result c = omega arith

pub returns-then-n-eq5 : goal.returns-then-n-eq5
returns-then-n-eq5 c = bare_context c.args.n c.if-n-eq5.true

pub returns : goal.returns
returns c = bare_other c.args.n c.if-n-eq0.false c.if-n-eq5.false
