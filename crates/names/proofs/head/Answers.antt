use native.Mathlib.Omega.{arith}
use Rattle.names.specs.Head.{head_some}
use Rattle.names.proofs.head.Goals as goal

pub overflow_cast-result : goal.overflow_cast-result
overflow_cast-result c = omega (arith, c.type_inv.t 0)

pub overflow_add-result : goal.overflow_add-result
overflow_add-result c = omega (arith, c.type_inv.t 0, c.requires)

pub returns : goal.returns
returns c = head_some c.args.t.now c.requires.0
