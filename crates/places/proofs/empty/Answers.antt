use Rattle.places.proofs.Scalars.{empty_is}
use Rattle.places.proofs.Fields.{index}
use native.Mathlib.Omega.{arith}
use borrow.Author.Rules.{rules}
use Rattle.places.proofs.empty.Goals as goal

pub overflow_add-result : goal.overflow_add-result
overflow_add-result c = omega (arith, (index c.args.s.now c.args.tab.now c.requires.0 c.args.i c.requires.1).small)

pub returns : goal.returns
returns c = empty_is c.args.s.now c.requires.0.answers c.args.i c.requires.1 c.end.result c.end.ensures
