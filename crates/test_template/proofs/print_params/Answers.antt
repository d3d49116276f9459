use Rattle.std.proofs.Common.{arith}
use Rattle.rules.specs.Bundle.{param}
use Rattle.parts.specs.HoldsLaws.{row_start, passed_first, passed_again}
use Rattle.rules.specs.Bits.{bits}
use Rattle.test_template.proofs.print_params.Goals as goal

pub loop-init : goal.loop-init
loop-init g c = row_start (param c.args.d) (bits c.args.b.now) c.args.n c.args.p c.requires.1

pub print_param-requires : goal.print_param-requires
print_param-requires g c = (c.requires.0, passed_first (param c.args.d) (bits c.args.b.now) _ _ _ _ c.loop.invariant (omega arith))

pub skip_param-cur-requires : goal.skip_param-cur-requires
skip_param-cur-requires g c = (c.requires.0, passed_first (param c.args.d) (bits c.args.b.now) _ _ _ _ c.loop.invariant (omega arith))

pub loop-preserved : goal.loop-preserved
loop-preserved g c = passed_again (param c.args.d) (bits c.args.b.now) _ _ _ _ c.loop.invariant (omega arith) _ c.skip_param-cur.ensures
