use Rattle.std.proofs.Common.{arith}
use Rattle.calls.specs.Calls.{pair_stands, pair_content, pair_next}
use Rattle.rules.specs.Layout.{◌then◌}
use Rattle.rules.specs.Bundle.{string, param}
use Rattle.parts.specs.HoldsLaws.{row_start, passed_first, passed_again}
use Rattle.rules.specs.Bits.{bits}
use Rattle.test_template.proofs.print_pairs.Goals as goal

pub loop-init : goal.loop-init
loop-init g c = row_start (string then param c.args.d) (bits c.args.b.now) c.args.n c.args.p c.requires.1

pub print_text-requires : goal.print_text-requires
print_text-requires g c = (c.requires.0, (pair_stands c.args.d (bits c.args.b.now) _ (passed_first (string then param c.args.d) (bits c.args.b.now) _ _ _ _ c.loop.invariant (omega arith))).key)

pub skip_string-q-requires : goal.skip_string-q-requires
skip_string-q-requires g c = (c.requires.0, (pair_stands c.args.d (bits c.args.b.now) _ (passed_first (string then param c.args.d) (bits c.args.b.now) _ _ _ _ c.loop.invariant (omega arith))).key)

pub print_param-requires : goal.print_param-requires
print_param-requires g c = (c.requires.0, pair_content c.args.d (bits c.args.b.now) _ (passed_first (string then param c.args.d) (bits c.args.b.now) _ _ _ _ c.loop.invariant (omega arith)) _ c.skip_string-q.ensures)

pub skip_param-cur-requires : goal.skip_param-cur-requires
skip_param-cur-requires g c = (c.requires.0, pair_content c.args.d (bits c.args.b.now) _ (passed_first (string then param c.args.d) (bits c.args.b.now) _ _ _ _ c.loop.invariant (omega arith)) _ c.skip_string-q.ensures)

pub loop-preserved : goal.loop-preserved
loop-preserved g c = passed_again (string then param c.args.d) (bits c.args.b.now) _ _ _ _ c.loop.invariant (omega arith) _ (pair_next c.args.d (bits c.args.b.now) _ (passed_first (string then param c.args.d) (bits c.args.b.now) _ _ _ _ c.loop.invariant (omega arith)) _ c.skip_string-q.ensures _ c.skip_param-cur.ensures)
