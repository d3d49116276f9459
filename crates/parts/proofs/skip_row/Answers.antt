use native.Mathlib.Omega.{arith}
use Rattle.parts.specs.HoldsLaws.{row_start, passed_first, passed_again, passed_end}
use Rattle.rules.specs.Bundle.{seg}
use Rattle.rules.specs.Bits.{bits}
use Rattle.parts.proofs.skip_row.Goals as goal

pub loop-init : goal.loop-init
loop-init c = let s = c in row_start seg (bits s.args.b.now) s.args.n s.args.p s.requires.1

pub skip_segment-cur-requires : goal.skip_segment-cur-requires
skip_segment-cur-requires c = let s = c in (s.requires.0, passed_first seg (bits s.args.b.now) _ _ _ _ c.loop.invariant (omega arith))

pub loop-preserved : goal.loop-preserved
loop-preserved c = let s = c in passed_again seg (bits s.args.b.now) _ _ _ _ c.loop.invariant (omega arith) _ c.skip_segment-cur.ensures

pub returns : goal.returns
returns c = let s = c in passed_end seg (bits s.args.b.now) _ _ _ _ c.loop.invariant (omega arith)
