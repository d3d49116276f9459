use Rattle.layout.specs.Walk.{place_by}
use Rattle.layout.proofs.Parts.{seg_named, seg_other, seg_stays}
use Rattle.rules.specs.Bits.{bits}
use mathlib.Core.Path.{◌∙◌}
use native.Mathlib.Omega.{arith}
use Rattle.layout.proofs.part.segment.Goals as goal

pub returns-in-0 : goal.returns-in-0
returns-in-0 c = c.string.ensures ∙ seg_named (bits c.args.b.now) (place_by c.args.p) _ _ c.number-k.ensures c.ahead-q.ensures c.in-0.is

pub returns-in-1 : goal.returns-in-1
returns-in-1 c = seg_stays (bits c.args.b.now) (place_by c.args.p) _ _ c.number-k.ensures c.ahead-q.ensures (λ e. omega arith) (omega arith)

pub returns-in_default : goal.returns-in_default
returns-in_default c = seg_other (bits c.args.b.now) (place_by c.args.p) _ _ c.number-k.ensures c.ahead-q.ensures (omega arith)
