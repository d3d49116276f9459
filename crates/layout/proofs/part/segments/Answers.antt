use Rattle.layout.specs.Walk.{place_by, unmarked}
use Rattle.layout.specs.WalkLaws.{count_again, count_end, count_start, counted_is}
use Rattle.rules.specs.Bits.{bits}
use Rattle.rules.specs.Bundle.{seg}
use mathlib.Core.Path.{◌∙◌, refl}
use native.Mathlib.Omega.{arith}
use Rattle.layout.proofs.part.segments.Goals as goal

pub loop-init : goal.loop-init
loop-init c = count_start unmarked unmarked seg (bits c.args.b.now) c.number-n.result (place_by c.ahead-cur.result)

pub loop-preserved : goal.loop-preserved
loop-preserved c = let l = c.loop in
    count_again unmarked unmarked seg (bits c.args.b.now) (λ x l. refl) c.number-n.result l.counter (place_by l.cur) _ (omega arith) c.segment-cur.ensures ∙ l.invariant

pub returns : goal.returns
returns c = let l = c.loop in
    count_end unmarked unmarked seg (bits c.args.b.now) refl c.number-n.result l.counter (place_by l.cur) (omega arith) ∙ l.invariant ∙ counted_is unmarked 8 seg (bits c.args.b.now) (place_by c.args.p) _ _ c.number-n.ensures c.ahead-cur.ensures
