use Rattle.layout.specs.Walk.{place_by}
use Rattle.layout.proofs.Calls.{partial_named, partial_none, partial_other}
use Rattle.rules.specs.Bits.{bits}
use mathlib.Core.Path.{◌∙◌}
use Rattle.layout.proofs.call.partial_call.Goals as goal

pub returns-then-number-eq0 : goal.returns-then-number-eq0
returns-then-number-eq0 c = partial_none c.args.d (bits c.args.b.now) (place_by c.args.p) _ _ c.param-q.ensures c.number.ensures _ c.params.ensures _ c.pairs-end.ensures c.if-number-eq0.true

pub returns-then-number-ge2 : goal.returns-then-number-ge2
returns-then-number-ge2 c = partial_other c.args.d (bits c.args.b.now) (place_by c.args.p) _ _ c.param-q.ensures c.number.ensures _ c.params.ensures _ c.pairs-end.ensures c.if-number-eq0.false _ _ c.ahead.ensures c.number-2.ensures c.if-number-ge2.true

pub returns : goal.returns
returns c = c.marked.ensures ∙ partial_named c.args.d (bits c.args.b.now) (place_by c.args.p) _ _ c.param-q.ensures c.number.ensures _ c.params.ensures _ c.pairs-end.ensures c.if-number-eq0.false _ _ c.ahead.ensures c.number-2.ensures c.if-number-ge2.false
