use Prim.Native.Nat.{◌-◌}
use Rattle.layout.proofs.Bodies.{body_deep, body_is, comment_is, decorator_block_is, decorator_is, element_other, elements_context, expression_is, helper_is, html_is, in_body, maybe_none, maybe_other, maybe_some, partial_block_is, partial_is, placed_context, placed_is, raw_string_is}
use Rattle.layout.specs.Walk.{place_by, after, ahead, past}
use Rattle.layout.specs.WalkLaws.{count_again, count_end, count_start}
use Rattle.rules.specs.Bits.{bits}
use Rattle.rules.specs.Bundle.{block_names, body, body_context, call_of, element_context, element_of, flag, indent, maybe_body, maybe_context, param}
use Rattle.rules.specs.Layout.{◌then◌}
use mathlib.Core.Path.{◌∙◌, ap, refl}
use native.Mathlib.Omega.{arith}
use Rattle.layout.proofs.body.+bodies.Goals as goal

pub body-returns-then-d-eq0 : goal.body-returns-then-d-eq0
body-returns-then-d-eq0 t c = body_deep c.args.w c.args.d (bits c.args.b.now) (place_by c.args.p) c.if-d-eq0.true

pub body-loop-init : goal.body-loop-init
body-loop-init t c = count_start elements_context placed_context (in_body c.args.w c.args.d) (bits c.args.b.now) c.number-n.result (place_by c.ahead-cur.result)

pub body-loop-preserved : goal.body-loop-preserved
body-loop-preserved t c = let l = c.loop in
    let one = c.element-cur.ensures ∙ ap (past element_context (element_of (call_of (param (c.args.d - 1))) (body c.args.w (c.args.d - 1))) (bits c.args.b.now)) (c.ahead-kind.ensures ∙ ap (ahead (bits c.args.b.now) c.args.w) c.ahead.ensures) ∙ placed_is c.args.w (call_of (param (c.args.d - 1))) (body c.args.w (c.args.d - 1)) (bits c.args.b.now) (place_by l.cur) in
    count_again elements_context placed_context (in_body c.args.w c.args.d) (bits c.args.b.now) (λ x l. refl) c.number-n.result l.counter (place_by l.cur) _ (omega arith) one ∙ l.invariant

pub body-returns : goal.body-returns
body-returns t c = let l = c.loop in
    count_end elements_context placed_context (in_body c.args.w c.args.d) (bits c.args.b.now) refl c.number-n.result l.counter (place_by l.cur) (omega arith) ∙ l.invariant ∙ body_is c.args.w c.args.d (bits c.args.b.now) (place_by c.args.p) _ _ c.if-d-eq0.false c.number-n.ensures c.ahead-cur.ensures

pub element-returns-in-0 : goal.element-returns-in-0
element-returns-in-0 t c = c.string.ensures ∙ raw_string_is (call_of (param c.args.d)) (body c.args.w c.args.d) (bits c.args.b.now) (place_by c.args.p) _ _ c.number-k.ensures c.ahead-q.ensures c.in-0.is

pub element-returns-in-1 : goal.element-returns-in-1
element-returns-in-1 t c = c.flag.ensures ∙ ap (after flag (bits c.args.b.now)) c.call.ensures ∙ html_is (call_of (param c.args.d)) (body c.args.w c.args.d) (bits c.args.b.now) (place_by c.args.p) _ _ c.number-k.ensures c.ahead-q.ensures c.in-1.is

pub element-returns-in-2 : goal.element-returns-in-2
element-returns-in-2 t c = c.flag-in-2.ensures ∙ ap (after flag (bits c.args.b.now)) c.call-in-2.ensures ∙ expression_is (call_of (param c.args.d)) (body c.args.w c.args.d) (bits c.args.b.now) (place_by c.args.p) _ _ c.number-k.ensures c.ahead-q.ensures c.in-2.is

pub element-returns-in-3 : goal.element-returns-in-3
element-returns-in-3 t c = c.flag-in-3.ensures ∙ ap (after flag (bits c.args.b.now)) (c.maybe_body-inverse.ensures ∙ ap (past maybe_context (maybe_body (body c.args.w c.args.d)) (bits c.args.b.now)) (c.maybe_body-template.ensures ∙ ap (past maybe_context (maybe_body (body c.args.w c.args.d)) (bits c.args.b.now)) (c.block_names-names.ensures ∙ ap (after block_names (bits c.args.b.now)) c.call-in-3.ensures))) ∙ helper_is (call_of (param c.args.d)) (body c.args.w c.args.d) (bits c.args.b.now) (place_by c.args.p) _ _ c.number-k.ensures c.ahead-q.ensures c.in-3.is

pub element-returns-in-4 : goal.element-returns-in-4
element-returns-in-4 t c = c.tail.ensures ∙ ap (after (indent then flag) (bits c.args.b.now)) c.call-in-4.ensures ∙ decorator_is (call_of (param c.args.d)) (body c.args.w c.args.d) (bits c.args.b.now) (place_by c.args.p) _ _ c.number-k.ensures c.ahead-q.ensures c.in-4.is

pub element-returns-in-5 : goal.element-returns-in-5
element-returns-in-5 t c = c.tail-in-5.ensures ∙ ap (after (indent then flag) (bits c.args.b.now)) (c.body.ensures ∙ ap (past body_context (body c.args.w c.args.d) (bits c.args.b.now)) c.call-in-5.ensures) ∙ decorator_block_is (call_of (param c.args.d)) (body c.args.w c.args.d) (bits c.args.b.now) (place_by c.args.p) _ _ c.number-k.ensures c.ahead-q.ensures c.in-5.is

pub element-returns-in-6 : goal.element-returns-in-6
element-returns-in-6 t c = c.tail-in-6.ensures ∙ ap (after (indent then flag) (bits c.args.b.now)) c.partial_call.ensures ∙ partial_is (call_of (param c.args.d)) (body c.args.w c.args.d) (bits c.args.b.now) (place_by c.args.p) _ _ c.number-k.ensures c.ahead-q.ensures c.in-6.is

pub element-returns-in-7 : goal.element-returns-in-7
element-returns-in-7 t c = c.tail-in-7.ensures ∙ ap (after (indent then flag) (bits c.args.b.now)) (c.body-in-7.ensures ∙ ap (past body_context (body c.args.w c.args.d) (bits c.args.b.now)) c.partial_call-in-7.ensures) ∙ partial_block_is (call_of (param c.args.d)) (body c.args.w c.args.d) (bits c.args.b.now) (place_by c.args.p) _ _ c.number-k.ensures c.ahead-q.ensures c.in-7.is

pub element-returns-in-8 : goal.element-returns-in-8
element-returns-in-8 t c = c.string-in-8.ensures ∙ comment_is (call_of (param c.args.d)) (body c.args.w c.args.d) (bits c.args.b.now) (place_by c.args.p) _ _ c.number-k.ensures c.ahead-q.ensures c.in-8.is

pub element-returns-in_default : goal.element-returns-in_default
element-returns-in_default t c = element_other (call_of (param c.args.d)) (body c.args.w c.args.d) (bits c.args.b.now) (place_by c.args.p) _ _ c.number-k.ensures c.ahead-q.ensures (omega arith)

pub maybe_body-returns-in-0 : goal.maybe_body-returns-in-0
maybe_body-returns-in-0 t c = maybe_none (body c.args.w c.args.d) (bits c.args.b.now) (place_by c.args.p) _ _ c.number-k.ensures c.ahead-q.ensures c.in-0.is

pub maybe_body-returns-in-1 : goal.maybe_body-returns-in-1
maybe_body-returns-in-1 t c = c.body.ensures ∙ maybe_some (body c.args.w c.args.d) (bits c.args.b.now) (place_by c.args.p) _ _ c.number-k.ensures c.ahead-q.ensures c.in-1.is

pub maybe_body-returns-in_default : goal.maybe_body-returns-in_default
maybe_body-returns-in_default t c = maybe_other (body c.args.w c.args.d) (bits c.args.b.now) (place_by c.args.p) _ _ c.number-k.ensures c.ahead-q.ensures (omega arith)
