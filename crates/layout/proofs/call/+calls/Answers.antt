use Rattle.layout.proofs.Calls.{call_is, pairs_again, pairs_broken, pairs_end, pairs_is, pairs_none, pairs_order, pairs_start, param_call, param_deep, param_literal, param_name, param_other, param_path}
use Rattle.layout.proofs.Entries.{text_in}
use Rattle.layout.specs.Walk.{place_by, after, unmarked}
use Rattle.layout.specs.WalkLaws.{place_none, place_some, count_again, count_end, count_start, counted_is}
use Rattle.rules.specs.Bits.{bits}
use Rattle.rules.specs.Bundle.{string, pairs, param, params}
use Rattle.rules.specs.BundleLaws.{bits_size}
use mathlib.Core.Path.{◌∙◌, ap, refl}
use native.Mathlib.Omega.{arith}
use Rattle.layout.proofs.call.+calls.Goals as goal

pub call-returns : goal.call-returns
call-returns t c = c.pairs.ensures ∙ ap (after (pairs (param c.args.d)) (bits c.args.b.now)) (c.params.ensures ∙ ap (after (params (param c.args.d)) (bits c.args.b.now)) c.param.ensures) ∙ call_is (param c.args.d) (bits c.args.b.now) (place_by c.args.p)

pub pairs-loop-i-init : goal.pairs-loop-i-init
pairs-loop-i-init t c = (omega arith, pairs_start (param c.args.d) (bits c.args.b.now) c.number-n.result (place_by c.ahead-cur.result))

pub pairs-returns-then-cur-lt-START : goal.pairs-returns-then-cur-lt-START
pairs-returns-then-cur-lt-START t c = let z = c.args in
    let b = bits z.b.now in
    let l = c.loop-i in
    pairs_broken (param z.d) b c.number-n.result l.i l.prev (place_by l.cur) (place_none _ c.if-cur-lt-START.true) ∙ l.invariant.1
    ∙ pairs_is (param z.d) b (place_by z.p) _ _ c.number-n.ensures c.ahead-cur.ensures

pub pairs-returns-then-value-lt-START : goal.pairs-returns-then-value-lt-START
pairs-returns-then-value-lt-START t c = let z = c.args in
    let b = bits z.b.now in
    let l = c.loop-i in
    let e = place_some l.cur (omega (arith, c.if-cur-lt-START.false)) in
    pairs_none (param z.d) b c.number-n.result l.i l.prev (place_by l.cur) (omega (arith, c.loop-i-test.true)) _ _ e _ (c.string-value.ensures ∙ ap (after string b) e) (place_none _ c.if-value-lt-START.true)
    ∙ l.invariant.1 ∙ pairs_is (param z.d) b (place_by z.p) _ _ c.number-n.ensures c.ahead-cur.ensures

pub pairs-may_follow-requires : goal.pairs-may_follow-requires
pairs-may_follow-requires t c = let z = c.args in
    let b = bits z.b.now in
    let l = c.loop-i in
    let e = place_some l.cur (omega (arith, c.if-cur-lt-START.false)) in
    let f = place_some c.string-value.result (omega (arith, c.if-value-lt-START.false)) in
    (omega (arith, l.invariant.0), omega (arith, text_in b _ _ _ (c.string-value.ensures ∙ ap (after string b) e) _ _ f, bits_size z.b.now, c.requires))

pub pairs-returns-then-not-may_follow : goal.pairs-returns-then-not-may_follow
pairs-returns-then-not-may_follow t c = let z = c.args in
    let b = bits z.b.now in
    let l = c.loop-i in
    let e = place_some l.cur (omega (arith, c.if-cur-lt-START.false)) in
    let f = place_some c.string-value.result (omega (arith, c.if-value-lt-START.false)) in
    pairs_order (param z.d) b c.number-n.result l.i l.prev (place_by l.cur) (omega (arith, c.loop-i-test.true)) _ _ e _ (c.string-value.ensures ∙ ap (after string b) e) _ _ f _ c.may_follow.ensures (c.if-not-may_follow.true)
    ∙ l.invariant.1 ∙ pairs_is (param z.d) b (place_by z.p) _ _ c.number-n.ensures c.ahead-cur.ensures

pub pairs-loop-i-preserved : goal.pairs-loop-i-preserved
pairs-loop-i-preserved t c = let z = c.args in
    let b = bits z.b.now in
    let l = c.loop-i in
    let e = place_some l.cur (omega (arith, c.if-cur-lt-START.false)) in
    let f = place_some c.string-value.result (omega (arith, c.if-value-lt-START.false)) in
    let h = c.string-value.ensures ∙ ap (after string b) e in (
      omega (arith, text_in b _ _ _ h _ _ f, bits_size z.b.now, c.requires),
      pairs_again (param z.d) b c.number-n.result l.i l.prev (place_by l.cur) (omega (arith, c.loop-i-test.true)) _ _ e _ h _ _ f _ c.may_follow.ensures (c.if-not-may_follow.false) _ (c.param-cur.ensures ∙ ap (after (param z.d) b) f) ∙ l.invariant.1,
    )

pub pairs-returns : goal.pairs-returns
pairs-returns t c = let l = c.loop-i in pairs_end (param c.args.d) (bits c.args.b.now) c.number-n.result l.i l.prev (place_by l.cur) (omega arith) ∙ l.invariant.1 ∙ pairs_is (param c.args.d) (bits c.args.b.now) (place_by c.args.p) _ _ c.number-n.ensures c.ahead-cur.ensures

pub param-returns-then-d-eq0 : goal.param-returns-then-d-eq0
param-returns-then-d-eq0 t c = param_deep c.args.d (bits c.args.b.now) (place_by c.args.p) c.if-d-eq0.true

pub param-returns-in-0 : goal.param-returns-in-0
param-returns-in-0 t c = c.string.ensures ∙ param_name c.args.d c.if-d-eq0.false (bits c.args.b.now) (place_by c.args.p) _ _ c.number-k.ensures c.ahead-q.ensures c.in-0.is

pub param-returns-in-1 : goal.param-returns-in-1
param-returns-in-1 t c = c.path.ensures ∙ param_path c.args.d c.if-d-eq0.false (bits c.args.b.now) (place_by c.args.p) _ _ c.number-k.ensures c.ahead-q.ensures c.in-1.is

pub param-returns-in-2 : goal.param-returns-in-2
param-returns-in-2 t c = c.literal.ensures ∙ param_literal c.args.d c.if-d-eq0.false (bits c.args.b.now) (place_by c.args.p) _ _ c.number-k.ensures c.ahead-q.ensures c.in-2.is

pub param-returns-in-3 : goal.param-returns-in-3
param-returns-in-3 t c = c.call.ensures ∙ param_call c.args.d c.if-d-eq0.false (bits c.args.b.now) (place_by c.args.p) _ _ c.number-k.ensures c.ahead-q.ensures c.in-3.is

pub param-returns-in_default : goal.param-returns-in_default
param-returns-in_default t c = param_other c.args.d c.if-d-eq0.false (bits c.args.b.now) (place_by c.args.p) _ _ c.number-k.ensures c.ahead-q.ensures (omega arith)

pub params-loop-init : goal.params-loop-init
params-loop-init t c = count_start unmarked unmarked (param c.args.d) (bits c.args.b.now) c.number-n.result (place_by c.ahead-cur.result)

pub params-loop-preserved : goal.params-loop-preserved
params-loop-preserved t c = let l = c.loop in
    count_again unmarked unmarked (param c.args.d) (bits c.args.b.now) (λ x l. refl) c.number-n.result l.counter (place_by l.cur) _ (omega arith) c.param-cur.ensures ∙ l.invariant

pub params-returns : goal.params-returns
params-returns t c = let l = c.loop in
    count_end unmarked unmarked (param c.args.d) (bits c.args.b.now) refl c.number-n.result l.counter (place_by l.cur) (omega arith) ∙ l.invariant ∙ counted_is unmarked 4 (param c.args.d) (bits c.args.b.now) (place_by c.args.p) _ _ c.number-n.ensures c.ahead-cur.ensures
