use native.Mathlib.Omega.{arith}
use mathlib.Core.Path.{ap, sym, ◌∙◌}
use Rattle.calls.specs.Calls.{call_name, call_params, call_pairs, call_end, bare_end_at, pairs_fits, pairs_start, pair_stands, pair_content, pair_next}
use Rattle.calls.specs.Calls.{param_deep, param_fits, param_name, param_path, param_literal, param_call, param_last}
use Rattle.parts.specs.HoldsLaws.{moved, counted_holds, counted_start, passed_first, passed_again, passed_end}
use Rattle.parts.specs.Holds.{end}
use Rattle.rules.specs.Layout.{◌then◌}
use Rattle.rules.specs.BundleLaws.{bits_size}
use Rattle.rules.specs.Bundle.{string, param, params, pairs}
use Rattle.rules.specs.Bits.{bits}
use Rattle.calls.proofs.+skipping.Goals as goal

pub skip_call-skip_param-q-requires : goal.skip_call-skip_param-q-requires
skip_call-skip_param-q-requires t c = let s = c in (omega arith, (s.requires.0, call_name s.args.d (bits s.args.b.now) s.args.p s.requires.1))

pub skip_call-overflow_add-result : goal.skip_call-overflow_add-result
skip_call-overflow_add-result t c = let s = c in omega (arith, (bare_end_at s.args.d (bits s.args.b.now) s.args.p s.requires.1 _ c.skip_param-q.ensures (sym c.field.ensures ∙ c.if-field-eq0.true)).1, bits_size s.args.b.now)

pub skip_call-returns-then-field-eq0 : goal.skip_call-returns-then-field-eq0
skip_call-returns-then-field-eq0 t c = let s = c in (bare_end_at s.args.d (bits s.args.b.now) s.args.p s.requires.1 _ c.skip_param-q.ensures (sym c.field.ensures ∙ c.if-field-eq0.true)).0

pub skip_call-skip_params-requires : goal.skip_call-skip_params-requires
skip_call-skip_params-requires t c = let s = c in (omega arith, (s.requires.0, moved (params (param s.args.d)) (bits s.args.b.now) _ _ (sym c.skip_param-q.ensures) (call_params s.args.d (bits s.args.b.now) s.args.p s.requires.1)))

pub skip_call-skip_pairs-requires : goal.skip_call-skip_pairs-requires
skip_call-skip_pairs-requires t c = let s = c in (omega arith, (s.requires.0, moved (pairs (param s.args.d)) (bits s.args.b.now) _ _ (sym (c.skip_params.ensures ∙ ap (end (params (param s.args.d)) (bits s.args.b.now)) c.skip_param-q.ensures)) (call_pairs s.args.d (bits s.args.b.now) s.args.p s.requires.1)))

pub skip_call-returns : goal.skip_call-returns
skip_call-returns t c = let s = c in c.skip_pairs.ensures ∙ ap (end (pairs (param s.args.d)) (bits s.args.b.now)) (c.skip_params.ensures ∙ ap (end (params (param s.args.d)) (bits s.args.b.now)) c.skip_param-q.ensures) ∙ call_end s.args.d (bits s.args.b.now) s.args.p s.requires.1

pub skip_pairs-overflow_add-cur : goal.skip_pairs-overflow_add-cur
skip_pairs-overflow_add-cur t c = let s = c in omega (arith, pairs_fits s.args.d (bits s.args.b.now) s.args.p s.requires.1, bits_size s.args.b.now)

pub skip_pairs-loop-init : goal.skip_pairs-loop-init
skip_pairs-loop-init t c = let s = c in pairs_start s.args.d (bits s.args.b.now) s.args.p s.requires.1 _ c.field-n.ensures

pub skip_pairs-skip_string-requires : goal.skip_pairs-skip_string-requires
skip_pairs-skip_string-requires t c = let s = c in (s.requires.0, (pair_stands s.args.d (bits s.args.b.now) _ (passed_first (string then param s.args.d) (bits s.args.b.now) _ _ _ _ c.loop.invariant (omega arith))).key)

pub skip_pairs-skip_param-cur-requires : goal.skip_pairs-skip_param-cur-requires
skip_pairs-skip_param-cur-requires t c = let s = c in (omega arith, (s.requires.0, pair_content s.args.d (bits s.args.b.now) _ (passed_first (string then param s.args.d) (bits s.args.b.now) _ _ _ _ c.loop.invariant (omega arith)) _ c.skip_string.ensures))

pub skip_pairs-loop-preserved : goal.skip_pairs-loop-preserved
skip_pairs-loop-preserved t c = let s = c in passed_again (string then param s.args.d) (bits s.args.b.now) _ _ _ _ c.loop.invariant (omega arith) _ (pair_next s.args.d (bits s.args.b.now) _ (passed_first (string then param s.args.d) (bits s.args.b.now) _ _ _ _ c.loop.invariant (omega arith)) _ c.skip_string.ensures _ c.skip_param-cur.ensures)

pub skip_pairs-returns : goal.skip_pairs-returns
skip_pairs-returns t c = let s = c in passed_end (string then param s.args.d) (bits s.args.b.now) _ _ _ _ c.loop.invariant (omega arith)

pub skip_param-overflow_add-q : goal.skip_param-overflow_add-q
skip_param-overflow_add-q t c = let s = c in omega (arith, param_fits s.args.d (bits s.args.b.now) s.args.p s.requires.1, bits_size s.args.b.now)

pub skip_param-skip_string-requires : goal.skip_param-skip_string-requires
skip_param-skip_string-requires t c = let s = c in (s.requires.0, (param_name s.args.d (bits s.args.b.now) s.args.p s.requires.1 (sym c.field.ensures ∙ c.in-0.is)).inner)

pub skip_param-returns-in-0 : goal.skip_param-returns-in-0
skip_param-returns-in-0 t c = let s = c in c.skip_string.ensures ∙ (param_name s.args.d (bits s.args.b.now) s.args.p s.requires.1 (sym c.field.ensures ∙ c.in-0.is)).ends

pub skip_param-skip_path-requires : goal.skip_param-skip_path-requires
skip_param-skip_path-requires t c = let s = c in (s.requires.0, (param_path s.args.d (bits s.args.b.now) s.args.p s.requires.1 (sym c.field.ensures ∙ c.in-1.is)).inner)

pub skip_param-returns-in-1 : goal.skip_param-returns-in-1
skip_param-returns-in-1 t c = let s = c in c.skip_path.ensures ∙ (param_path s.args.d (bits s.args.b.now) s.args.p s.requires.1 (sym c.field.ensures ∙ c.in-1.is)).ends

pub skip_param-skip_literal-requires : goal.skip_param-skip_literal-requires
skip_param-skip_literal-requires t c = let s = c in (s.requires.0, (param_literal s.args.d (bits s.args.b.now) s.args.p s.requires.1 (sym c.field.ensures ∙ c.in-2.is)).inner)

pub skip_param-returns-in-2 : goal.skip_param-returns-in-2
skip_param-returns-in-2 t c = let s = c in c.skip_literal.ensures ∙ (param_literal s.args.d (bits s.args.b.now) s.args.p s.requires.1 (sym c.field.ensures ∙ c.in-2.is)).ends

pub skip_param-overflow_sub-d : goal.skip_param-overflow_sub-d
skip_param-overflow_sub-d t c = let s = c in omega (arith, param_deep s.args.d (bits s.args.b.now) s.args.p s.requires.1)

pub skip_param-skip_call-requires : goal.skip_param-skip_call-requires
skip_param-skip_call-requires t c = let s = c in (omega (arith, param_deep s.args.d (bits s.args.b.now) s.args.p s.requires.1), (s.requires.0, (param_call s.args.d (bits s.args.b.now) s.args.p s.requires.1 (param_last s.args.d (bits s.args.b.now) s.args.p s.requires.1 (λ e. omega (arith, c.field.ensures)) (λ e. omega (arith, c.field.ensures)) (λ e. omega (arith, c.field.ensures)))).inner))

pub skip_param-returns-in_default : goal.skip_param-returns-in_default
skip_param-returns-in_default t c = let s = c in c.skip_call.ensures ∙ (param_call s.args.d (bits s.args.b.now) s.args.p s.requires.1 (param_last s.args.d (bits s.args.b.now) s.args.p s.requires.1 (λ e. omega (arith, c.field.ensures)) (λ e. omega (arith, c.field.ensures)) (λ e. omega (arith, c.field.ensures)))).ends

pub skip_params-overflow_add-cur : goal.skip_params-overflow_add-cur
skip_params-overflow_add-cur t c = let s = c in omega (arith, (counted_holds 4 (param s.args.d) (bits s.args.b.now) s.args.p s.requires.1).fits, bits_size s.args.b.now)

pub skip_params-loop-init : goal.skip_params-loop-init
skip_params-loop-init t c = let s = c in counted_start (param s.args.d) (bits s.args.b.now) 4 s.args.p s.requires.1 _ c.field-n.ensures

pub skip_params-skip_param-cur-requires : goal.skip_params-skip_param-cur-requires
skip_params-skip_param-cur-requires t c = let s = c in (omega arith, (s.requires.0, passed_first (param s.args.d) (bits s.args.b.now) _ _ _ _ c.loop.invariant (omega arith)))

pub skip_params-loop-preserved : goal.skip_params-loop-preserved
skip_params-loop-preserved t c = let s = c in passed_again (param s.args.d) (bits s.args.b.now) _ _ _ _ c.loop.invariant (omega arith) _ c.skip_param-cur.ensures

pub skip_params-returns : goal.skip_params-returns
skip_params-returns t c = let s = c in passed_end (param s.args.d) (bits s.args.b.now) _ _ _ _ c.loop.invariant (omega arith)
