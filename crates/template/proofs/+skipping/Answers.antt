use native.Mathlib.Omega.{arith}
use mathlib.Core.Path.{sym, ◌∙◌}
use Prim.Native.Nat.{◌+◌, ◌-◌}
use Rattle.template.proofs.Places.{block_named, block_template, block_inverse, block_fits, block_ends}
use Rattle.template.proofs.Places.{text_here, call_here, written_skip, helper_at, helper_end, bodiless_here, bodied_here, bodied_behind, tail_skip}
use Rattle.template.specs.Bodies.{body_deep, body_fits, body_start, placed_fits, placed_holds, placed_next}
use Rattle.template.specs.Content.{tail_indent, maybe_fits, maybe_none, maybe_some, maybe_there, element_fits}
use Rattle.template.specs.Views.{in_body}
use Rattle.parts.specs.HoldsLaws.{passed_first, passed_again, passed_end}
use Rattle.rules.specs.BundleLaws.{bits_size}
use Rattle.rules.specs.Bundle.{body, call_of, param}
use Rattle.rules.specs.Bits.{bits}
use Rattle.template.proofs.+skipping.Goals as goal

pub skip_body-overflow_add-cur : goal.skip_body-overflow_add-cur
skip_body-overflow_add-cur t c = let s = c in omega (arith, body_fits s.args.w s.args.d (bits s.args.b.now) s.args.p s.requires.1, bits_size s.args.b.now)

pub skip_body-loop-init : goal.skip_body-loop-init
skip_body-loop-init t c = let s = c in body_start s.args.w s.args.d (bits s.args.b.now) s.args.p s.requires.1 _ c.field-n.ensures

pub skip_body-overflow_add-cur-in-loop : goal.skip_body-overflow_add-cur-in-loop
skip_body-overflow_add-cur-in-loop t c = let s = c in omega (arith, placed_fits s.args.w (call_of (param (s.args.d - 1))) (body s.args.w (s.args.d - 1)) (bits s.args.b.now) _ (passed_first (in_body s.args.w (s.args.d - 1)) (bits s.args.b.now) _ _ _ _ c.loop.invariant (omega arith)), bits_size s.args.b.now)

pub skip_body-overflow_add-cur-in-loop-2 : goal.skip_body-overflow_add-cur-in-loop-2
skip_body-overflow_add-cur-in-loop-2 t c = let s = c in omega (arith, placed_fits s.args.w (call_of (param (s.args.d - 1))) (body s.args.w (s.args.d - 1)) (bits s.args.b.now) _ (passed_first (in_body s.args.w (s.args.d - 1)) (bits s.args.b.now) _ _ _ _ c.loop.invariant (omega arith)), bits_size s.args.b.now)

pub skip_body-overflow_sub-d : goal.skip_body-overflow_sub-d
skip_body-overflow_sub-d t c = let s = c in omega (arith, body_deep s.args.w s.args.d (bits s.args.b.now) s.args.p s.requires.1)

pub skip_body-skip_content-cur-requires : goal.skip_body-skip_content-cur-requires
skip_body-skip_content-cur-requires t c = let s = c in (omega (arith, body_deep s.args.w s.args.d (bits s.args.b.now) s.args.p s.requires.1), (s.requires.0, placed_holds s.args.w (call_of (param (s.args.d - 1))) (body s.args.w (s.args.d - 1)) (bits s.args.b.now) _ (passed_first (in_body s.args.w (s.args.d - 1)) (bits s.args.b.now) _ _ _ _ c.loop.invariant (omega arith))))

pub skip_body-loop-preserved : goal.skip_body-loop-preserved
skip_body-loop-preserved t c = let s = c in passed_again (in_body s.args.w (s.args.d - 1)) (bits s.args.b.now) _ _ _ _ c.loop.invariant (omega arith) _ (placed_next s.args.w (call_of (param (s.args.d - 1))) (body s.args.w (s.args.d - 1)) (bits s.args.b.now) _ (passed_first (in_body s.args.w (s.args.d - 1)) (bits s.args.b.now) _ _ _ _ c.loop.invariant (omega arith)) _ c.skip_content-cur.ensures)

pub skip_body-returns : goal.skip_body-returns
skip_body-returns t c = let s = c in passed_end (in_body s.args.w (s.args.d - 1)) (bits s.args.b.now) _ _ _ _ c.loop.invariant (omega arith)

pub skip_content-overflow_add-q : goal.skip_content-overflow_add-q
skip_content-overflow_add-q t c = let s = c in omega (arith, element_fits s.args.w s.args.d (bits s.args.b.now) s.args.p s.requires.1, bits_size s.args.b.now)

pub skip_content-skip_string-requires : goal.skip_content-skip_string-requires
skip_content-skip_string-requires t c = let s = c in (s.requires.0, (text_here s.args.w s.args.d (bits s.args.b.now) s.args.p s.requires.1 _ c.field-k.ensures c.if-k-eq0.true).inner)

pub skip_content-returns-then-k-eq0 : goal.skip_content-returns-then-k-eq0
skip_content-returns-then-k-eq0 t c = let s = c in c.skip_string.ensures ∙ (text_here s.args.w s.args.d (bits s.args.b.now) s.args.p s.requires.1 _ c.field-k.ensures c.if-k-eq0.true).ends

pub skip_content-skip_call-f-requires : goal.skip_content-skip_call-f-requires
skip_content-skip_call-f-requires t c = let s = c in (s.requires.0, call_here s.args.w s.args.d (bits s.args.b.now) s.args.p s.requires.1 _ c.field-k.ensures c.if-k-eq0.false)

pub skip_content-overflow_add-result : goal.skip_content-overflow_add-result
skip_content-overflow_add-result t c = let s = c in omega (arith, (written_skip s.args.w s.args.d (bits s.args.b.now) s.args.p s.requires.1 _ c.field-k.ensures c.if-k-eq0.false _ c.skip_call-f.ensures c.if-k-lt3.true).1, bits_size s.args.b.now)

pub skip_content-returns-then-k-lt3 : goal.skip_content-returns-then-k-lt3
skip_content-returns-then-k-lt3 t c = let s = c in (written_skip s.args.w s.args.d (bits s.args.b.now) s.args.p s.requires.1 _ c.field-k.ensures c.if-k-eq0.false _ c.skip_call-f.ensures c.if-k-lt3.true).0

pub skip_content-skip_block_names-template-requires : goal.skip_content-skip_block_names-template-requires
skip_content-skip_block_names-template-requires t c = let s = c in (s.requires.0, block_named s.args.w s.args.d (bits s.args.b.now) (s.args.p + 4) (helper_at s.args.w s.args.d (bits s.args.b.now) s.args.p s.requires.1 _ c.field-k.ensures c.if-k-eq3.true) _ c.skip_call-f.ensures)

pub skip_content-skip_maybe-inverse-requires : goal.skip_content-skip_maybe-inverse-requires
skip_content-skip_maybe-inverse-requires t c = let s = c in (omega arith, (s.requires.0, block_template s.args.w s.args.d (bits s.args.b.now) (s.args.p + 4) (helper_at s.args.w s.args.d (bits s.args.b.now) s.args.p s.requires.1 _ c.field-k.ensures c.if-k-eq3.true) _ c.skip_call-f.ensures _ c.skip_block_names-template.ensures))

pub skip_content-skip_maybe-requires : goal.skip_content-skip_maybe-requires
skip_content-skip_maybe-requires t c = let s = c in (omega arith, (s.requires.0, block_inverse s.args.w s.args.d (bits s.args.b.now) (s.args.p + 4) (helper_at s.args.w s.args.d (bits s.args.b.now) s.args.p s.requires.1 _ c.field-k.ensures c.if-k-eq3.true) _ c.skip_call-f.ensures _ c.skip_block_names-template.ensures _ c.skip_maybe-inverse.ensures))

pub skip_content-overflow_add-result-then-k-eq3 : goal.skip_content-overflow_add-result-then-k-eq3
skip_content-overflow_add-result-then-k-eq3 t c = let s = c in omega (arith, (block_fits s.args.w s.args.d (bits s.args.b.now) (s.args.p + 4) (helper_at s.args.w s.args.d (bits s.args.b.now) s.args.p s.requires.1 _ c.field-k.ensures c.if-k-eq3.true) _ c.skip_call-f.ensures _ c.skip_block_names-template.ensures _ c.skip_maybe-inverse.ensures _ c.skip_maybe.ensures).2, bits_size s.args.b.now)

pub skip_content-returns-then-k-eq3 : goal.skip_content-returns-then-k-eq3
skip_content-returns-then-k-eq3 t c = let s = c in block_ends s.args.w s.args.d (bits s.args.b.now) (s.args.p + 4) (helper_at s.args.w s.args.d (bits s.args.b.now) s.args.p s.requires.1 _ c.field-k.ensures c.if-k-eq3.true) _ c.skip_call-f.ensures _ c.skip_block_names-template.ensures _ c.skip_maybe-inverse.ensures _ c.skip_maybe.ensures ∙ helper_end s.args.w s.args.d (bits s.args.b.now) s.args.p s.requires.1 _ c.field-k.ensures c.if-k-eq3.true

pub skip_content-skip_indent-requires : goal.skip_content-skip_indent-requires
skip_content-skip_indent-requires t c = let s = c in (s.requires.0, tail_indent (bits s.args.b.now) _ (bodiless_here s.args.w s.args.d (bits s.args.b.now) s.args.p s.requires.1 _ c.field-k.ensures c.if-k-eq0.false _ c.skip_call-f.ensures (omega arith) c.if-k-eq0-2.true).inner)

pub skip_content-overflow_add-result-then-k-eq0-2 : goal.skip_content-overflow_add-result-then-k-eq0-2
skip_content-overflow_add-result-then-k-eq0-2 t c = let s = c in omega (arith, (tail_skip s.args.w s.args.d (bits s.args.b.now) s.args.p s.requires.1 _ c.field-k.ensures _ (bodiless_here s.args.w s.args.d (bits s.args.b.now) s.args.p s.requires.1 _ c.field-k.ensures c.if-k-eq0.false _ c.skip_call-f.ensures (omega arith) c.if-k-eq0-2.true) _ c.skip_indent.ensures).1, bits_size s.args.b.now)

pub skip_content-returns-then-k-eq0-2 : goal.skip_content-returns-then-k-eq0-2
skip_content-returns-then-k-eq0-2 t c = let s = c in (tail_skip s.args.w s.args.d (bits s.args.b.now) s.args.p s.requires.1 _ c.field-k.ensures _ (bodiless_here s.args.w s.args.d (bits s.args.b.now) s.args.p s.requires.1 _ c.field-k.ensures c.if-k-eq0.false _ c.skip_call-f.ensures (omega arith) c.if-k-eq0-2.true) _ c.skip_indent.ensures).0

pub skip_content-skip_body-requires : goal.skip_content-skip_body-requires
skip_content-skip_body-requires t c = let s = c in (omega arith, (s.requires.0, bodied_here s.args.w s.args.d (bits s.args.b.now) s.args.p s.requires.1 _ c.field-k.ensures c.if-k-eq0.false _ c.skip_call-f.ensures (omega arith) c.if-k-eq0-2.false))

pub skip_content-skip_indent-requires-2 : goal.skip_content-skip_indent-requires-2
skip_content-skip_indent-requires-2 t c = let s = c in (s.requires.0, tail_indent (bits s.args.b.now) _ (bodied_behind s.args.w s.args.d (bits s.args.b.now) s.args.p s.requires.1 _ c.field-k.ensures c.if-k-eq0.false _ c.skip_call-f.ensures (omega arith) c.if-k-eq0-2.false _ c.skip_body.ensures).inner)

pub skip_content-overflow_add-result-2 : goal.skip_content-overflow_add-result-2
skip_content-overflow_add-result-2 t c = let s = c in omega (arith, (tail_skip s.args.w s.args.d (bits s.args.b.now) s.args.p s.requires.1 _ c.field-k.ensures _ (bodied_behind s.args.w s.args.d (bits s.args.b.now) s.args.p s.requires.1 _ c.field-k.ensures c.if-k-eq0.false _ c.skip_call-f.ensures (omega arith) c.if-k-eq0-2.false _ c.skip_body.ensures) _ c.skip_indent-2.ensures).1, bits_size s.args.b.now)

pub skip_content-returns : goal.skip_content-returns
skip_content-returns t c = let s = c in (tail_skip s.args.w s.args.d (bits s.args.b.now) s.args.p s.requires.1 _ c.field-k.ensures _ (bodied_behind s.args.w s.args.d (bits s.args.b.now) s.args.p s.requires.1 _ c.field-k.ensures c.if-k-eq0.false _ c.skip_call-f.ensures (omega arith) c.if-k-eq0-2.false _ c.skip_body.ensures) _ c.skip_indent-2.ensures).0

pub skip_maybe-overflow_add-q : goal.skip_maybe-overflow_add-q
skip_maybe-overflow_add-q t c = let s = c in omega (arith, maybe_fits (body s.args.w s.args.d) (bits s.args.b.now) s.args.p s.requires.1, bits_size s.args.b.now)

pub skip_maybe-returns-then-k-eq0 : goal.skip_maybe-returns-then-k-eq0
skip_maybe-returns-then-k-eq0 t c = let s = c in (maybe_none (body s.args.w s.args.d) (bits s.args.b.now) s.args.p s.requires.1 (sym c.field-k.ensures ∙ c.if-k-eq0.true)).0

pub skip_maybe-skip_body-requires : goal.skip_maybe-skip_body-requires
skip_maybe-skip_body-requires t c = let s = c in let H = s.requires.1 in (omega arith, (s.requires.0, (maybe_some (body s.args.w s.args.d) (bits s.args.b.now) s.args.p H (maybe_there (body s.args.w s.args.d) (bits s.args.b.now) s.args.p H (λ e. c.if-k-eq0.false (c.field-k.ensures ∙ e)))).inner))

pub skip_maybe-returns : goal.skip_maybe-returns
skip_maybe-returns t c = let s = c in let H = s.requires.1 in c.skip_body.ensures ∙ (maybe_some (body s.args.w s.args.d) (bits s.args.b.now) s.args.p H (maybe_there (body s.args.w s.args.d) (bits s.args.b.now) s.args.p H (λ e. c.if-k-eq0.false (c.field-k.ensures ∙ e)))).ends
