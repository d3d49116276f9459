use native.Mathlib.Omega.{arith}
use mathlib.Core.Path.{sym, ◌∙◌}
use Rattle.template.proofs.Places.{block_call, block_named, block_template, block_inverse, block_fits, block_made}
use Rattle.template.proofs.Places.{plain_body, plain_fits, none_fits, none_made, some_body, some_fits, some_last, some_made}
use Rattle.rules.specs.BundleLaws.{bits_size, bits_binary}
use Rattle.rules.specs.Bits.{bits}
use Rattle.template.proofs.block_at.Goals as goal

pub skip_with_path-names-requires : goal.skip_with_path-names-requires
skip_with_path-names-requires c = let s = c in (s.requires.0, block_call s.args.w s.args.d (bits s.args.b.now) s.args.p s.requires.1)

pub overflow_add-names : goal.overflow_add-names
overflow_add-names c = let s = c in omega (arith, plain_fits s.args.w s.args.d (bits s.args.b.now) s.args.p s.requires.1 _ c.skip_with_path-names.ensures (sym c.field.ensures ∙ c.if-field-eq1.true), bits_size s.args.b.now)

pub skip_body-other-requires : goal.skip_body-other-requires
skip_body-other-requires c = let s = c in (s.requires.0, plain_body s.args.w s.args.d (bits s.args.b.now) s.args.p s.requires.1 _ c.skip_with_path-names.ensures (sym c.field.ensures ∙ c.if-field-eq1.true))

pub overflow_add-result : goal.overflow_add-result
overflow_add-result c = let s = c in omega (arith, plain_fits s.args.w s.args.d (bits s.args.b.now) s.args.p s.requires.1 _ c.skip_with_path-names.ensures (sym c.field.ensures ∙ c.if-field-eq1.true), bits_size s.args.b.now)

pub overflow_add-result-then-y-lt2 : goal.overflow_add-result-then-y-lt2
overflow_add-result-then-y-lt2 c = let s = c in omega (arith, none_fits s.args.w s.args.d (bits s.args.b.now) s.args.p s.requires.1 _ c.skip_with_path-names.ensures (sym c.field.ensures ∙ c.if-field-eq1.true) _ c.skip_body-other.ensures _ c.field-y.ensures c.if-y-lt2.true, bits_size s.args.b.now)

pub returns-then-y-lt2 : goal.returns-then-y-lt2
returns-then-y-lt2 c = let s = c in none_made s.args.w s.args.d (bits s.args.b.now) s.args.p s.requires.1 _ c.skip_with_path-names.ensures (sym c.field.ensures ∙ c.if-field-eq1.true) _ c.skip_body-other.ensures _ c.field-y.ensures c.if-y-lt2.true

pub overflow_add-other : goal.overflow_add-other
overflow_add-other c = let s = c in omega (arith, some_fits s.args.w s.args.d (bits s.args.b.now) s.args.p s.requires.1 _ c.skip_with_path-names.ensures (sym c.field.ensures ∙ c.if-field-eq1.true) _ c.skip_body-other.ensures _ c.field-y.ensures (bits_binary s.args.b.now) c.if-y-lt2.false, bits_size s.args.b.now)

pub skip_body-g-requires : goal.skip_body-g-requires
skip_body-g-requires c = let s = c in (s.requires.0, some_body s.args.w s.args.d (bits s.args.b.now) s.args.p s.requires.1 _ c.skip_with_path-names.ensures (sym c.field.ensures ∙ c.if-field-eq1.true) _ c.skip_body-other.ensures _ c.field-y.ensures (bits_binary s.args.b.now) c.if-y-lt2.false)

pub overflow_add-result-then-field-eq1 : goal.overflow_add-result-then-field-eq1
overflow_add-result-then-field-eq1 c = let s = c in omega (arith, plain_fits s.args.w s.args.d (bits s.args.b.now) s.args.p s.requires.1 _ c.skip_with_path-names.ensures (sym c.field.ensures ∙ c.if-field-eq1.true), bits_size s.args.b.now)

pub overflow_add-result-then-field-eq1-2 : goal.overflow_add-result-then-field-eq1-2
overflow_add-result-then-field-eq1-2 c = let s = c in omega (arith, some_fits s.args.w s.args.d (bits s.args.b.now) s.args.p s.requires.1 _ c.skip_with_path-names.ensures (sym c.field.ensures ∙ c.if-field-eq1.true) _ c.skip_body-other.ensures _ c.field-y.ensures (bits_binary s.args.b.now) c.if-y-lt2.false, bits_size s.args.b.now)

pub overflow_add-result-then-field-eq1-3 : goal.overflow_add-result-then-field-eq1-3
overflow_add-result-then-field-eq1-3 c = let s = c in omega (arith, some_last s.args.w s.args.d (bits s.args.b.now) s.args.p s.requires.1 _ c.skip_with_path-names.ensures (sym c.field.ensures ∙ c.if-field-eq1.true) _ c.skip_body-other.ensures _ c.field-y.ensures (bits_binary s.args.b.now) c.if-y-lt2.false _ c.skip_body-g.ensures, bits_size s.args.b.now)

pub returns-then-field-eq1 : goal.returns-then-field-eq1
returns-then-field-eq1 c = let s = c in some_made s.args.w s.args.d (bits s.args.b.now) s.args.p s.requires.1 _ c.skip_with_path-names.ensures (sym c.field.ensures ∙ c.if-field-eq1.true) _ c.skip_body-other.ensures _ c.field-y.ensures (bits_binary s.args.b.now) c.if-y-lt2.false _ c.skip_body-g.ensures _ c.flag_at.ensures

pub skip_block_names-template-requires : goal.skip_block_names-template-requires
skip_block_names-template-requires c = let s = c in (s.requires.0, block_named s.args.w s.args.d (bits s.args.b.now) s.args.p s.requires.1 _ c.skip_with_path-names.ensures)

pub skip_maybe-inverse-requires : goal.skip_maybe-inverse-requires
skip_maybe-inverse-requires c = let s = c in (s.requires.0, block_template s.args.w s.args.d (bits s.args.b.now) s.args.p s.requires.1 _ c.skip_with_path-names.ensures _ c.skip_block_names-template.ensures)

pub skip_maybe-f-requires : goal.skip_maybe-f-requires
skip_maybe-f-requires c = let s = c in (s.requires.0, block_inverse s.args.w s.args.d (bits s.args.b.now) s.args.p s.requires.1 _ c.skip_with_path-names.ensures _ c.skip_block_names-template.ensures _ c.skip_maybe-inverse.ensures)

pub maybe_at-requires : goal.maybe_at-requires
maybe_at-requires c = let s = c in omega (arith, (block_fits s.args.w s.args.d (bits s.args.b.now) s.args.p s.requires.1 _ c.skip_with_path-names.ensures _ c.skip_block_names-template.ensures _ c.skip_maybe-inverse.ensures _ c.skip_maybe-f.ensures).0, bits_size s.args.b.now)

pub maybe_at-requires-2 : goal.maybe_at-requires-2
maybe_at-requires-2 c = let s = c in omega (arith, (block_fits s.args.w s.args.d (bits s.args.b.now) s.args.p s.requires.1 _ c.skip_with_path-names.ensures _ c.skip_block_names-template.ensures _ c.skip_maybe-inverse.ensures _ c.skip_maybe-f.ensures).1, bits_size s.args.b.now)

pub overflow_add-result-2 : goal.overflow_add-result-2
overflow_add-result-2 c = let s = c in omega (arith, (block_fits s.args.w s.args.d (bits s.args.b.now) s.args.p s.requires.1 _ c.skip_with_path-names.ensures _ c.skip_block_names-template.ensures _ c.skip_maybe-inverse.ensures _ c.skip_maybe-f.ensures).2, bits_size s.args.b.now)

pub returns : goal.returns
returns c = let s = c in block_made s.args.w s.args.d (bits s.args.b.now) s.args.p s.requires.1 _ c.skip_with_path-names.ensures _ c.skip_block_names-template.ensures _ c.skip_maybe-inverse.ensures _ c.skip_maybe-f.ensures _ _ c.maybe_at.ensures c.maybe_at-2.ensures _ c.flag_at-2.ensures
