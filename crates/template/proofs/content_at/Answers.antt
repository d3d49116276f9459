use native.Mathlib.Omega.{arith}
use mathlib.Core.Path.{◌∙◌}
use Rattle.template.proofs.Places.{raw_string_at, raw_string_seen, html_at, html_seen, expression_at, expression_seen, helper_at, helper_seen, decorator_at, decorator_seen}
use Rattle.template.proofs.Places.{decorator_block_at, decorator_block_seen, partial_call, partial_tail, partial_made, partial_block_at, partial_block_seen, comment_at, comment_seen}
use Rattle.template.proofs.Places.{plain_tail_fits, plain_tail_made, indented_fits, indented_string, indented_last, indented_made}
use Rattle.template.specs.Content.{element_fits}
use Rattle.rules.specs.BundleLaws.{bits_size, bits_binary}
use Rattle.rules.specs.Bits.{bits}
use Rattle.template.proofs.content_at.Goals as goal

pub overflow_add-q : goal.overflow_add-q
overflow_add-q c = let s = c in omega (arith, element_fits s.args.w s.args.d (bits s.args.b.now) s.args.p s.requires.1, bits_size s.args.b.now)

pub skip_string-requires : goal.skip_string-requires
skip_string-requires c = let s = c in (s.requires.0, raw_string_at s.args.w s.args.d (bits s.args.b.now) s.args.p s.requires.1 _ c.field-k.ensures c.in-0.is)

pub returns-in-0 : goal.returns-in-0
returns-in-0 c = let s = c in c.found.ensures ∙ raw_string_seen s.args.w s.args.d (bits s.args.b.now) s.args.p s.requires.1 _ c.field-k.ensures c.in-0.is _ c.skip_string.ensures

pub flagged_at-r-requires : goal.flagged_at-r-requires
flagged_at-r-requires c = let s = c in (s.requires.0, html_at s.args.w s.args.d (bits s.args.b.now) s.args.p s.requires.1 _ c.field-k.ensures c.in-1.is)

pub returns-in-1 : goal.returns-in-1
returns-in-1 c = let s = c in c.found-in-1.ensures ∙ html_seen s.args.w s.args.d (bits s.args.b.now) s.args.p s.requires.1 _ c.field-k.ensures c.in-1.is _ c.flagged_at-r.ensures

pub flagged_at-r-requires-in-2 : goal.flagged_at-r-requires-in-2
flagged_at-r-requires-in-2 c = let s = c in (s.requires.0, expression_at s.args.w s.args.d (bits s.args.b.now) s.args.p s.requires.1 _ c.field-k.ensures c.in-2.is)

pub returns-in-2 : goal.returns-in-2
returns-in-2 c = let s = c in c.found-in-2.ensures ∙ expression_seen s.args.w s.args.d (bits s.args.b.now) s.args.p s.requires.1 _ c.field-k.ensures c.in-2.is _ c.flagged_at-r-in-2.ensures

pub block_at-r-requires : goal.block_at-r-requires
block_at-r-requires c = let s = c in (s.requires.0, helper_at s.args.w s.args.d (bits s.args.b.now) s.args.p s.requires.1 _ c.field-k.ensures c.in-3.is)

pub returns-in-3 : goal.returns-in-3
returns-in-3 c = let s = c in c.found-in-3.ensures ∙ helper_seen s.args.w s.args.d (bits s.args.b.now) s.args.p s.requires.1 _ c.field-k.ensures c.in-3.is _ c.block_at-r.ensures

pub bodiless_at-r-requires : goal.bodiless_at-r-requires
bodiless_at-r-requires c = let s = c in (s.requires.0, decorator_at s.args.w s.args.d (bits s.args.b.now) s.args.p s.requires.1 _ c.field-k.ensures c.in-4.is)

pub returns-in-4 : goal.returns-in-4
returns-in-4 c = let s = c in c.found-in-4.ensures ∙ decorator_seen s.args.w s.args.d (bits s.args.b.now) s.args.p s.requires.1 _ c.field-k.ensures c.in-4.is _ c.bodiless_at-r.ensures

pub bodied_at-r-requires : goal.bodied_at-r-requires
bodied_at-r-requires c = let s = c in (s.requires.0, decorator_block_at s.args.w s.args.d (bits s.args.b.now) s.args.p s.requires.1 _ c.field-k.ensures c.in-5.is)

pub returns-in-5 : goal.returns-in-5
returns-in-5 c = let s = c in c.found-in-5.ensures ∙ decorator_block_seen s.args.w s.args.d (bits s.args.b.now) s.args.p s.requires.1 _ c.field-k.ensures c.in-5.is _ c.bodied_at-r.ensures

pub skip_bare-e-requires : goal.skip_bare-e-requires
skip_bare-e-requires c = let s = c in (s.requires.0, partial_call s.args.w s.args.d (bits s.args.b.now) s.args.p s.requires.1 _ c.field-k.ensures c.in-6.is)

pub overflow_add-e : goal.overflow_add-e
overflow_add-e c = let s = c in
    let b = bits s.args.b.now in
    let t = partial_tail s.args.w s.args.d (bits s.args.b.now) s.args.p s.requires.1 _ c.field-k.ensures c.in-6.is _ c.skip_bare-e.ensures in
    omega (arith, plain_tail_fits b _ t _ c.field-y.ensures c.if-y-lt2.true, bits_size s.args.b.now)

pub returns-then-y-lt2 : goal.returns-then-y-lt2
returns-then-y-lt2 c = let s = c in
    let b = bits s.args.b.now in
    let t = partial_tail s.args.w s.args.d (bits s.args.b.now) s.args.p s.requires.1 _ c.field-k.ensures c.in-6.is _ c.skip_bare-e.ensures in
    c.found-then-y-lt2.ensures ∙ partial_made s.args.w s.args.d (bits s.args.b.now) s.args.p s.requires.1 _ c.field-k.ensures c.in-6.is _ c.skip_bare-e.ensures _ (plain_tail_made b _ t _ c.field-y.ensures c.if-y-lt2.true)

pub overflow_add-e-in-6 : goal.overflow_add-e-in-6
overflow_add-e-in-6 c = let s = c in
    let b = bits s.args.b.now in
    let t = partial_tail s.args.w s.args.d (bits s.args.b.now) s.args.p s.requires.1 _ c.field-k.ensures c.in-6.is _ c.skip_bare-e.ensures in
    omega (arith, indented_fits b _ t _ c.field-y.ensures (bits_binary s.args.b.now) c.if-y-lt2.false, bits_size s.args.b.now)

pub skip_string-f-requires : goal.skip_string-f-requires
skip_string-f-requires c = let s = c in
    let b = bits s.args.b.now in
    let t = partial_tail s.args.w s.args.d (bits s.args.b.now) s.args.p s.requires.1 _ c.field-k.ensures c.in-6.is _ c.skip_bare-e.ensures in
    (s.requires.0, indented_string b _ t _ c.field-y.ensures (bits_binary s.args.b.now) c.if-y-lt2.false)

pub overflow_add-e-in-6-2 : goal.overflow_add-e-in-6-2
overflow_add-e-in-6-2 c = let s = c in
    let b = bits s.args.b.now in
    let t = partial_tail s.args.w s.args.d (bits s.args.b.now) s.args.p s.requires.1 _ c.field-k.ensures c.in-6.is _ c.skip_bare-e.ensures in
    omega (arith, indented_fits b _ t _ c.field-y.ensures (bits_binary s.args.b.now) c.if-y-lt2.false, bits_size s.args.b.now)

pub overflow_add-f : goal.overflow_add-f
overflow_add-f c = let s = c in
    let b = bits s.args.b.now in
    let t = partial_tail s.args.w s.args.d (bits s.args.b.now) s.args.p s.requires.1 _ c.field-k.ensures c.in-6.is _ c.skip_bare-e.ensures in
    omega (arith, indented_last b _ t _ c.field-y.ensures (bits_binary s.args.b.now) c.if-y-lt2.false _ c.skip_string-f.ensures, bits_size s.args.b.now)

pub returns-else-y-lt2 : goal.returns-else-y-lt2
returns-else-y-lt2 c = let s = c in
    let b = bits s.args.b.now in
    let t = partial_tail s.args.w s.args.d (bits s.args.b.now) s.args.p s.requires.1 _ c.field-k.ensures c.in-6.is _ c.skip_bare-e.ensures in
    c.found-in-6.ensures ∙ partial_made s.args.w s.args.d (bits s.args.b.now) s.args.p s.requires.1 _ c.field-k.ensures c.in-6.is _ c.skip_bare-e.ensures _ (indented_made b _ t _ c.field-y.ensures (bits_binary s.args.b.now) c.if-y-lt2.false _ c.skip_string-f.ensures _ c.flag_at.ensures)

pub bodied_at-r-requires-in-7 : goal.bodied_at-r-requires-in-7
bodied_at-r-requires-in-7 c = let s = c in (s.requires.0, partial_block_at s.args.w s.args.d (bits s.args.b.now) s.args.p s.requires.1 _ c.field-k.ensures c.in-7.is)

pub returns-in-7 : goal.returns-in-7
returns-in-7 c = let s = c in c.found-in-7.ensures ∙ partial_block_seen s.args.w s.args.d (bits s.args.b.now) s.args.p s.requires.1 _ c.field-k.ensures c.in-7.is _ c.bodied_at-r-in-7.ensures

pub skip_string-requires-in_default : goal.skip_string-requires-in_default
skip_string-requires-in_default c = let s = c in (s.requires.0, comment_at s.args.w s.args.d (bits s.args.b.now) s.args.p s.requires.1 _ c.field-k.ensures (omega arith))

pub returns-in_default : goal.returns-in_default
returns-in_default c = let s = c in c.found-in_default.ensures ∙ comment_seen s.args.w s.args.d (bits s.args.b.now) s.args.p s.requires.1 _ c.field-k.ensures (omega arith) _ c.skip_string-in_default.ensures
