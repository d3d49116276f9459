use native.Mathlib.Omega.{arith}
use mathlib.Core.Path.{sym, ◌∙◌}
use Rattle.rules.specs.BundleLaws.{bits_size, bits_binary}
use Rattle.rules.specs.Bits.{bits}
use Rattle.calls.specs.Shorts.{short_ends}
use Rattle.template.proofs.Skipping.{bare_behind, key_fits, key_here, value_here, pair_behind}
use Rattle.template.proofs.skip_bare.Goals as goal

pub overflow_add-q : goal.overflow_add-q
overflow_add-q c = let s = c in omega (arith, (short_ends s.args.d (bits s.args.b.now) (bits_binary s.args.b.now) s.args.p s.requires.1 _ c.field-x.ensures c.if-x-gt65535.false).1, bits_size s.args.b.now)

pub overflow_mul-q : goal.overflow_mul-q
overflow_mul-q c = let s = c in omega (arith, (short_ends s.args.d (bits s.args.b.now) (bits_binary s.args.b.now) s.args.p s.requires.1 _ c.field-x.ensures c.if-x-gt65535.false).1, bits_size s.args.b.now)

pub overflow_add-q-2 : goal.overflow_add-q-2
overflow_add-q-2 c = let s = c in omega (arith, (short_ends s.args.d (bits s.args.b.now) (bits_binary s.args.b.now) s.args.p s.requires.1 _ c.field-x.ensures c.if-x-gt65535.false).1, bits_size s.args.b.now)

pub overflow_add-result : goal.overflow_add-result
overflow_add-result c = let s = c in omega (arith, (bare_behind s.args.d (bits s.args.b.now) s.args.p s.requires.1 (bits_binary s.args.b.now) _ c.field-x.ensures c.if-x-gt65535.false (sym c.field-y.ensures ∙ c.if-y-eq0.true)).1, bits_size s.args.b.now)

pub returns-then-y-eq0 : goal.returns-then-y-eq0
returns-then-y-eq0 c = let s = c in (bare_behind s.args.d (bits s.args.b.now) s.args.p s.requires.1 (bits_binary s.args.b.now) _ c.field-x.ensures c.if-x-gt65535.false (sym c.field-y.ensures ∙ c.if-y-eq0.true)).0

pub overflow_add-q-then-y-eq1 : goal.overflow_add-q-then-y-eq1
overflow_add-q-then-y-eq1 c = let s = c in omega (arith, key_fits s.args.d (bits s.args.b.now) s.args.p s.requires.1 (bits_binary s.args.b.now) _ c.field-x.ensures c.if-x-gt65535.false (sym c.field-y.ensures ∙ c.if-y-eq1.true), bits_size s.args.b.now)

pub skip_string-requires : goal.skip_string-requires
skip_string-requires c = let s = c in (s.requires.0, key_here s.args.d (bits s.args.b.now) s.args.p s.requires.1 (bits_binary s.args.b.now) _ c.field-x.ensures c.if-x-gt65535.false (sym c.field-y.ensures ∙ c.if-y-eq1.true))

pub skip_param-requires : goal.skip_param-requires
skip_param-requires c = let s = c in (s.requires.0, value_here s.args.d (bits s.args.b.now) s.args.p s.requires.1 (bits_binary s.args.b.now) _ c.field-x.ensures c.if-x-gt65535.false (sym c.field-y.ensures ∙ c.if-y-eq1.true) _ c.skip_string.ensures)

pub returns-then-y-eq1 : goal.returns-then-y-eq1
returns-then-y-eq1 c = let s = c in pair_behind s.args.d (bits s.args.b.now) s.args.p s.requires.1 (bits_binary s.args.b.now) _ c.field-x.ensures c.if-x-gt65535.false (sym c.field-y.ensures ∙ c.if-y-eq1.true) _ c.skip_string.ensures _ c.skip_param.ensures
