use native.Mathlib.Omega.{arith}
use mathlib.Core.Path.{sym, ◌∙◌}
use Rattle.rules.specs.BundleLaws.{bits_size, bits_binary}
use Rattle.rules.specs.Bits.{bits}
use Rattle.calls.specs.Shorts.{short_ends}
use Rattle.template.proofs.Skipping.{path_fits, path_here, path_behind}
use Rattle.template.proofs.skip_with_path.Goals as goal

pub overflow_add-q : goal.overflow_add-q
overflow_add-q c = let s = c in omega (arith, (short_ends s.args.d (bits s.args.b.now) (bits_binary s.args.b.now) s.args.p s.requires.1 _ c.field-x.ensures c.if-x-gt65535.false).1, bits_size s.args.b.now)

pub overflow_mul-q : goal.overflow_mul-q
overflow_mul-q c = let s = c in omega (arith, (short_ends s.args.d (bits s.args.b.now) (bits_binary s.args.b.now) s.args.p s.requires.1 _ c.field-x.ensures c.if-x-gt65535.false).1, bits_size s.args.b.now)

pub overflow_add-q-2 : goal.overflow_add-q-2
overflow_add-q-2 c = let s = c in omega (arith, (short_ends s.args.d (bits s.args.b.now) (bits_binary s.args.b.now) s.args.p s.requires.1 _ c.field-x.ensures c.if-x-gt65535.false).1, bits_size s.args.b.now)

pub overflow_add-q-then-field-eq5 : goal.overflow_add-q-then-field-eq5
overflow_add-q-then-field-eq5 c = let s = c in omega (arith, path_fits s.args.d (bits s.args.b.now) s.args.p s.requires.1 (bits_binary s.args.b.now) _ c.field-x.ensures c.if-x-gt65535.false (sym c.field.ensures ∙ c.if-field-eq5.true), bits_size s.args.b.now)

pub skip_path-e-requires : goal.skip_path-e-requires
skip_path-e-requires c = let s = c in (s.requires.0, path_here s.args.d (bits s.args.b.now) s.args.p s.requires.1 (bits_binary s.args.b.now) _ c.field-x.ensures c.if-x-gt65535.false (sym c.field.ensures ∙ c.if-field-eq5.true))

pub overflow_add-result : goal.overflow_add-result
overflow_add-result c = let s = c in omega (arith, (path_behind s.args.d (bits s.args.b.now) s.args.p s.requires.1 (bits_binary s.args.b.now) _ c.field-x.ensures c.if-x-gt65535.false (sym c.field.ensures ∙ c.if-field-eq5.true) _ c.skip_path-e.ensures (sym c.field-then-field-eq5.ensures ∙ c.if-field-eq0.true)).1, bits_size s.args.b.now)

pub returns-then-field-eq0 : goal.returns-then-field-eq0
returns-then-field-eq0 c = let s = c in (path_behind s.args.d (bits s.args.b.now) s.args.p s.requires.1 (bits_binary s.args.b.now) _ c.field-x.ensures c.if-x-gt65535.false (sym c.field.ensures ∙ c.if-field-eq5.true) _ c.skip_path-e.ensures (sym c.field-then-field-eq5.ensures ∙ c.if-field-eq0.true)).0
