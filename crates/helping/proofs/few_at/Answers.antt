use native.Mathlib.Omega.{arith}
use mathlib.Core.Path.{sym, ◌∙◌}
use Rattle.rules.specs.BundleLaws.{bits_size, bits_binary}
use Rattle.rules.specs.Bits.{bits}
use Rattle.rules.specs.Picks.{picks}
use Rattle.calls.specs.Shorts.{short_ends}
use Rattle.helping.specs.Few.{first_path, first_fits, second_holds}
use borrow.Author.Rules.{rules}
use Rattle.helping.proofs.few_at.Goals as goal

pub returns-then-x-gt65535 : goal.returns-then-x-gt65535
returns-then-x-gt65535 c = simp (← c.field-x.ensures) (search picks depth 9)

pub overflow_add-q : goal.overflow_add-q
overflow_add-q c = let s = c in omega (arith, (short_ends s.args.d (bits s.args.b.now) (bits_binary s.args.b.now) s.args.p s.requires.1 _ c.field-x.ensures c.if-x-gt65535.false).1, bits_size s.args.b.now)

pub overflow_mul-q : goal.overflow_mul-q
overflow_mul-q c = let s = c in omega (arith, (short_ends s.args.d (bits s.args.b.now) (bits_binary s.args.b.now) s.args.p s.requires.1 _ c.field-x.ensures c.if-x-gt65535.false).1, bits_size s.args.b.now)

pub overflow_add-q-2 : goal.overflow_add-q-2
overflow_add-q-2 c = let s = c in omega (arith, (short_ends s.args.d (bits s.args.b.now) (bits_binary s.args.b.now) s.args.p s.requires.1 _ c.field-x.ensures c.if-x-gt65535.false).1, bits_size s.args.b.now)

pub overflow_add-q-then-y-eq5 : goal.overflow_add-q-then-y-eq5
overflow_add-q-then-y-eq5 c = let s = c in omega (arith, first_fits s.args.d (bits s.args.b.now) (bits_binary s.args.b.now) s.args.p s.requires.1 _ c.field-x.ensures c.if-x-gt65535.false 0 (sym c.field-y.ensures ∙ c.if-y-eq5.true), bits_size s.args.b.now)

pub skip_path-e-requires : goal.skip_path-e-requires
skip_path-e-requires c = let s = c in (s.requires.0, first_path s.args.d (bits s.args.b.now) (bits_binary s.args.b.now) s.args.p s.requires.1 _ c.field-x.ensures c.if-x-gt65535.false 0 (sym c.field-y.ensures ∙ c.if-y-eq5.true))

pub overflow_add-result : goal.overflow_add-result
overflow_add-result c = let s = c in omega (arith, first_fits s.args.d (bits s.args.b.now) (bits_binary s.args.b.now) s.args.p s.requires.1 _ c.field-x.ensures c.if-x-gt65535.false 0 (sym c.field-y.ensures ∙ c.if-y-eq5.true), bits_size s.args.b.now)

pub returns-then-field-eq0 : goal.returns-then-field-eq0
returns-then-field-eq0 c = simp (← c.field-x.ensures, ← c.field-y.ensures, ← c.skip_path-e.ensures, ← c.field.ensures) (search picks depth 9)

pub returns-then-y-eq5 : goal.returns-then-y-eq5
returns-then-y-eq5 c = simp (← c.field-x.ensures, ← c.field-y.ensures, ← c.skip_path-e.ensures, ← c.field.ensures) (search picks depth 9)

pub overflow_add-q-then-y-eq9 : goal.overflow_add-q-then-y-eq9
overflow_add-q-then-y-eq9 c = let s = c in omega (arith, first_fits s.args.d (bits s.args.b.now) (bits_binary s.args.b.now) s.args.p s.requires.1 _ c.field-x.ensures c.if-x-gt65535.false 1 (sym c.field-y.ensures ∙ c.if-y-eq9.true), bits_size s.args.b.now)

pub second_at-requires : goal.second_at-requires
second_at-requires c = let s = c in (s.requires.0, second_holds s.args.d (bits s.args.b.now) (bits_binary s.args.b.now) s.args.p s.requires.1 _ c.field-x.ensures c.if-x-gt65535.false (sym c.field-y.ensures ∙ c.if-y-eq9.true))

pub returns-then-y-eq9 : goal.returns-then-y-eq9
returns-then-y-eq9 c = c.second_at.ensures ∙ simp (← c.field-x.ensures, ← c.field-y.ensures) (search picks depth 9)

pub returns : goal.returns
returns c = simp (← c.field-x.ensures, ← c.field-y.ensures) (search picks depth 9)
