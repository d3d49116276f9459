use native.Mathlib.Omega.{arith}
use mathlib.Core.Path.{◌∙◌}
use Rattle.parts.specs.Parts.{path_raw, path_fits, skip_none, skip_one, skip_row, skip_name}
use Rattle.rules.specs.BundleLaws.{bits_size, bits_binary}
use Rattle.rules.specs.Bits.{bits}
use Rattle.parts.proofs.skip_path.Goals as goal

pub skip_string-q-requires : goal.skip_string-q-requires
skip_string-q-requires c = let s = c in (s.requires.0, path_raw (bits s.args.b.now) s.args.p s.requires.1)

pub overflow_add-result : goal.overflow_add-result
overflow_add-result c = let s = c in omega (arith, c.skip_string-q.ensures, path_fits (bits s.args.b.now) s.args.p s.requires.1, bits_size s.args.b.now)

pub returns-then-y-lt262144 : goal.returns-then-y-lt262144
returns-then-y-lt262144 c = let s = c in skip_none (bits s.args.b.now) (bits_binary s.args.b.now) s.args.p s.requires.1 _ _ c.skip_string-q.ensures c.field-y.ensures c.if-y-lt262144.true

pub overflow_add-result-then-y-eq4 : goal.overflow_add-result-then-y-eq4
overflow_add-result-then-y-eq4 c = let s = c in omega (arith, (skip_one (bits s.args.b.now) (bits_binary s.args.b.now) s.args.p s.requires.1 _ _ c.skip_string-q.ensures c.field-y.ensures c.if-y-eq4.true).1, bits_size s.args.b.now)

pub overflow_mul-result : goal.overflow_mul-result
overflow_mul-result c = let s = c in omega (arith, (skip_one (bits s.args.b.now) (bits_binary s.args.b.now) s.args.p s.requires.1 _ _ c.skip_string-q.ensures c.field-y.ensures c.if-y-eq4.true).1, bits_size s.args.b.now)

pub overflow_add-result-then-y-eq4-2 : goal.overflow_add-result-then-y-eq4-2
overflow_add-result-then-y-eq4-2 c = let s = c in omega (arith, (skip_one (bits s.args.b.now) (bits_binary s.args.b.now) s.args.p s.requires.1 _ _ c.skip_string-q.ensures c.field-y.ensures c.if-y-eq4.true).1, bits_size s.args.b.now)

pub returns-then-y-eq4 : goal.returns-then-y-eq4
returns-then-y-eq4 c = let s = c in (skip_one (bits s.args.b.now) (bits_binary s.args.b.now) s.args.p s.requires.1 _ _ c.skip_string-q.ensures c.field-y.ensures c.if-y-eq4.true).0

pub overflow_add-q : goal.overflow_add-q
overflow_add-q c = let s = c in omega (arith, c.skip_string-q.ensures, path_fits (bits s.args.b.now) s.args.p s.requires.1, bits_size s.args.b.now)

pub skip_row-requires : goal.skip_row-requires
skip_row-requires c = let s = c in (s.requires.0, (skip_row (bits s.args.b.now) (bits_binary s.args.b.now) s.args.p s.requires.1 _ _ c.skip_string-q.ensures c.field-y.ensures c.if-n-lt256.true).0)

pub returns-then-n-lt256 : goal.returns-then-n-lt256
returns-then-n-lt256 c = let s = c in c.skip_row.ensures ∙ (skip_row (bits s.args.b.now) (bits_binary s.args.b.now) s.args.p s.requires.1 _ _ c.skip_string-q.ensures c.field-y.ensures c.if-n-lt256.true).1

pub overflow_add-q-2 : goal.overflow_add-q-2
overflow_add-q-2 c = let s = c in omega (arith, c.skip_string-q.ensures, path_fits (bits s.args.b.now) s.args.p s.requires.1, bits_size s.args.b.now)

pub skip_string-requires : goal.skip_string-requires
skip_string-requires c = let s = c in (s.requires.0, (skip_name (bits s.args.b.now) (bits_binary s.args.b.now) s.args.p s.requires.1 _ _ c.skip_string-q.ensures c.field-y.ensures c.if-n-lt256.false).inner)

pub returns : goal.returns
returns c = let s = c in c.skip_string.ensures ∙ (skip_name (bits s.args.b.now) (bits_binary s.args.b.now) s.args.p s.requires.1 _ _ c.skip_string-q.ensures c.field-y.ensures c.if-n-lt256.false).ends
