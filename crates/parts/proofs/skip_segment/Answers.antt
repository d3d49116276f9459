use native.Mathlib.Omega.{arith}
use Rattle.parts.specs.Parts.{seg_fits, named_end, unnamed_end}
use Rattle.rules.specs.BundleLaws.{bits_size, bits_binary}
use Rattle.rules.specs.Bits.{bits}
use Rattle.parts.proofs.skip_segment.Goals as goal

pub overflow_add-q : goal.overflow_add-q
overflow_add-q c = let s = c in omega (arith, seg_fits (bits s.args.b.now) s.args.p s.requires.1, bits_size s.args.b.now)

pub overflow_add-result : goal.overflow_add-result
overflow_add-result c = let s = c in omega (arith, (named_end (bits s.args.b.now) (bits_binary s.args.b.now) s.args.p s.requires.1 _ c.field-x.ensures c.if-x-lt65536.true).2, bits_size s.args.b.now)

pub overflow_mul-result : goal.overflow_mul-result
overflow_mul-result c = let s = c in omega (arith, (named_end (bits s.args.b.now) (bits_binary s.args.b.now) s.args.p s.requires.1 _ c.field-x.ensures c.if-x-lt65536.true).2, bits_size s.args.b.now)

pub overflow_add-result-then-x-lt65536 : goal.overflow_add-result-then-x-lt65536
overflow_add-result-then-x-lt65536 c = let s = c in omega (arith, (named_end (bits s.args.b.now) (bits_binary s.args.b.now) s.args.p s.requires.1 _ c.field-x.ensures c.if-x-lt65536.true).2, bits_size s.args.b.now)

pub returns-then-x-lt65536 : goal.returns-then-x-lt65536
returns-then-x-lt65536 c = let s = c in (named_end (bits s.args.b.now) (bits_binary s.args.b.now) s.args.p s.requires.1 _ c.field-x.ensures c.if-x-lt65536.true).1

pub returns : goal.returns
returns c = let s = c in unnamed_end (bits s.args.b.now) (bits_binary s.args.b.now) s.args.p s.requires.1 _ c.field-x.ensures c.if-x-lt65536.false
