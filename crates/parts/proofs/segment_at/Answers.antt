use native.Mathlib.Omega.{arith}
use mathlib.Core.Path.{ap, ◌∙◌}
use Prim.Native.Nat.{◌+◌}
use Rattle.parts.specs.declared.Segment.TheVariants.{Named}
use Rattle.parts.specs.Views.{segment_of}
use Rattle.parts.specs.Parts.{seg_fits, kind_named, kind_root, kind_up, named_end}
use Rattle.rules.specs.BundleLaws.{bits_size, bits_binary}
use Rattle.rules.specs.Bits.{bits}
use Rattle.parts.proofs.segment_at.Goals as goal

pub overflow_add-q : goal.overflow_add-q
overflow_add-q c = let s = c in omega (arith, seg_fits (bits s.args.b.now) s.args.p s.requires.1, bits_size s.args.b.now)

pub overflow_add-result : goal.overflow_add-result
overflow_add-result c = let s = c in omega (arith, (named_end (bits s.args.b.now) (bits_binary s.args.b.now) s.args.p s.requires.1 _ c.field-x.ensures c.if-x-lt65536.true).2, bits_size s.args.b.now)

pub overflow_mul-result : goal.overflow_mul-result
overflow_mul-result c = let s = c in omega (arith, (named_end (bits s.args.b.now) (bits_binary s.args.b.now) s.args.p s.requires.1 _ c.field-x.ensures c.if-x-lt65536.true).2, bits_size s.args.b.now)

pub overflow_add-result-then-x-lt65536 : goal.overflow_add-result-then-x-lt65536
overflow_add-result-then-x-lt65536 c = let s = c in omega (arith, (named_end (bits s.args.b.now) (bits_binary s.args.b.now) s.args.p s.requires.1 _ c.field-x.ensures c.if-x-lt65536.true).2, bits_size s.args.b.now)

pub returns-then-x-lt65536 : goal.returns-then-x-lt65536
returns-then-x-lt65536 c = let s = c in ap (Named (s.args.p + 2)) (named_end (bits s.args.b.now) (bits_binary s.args.b.now) s.args.p s.requires.1 _ c.field-x.ensures c.if-x-lt65536.true).0 ∙ ap (segment_of (bits s.args.b.now) (s.args.p + 2)) (kind_named (bits s.args.b.now) (bits_binary s.args.b.now) s.args.p s.requires.1 _ c.field-x.ensures c.if-x-lt65536.true)

pub returns-then-x-lt131072 : goal.returns-then-x-lt131072
returns-then-x-lt131072 c = let s = c in ap (segment_of (bits s.args.b.now) (s.args.p + 2)) (kind_root (bits s.args.b.now) (bits_binary s.args.b.now) s.args.p s.requires.1 _ c.field-x.ensures c.if-x-lt65536.false c.if-x-lt131072.true)

pub returns : goal.returns
returns c = let s = c in ap (segment_of (bits s.args.b.now) (s.args.p + 2)) (kind_up (bits s.args.b.now) (bits_binary s.args.b.now) s.args.p s.requires.1 _ c.field-x.ensures c.if-x-lt131072.false)
