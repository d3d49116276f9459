use native.Mathlib.Omega.{arith}
use Rattle.template.proofs.Places.{plain_tail_fits, plain_tail_made, indented_fits, indented_string, indented_last, indented_made}
use Rattle.rules.specs.BundleLaws.{bits_size, bits_binary}
use Rattle.rules.specs.Bits.{bits}
use Rattle.template.proofs.tail_at.Goals as goal

pub overflow_add-result : goal.overflow_add-result
overflow_add-result c = let s = c in omega (arith, plain_tail_fits (bits s.args.b.now) s.args.p s.requires.1 _ c.field-y.ensures c.if-y-lt2.true, bits_size s.args.b.now)

pub returns-then-y-lt2 : goal.returns-then-y-lt2
returns-then-y-lt2 c = let s = c in plain_tail_made (bits s.args.b.now) s.args.p s.requires.1 _ c.field-y.ensures c.if-y-lt2.true

pub overflow_add-p : goal.overflow_add-p
overflow_add-p c = let s = c in omega (arith, indented_fits (bits s.args.b.now) s.args.p s.requires.1 _ c.field-y.ensures (bits_binary s.args.b.now) c.if-y-lt2.false, bits_size s.args.b.now)

pub skip_string-f-requires : goal.skip_string-f-requires
skip_string-f-requires c = let s = c in (s.requires.0, indented_string (bits s.args.b.now) s.args.p s.requires.1 _ c.field-y.ensures (bits_binary s.args.b.now) c.if-y-lt2.false)

pub overflow_add-result-2 : goal.overflow_add-result-2
overflow_add-result-2 c = let s = c in omega (arith, indented_fits (bits s.args.b.now) s.args.p s.requires.1 _ c.field-y.ensures (bits_binary s.args.b.now) c.if-y-lt2.false, bits_size s.args.b.now)

pub overflow_add-result-3 : goal.overflow_add-result-3
overflow_add-result-3 c = let s = c in omega (arith, indented_last (bits s.args.b.now) s.args.p s.requires.1 _ c.field-y.ensures (bits_binary s.args.b.now) c.if-y-lt2.false _ c.skip_string-f.ensures, bits_size s.args.b.now)

pub returns : goal.returns
returns c = let s = c in indented_made (bits s.args.b.now) s.args.p s.requires.1 _ c.field-y.ensures (bits_binary s.args.b.now) c.if-y-lt2.false _ c.skip_string-f.ensures _ c.flag_at.ensures
