use native.Mathlib.Omega.{arith}
use Rattle.template.proofs.Places.{flagged_call, flagged_fits, flagged_made}
use Rattle.rules.specs.BundleLaws.{bits_size}
use Rattle.rules.specs.Bits.{bits}
use Rattle.template.proofs.flagged_at.Goals as goal

pub skip_call-f-requires : goal.skip_call-f-requires
skip_call-f-requires c = let s = c in (s.requires.0, flagged_call s.args.d (bits s.args.b.now) s.args.p s.requires.1)

pub overflow_add-result : goal.overflow_add-result
overflow_add-result c = let s = c in omega (arith, flagged_fits s.args.d (bits s.args.b.now) s.args.p s.requires.1 _ c.skip_call-f.ensures, bits_size s.args.b.now)

pub returns : goal.returns
returns c = let s = c in flagged_made s.args.d (bits s.args.b.now) s.args.p s.requires.1 _ c.skip_call-f.ensures _ c.flag_at.ensures
