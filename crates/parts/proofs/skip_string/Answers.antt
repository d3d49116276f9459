use native.Mathlib.Omega.{arith}
use Rattle.parts.specs.HoldsLaws.{string_end, string_in}
use Rattle.rules.specs.BundleLaws.{bits_size}
use Rattle.rules.specs.Bits.{bits}
use Rattle.parts.proofs.skip_string.Goals as goal

pub overflow_add-result : goal.overflow_add-result
overflow_add-result c = let s = c in omega (arith, string_in (bits s.args.b.now) s.args.p s.requires.1, bits_size s.args.b.now)

pub overflow_mul-result : goal.overflow_mul-result
overflow_mul-result c = let s = c in omega (arith, string_in (bits s.args.b.now) s.args.p s.requires.1, bits_size s.args.b.now)

pub overflow_add-result-2 : goal.overflow_add-result-2
overflow_add-result-2 c = let s = c in omega (arith, string_in (bits s.args.b.now) s.args.p s.requires.1, bits_size s.args.b.now)

pub returns : goal.returns
returns c = let s = c in omega (arith, c.field-n.ensures, string_end (bits s.args.b.now) s.args.p s.requires.1)
