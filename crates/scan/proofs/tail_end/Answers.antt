use Rattle.scan.proofs.Bounds.{fraction_goes}
use native.Mathlib.Omega.{arith}
use Rattle.scan.proofs.tail_end.Goals as goal

pub exponent_end-requires : goal.exponent_end-requires
exponent_end-requires c = omega (arith, c.requires, c.fraction_end-f.ensures, fraction_goes c.args.s.now c.args.w c.requires.0)
