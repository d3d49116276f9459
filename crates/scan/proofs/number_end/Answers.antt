use Rattle.scan.proofs.Numbers.{tail_number}
use Rattle.scan.proofs.Bounds.{whole_goes}
use native.Mathlib.Omega.{arith}
use Rattle.scan.proofs.number_end.Goals as goal

pub tail_end-requires : goal.tail_end-requires
tail_end-requires c = (omega (arith, c.whole_end.ensures, whole_goes c.args.s.now c.minus_end.result), c.requires.1)

pub returns : goal.returns
returns c = tail_number c.args.s.now c.args.i _ _ _ c.minus_end.ensures c.whole_end.ensures c.tail_end.ensures
