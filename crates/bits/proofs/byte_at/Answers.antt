use native.Mathlib.Omega.{arith}
use Rattle.bits.proofs.Laws.{byte_read}
use Rattle.bits.proofs.byte_at.Goals as goal

pub returns : goal.returns
returns c = byte_read c.args.s.now c.args.k (omega (arith, c.type_inv.s c.args.k))
