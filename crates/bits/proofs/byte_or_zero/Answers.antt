use Rattle.bits.proofs.Laws.{byte_past}
use Rattle.bits.proofs.byte_or_zero.Goals as goal

pub returns-else-k-s : goal.returns-else-k-s
returns-else-k-s c = byte_past c.args.s.now c.args.k c.if-k-s.false
