use Rattle.bits.proofs.Laws.{byte_of}
use Rattle.rules.specs.BundleLaws.{bits_binary}
use Rattle.rules.specs.Bits.{bits}
use Rattle.bits.proofs.byte.Goals as goal

pub returns : goal.returns
returns c = let a = c.args in
    byte_of (bits a.s.now) (bits_binary a.s.now) a.p c.pair_or_zero.ensures
