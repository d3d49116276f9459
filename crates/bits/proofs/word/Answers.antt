use Rattle.bits.proofs.Laws.{word_turned}
use Rattle.rules.specs.BundleLaws.{bits_binary}
use Rattle.rules.specs.Bits.{bits}
use Rattle.bits.proofs.word.Goals as goal

pub returns : goal.returns
returns c = let a = c.args in
    word_turned (bits a.s.now) (bits_binary a.s.now) a.k c.low_word-x.result c.low_word-x.ensures
