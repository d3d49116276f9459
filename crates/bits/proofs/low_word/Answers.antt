use Rattle.rules.specs.Bits.{bits}
use Rattle.rules.specs.BundleLaws.{bits_binary}
use Rattle.bits.proofs.Laws.{low_word_of}
use Rattle.bits.proofs.low_word.Goals as goal

pub returns : goal.returns
returns c = let s = c.args.s.now in
    low_word_of (bits s) (bits_binary s) c.args.k _ _ _ _ _ _ _ _ c.byte_at.ensures c.byte_at-2.ensures c.byte_at-3.ensures c.byte_at-4.ensures c.byte_at-5.ensures c.byte_at-6.ensures c.byte_at-7.ensures c.byte_at-8.ensures
