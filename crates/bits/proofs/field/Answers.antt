use Rattle.bits.proofs.Laws.{first_of, cut_of}
use Rattle.rules.specs.BundleLaws.{bits_binary}
use Rattle.rules.specs.Bits.{bits}
use native.Mathlib.Omega.{arith}
use Rattle.bits.proofs.field.Goals as goal

pub returns-then-w-gt56 : goal.returns-then-w-gt56
returns-then-w-gt56 c = let a = c.args in
    first_of (bits a.s.now) (bits_binary a.s.now) a.w a.p c.window.result c.requires c.window.ensures

pub returns : goal.returns
returns c = let a = c.args in
    cut_of (bits a.s.now) (bits_binary a.s.now) a.p a.w (omega arith) c.word_or_zero.ensures
