use Rattle.rules.specs.Bits.{bits}
use Rattle.rules.specs.BundleLaws.{bits_binary}
use Rattle.scope.proofs.Letters.{headed_other, headed_same}
use Rattle.scope.proofs.same_headed.Goals as goal

pub returns-then-x-k : goal.returns-then-x-k
returns-then-x-k c = let z = c in let a = z.args in headed_other (bits a.b.now) (bits_binary a.b.now) a.p a.q a.x a.y a.k z.requires.2 z.requires.3 z.requires.4 c.if-x-k.true

pub returns-then-y-lt-LONG : goal.returns-then-y-lt-LONG
returns-then-y-lt-LONG c = let z = c in let a = z.args in headed_same (bits a.b.now) (bits_binary a.b.now) a.p a.q a.x a.y a.k z.requires.2 z.requires.3 z.requires.4 c.if-x-k.false c.if-y-lt-LONG.true

pub returns : goal.returns
returns c = c.same_text.ensures
