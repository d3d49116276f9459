use Rattle.rules.specs.Bits.{bits}
use Rattle.text.proofs.Laws.{packed_none, packed_on}
use native.Mathlib.Omega.{arith}
use Rattle.text.proofs.packed.Goals as goal

pub returns-then-n-eq0 : goal.returns-then-n-eq0
returns-then-n-eq0 c = packed_none (bits c.args.b.now) c.args.p c.args.n c.if-n-eq0.true

pub returns : goal.returns
returns c = let a = c.args in
    (packed_on (bits a.b.now) a.p a.n c.byte.result c.if-n-eq0.false c.byte.ensures, omega (arith, c.if-n-eq0.false, c.requires))
