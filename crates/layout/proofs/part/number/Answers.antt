use Rattle.layout.proofs.Parts.{number_is, number_none}
use Rattle.rules.specs.Bits.{bits}
use native.Mathlib.Omega.{arith}
use Rattle.layout.proofs.part.number.Goals as goal

pub returns-then-p-lt-START : goal.returns-then-p-lt-START
returns-then-p-lt-START c = let a = c.args in number_none a.p c.if-p-lt-START.true (bits a.b.now) a.w

pub returns : goal.returns
returns c = let a = c.args in number_is a.p (omega arith) a.b.now a.w _ c.field.ensures
