use Rattle.layout.proofs.Parts.{ahead_none, ahead_far, ahead_near}
use Rattle.rules.specs.Bits.{bits}
use native.Mathlib.Omega.{arith}
use Rattle.layout.proofs.part.ahead.Goals as goal

pub returns-then-p-lt-START : goal.returns-then-p-lt-START
returns-then-p-lt-START c = let a = c.args in ahead_none a.p c.if-p-lt-START.true (bits a.b.now) a.n

pub returns-then-end-n : goal.returns-then-end-n
returns-then-end-n c = let a = c.args in ahead_far a.p (omega arith) a.b.now a.n (omega arith)

pub returns-then-end-n-2 : goal.returns-then-end-n-2
returns-then-end-n-2 c = let a = c.args in ahead_far a.p (omega arith) a.b.now a.n (omega arith)

pub returns : goal.returns
returns c = let a = c.args in ahead_near a.p (omega arith) a.b.now a.n (omega arith)
