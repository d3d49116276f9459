use Rattle.scan.proofs.Quick.{spaces_none}
use borrow.Author.Rules.{rules}
use mathlib.Core.Path.{sym}
use native.Mathlib.Omega.{arith}
use Rattle.plan_read.proofs.find_mark.Goals as goal

pub returns-then-c-gt32 : goal.returns-then-c-gt32
returns-then-c-gt32 c = let a = c.args in
    record { place = sym (spaces_none a.s.now a.i (omega (arith, c.byte-c.ensures, c.if-c-gt32.true))); here = c.byte-c.ensures }
