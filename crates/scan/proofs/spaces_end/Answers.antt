use Rattle.scan.proofs.Quick.{spaces_none}
use borrow.Author.Rules.{rules}
use mathlib.Core.Path.{sym}
use native.Mathlib.Omega.{arith}
use Rattle.scan.proofs.spaces_end.Goals as goal

pub returns-then-byte-gt32 : goal.returns-then-byte-gt32
returns-then-byte-gt32 c = sym (spaces_none c.args.s.now c.args.i (omega (arith, c.byte.ensures, c.if-byte-gt32.true)))
