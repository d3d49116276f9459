use Prim.Native.Nat.{◌+◌}
use Rattle.rules.specs.Bits.{bits}
use Rattle.rules.specs.BundleLaws.{bits_binary}
use Rattle.saying.proofs.Headed.{head_first}
use Rattle.saying.proofs.Plain.{plain_other}
use borrow.Author.Rules.{rules}
use mathlib.Core.Path.{◌∙◌, sym}
use native.Mathlib.Omega.{arith}
use Rattle.saying.proofs.says_headed.Goals as goal

pub returns-then-is_own : goal.returns-then-is_own
returns-then-is_own c = let z = c in
    let a = z.args in
    plain_other a.s.now (bits a.w.now) (a.i + 1) a.p a.n _ c.byte-c.ensures (sym c.is_own.ensures ∙ c.if-is_own.true) (omega (arith, z.requires.1)) _
    (head_first (bits a.w.now) (bits_binary a.w.now) a.p a.x z.requires.3) c.if-first-c.true
