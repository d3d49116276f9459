use Prim.Native.Nat.{ℕ}
use Rattle.bits.specs.Packed.{bytes_at}
use Rattle.rules.specs.Bits.{bits}
use Rattle.rules.specs.Bytes.{same}
use Rattle.saying.specs.Said.{remaining}
use borrow.Author.Rules.{rules}
use mathlib.Core.Path.{◌∙◌, ap, sym}
use Rattle.saying.proofs.remaining_packed.Goals as goal

pub returns-then-j-eq0 : goal.returns-then-j-eq0
returns-then-j-eq0 c = let a = c.args in
    c.packed_from.ensures ∙ ap (λ (k : ℕ). same (remaining a.s.now a.i k) (bytes_at (bits a.w.now) a.p a.n)) (sym c.if-j-eq0.true)
