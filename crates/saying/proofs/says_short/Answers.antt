use Prim.Native.Nat.{ℕ, ◌+◌, ◌-◌, ◌*◌, ◌/◌, ◌^◌}
use Rattle.rules.specs.Bits.{bits}
use Rattle.rules.specs.BundleLaws.{bits_binary}
use Rattle.saying.proofs.Headed.{head_first}
use Rattle.saying.proofs.Plain.{plain_other}
use Rattle.saying.proofs.Short.{short_same}
use borrow.Author.Rules.{rules}
use mathlib.Core.Path.{◌∙◌, sym, ap}
use native.Mathlib.Omega.{arith}
use Rattle.saying.proofs.says_short.Goals as goal

pub returns-then-is_own : goal.returns-then-is_own
returns-then-is_own c = let z = c in
    let a = z.args in
    plain_other a.s.now (bits a.w.now) (a.i + 1) a.p a.n _ c.byte-d.ensures (sym c.is_own.ensures ∙ c.if-is_own.true) (omega (arith, z.requires.1)) _
    (head_first (bits a.w.now) (bits_binary a.w.now) a.p a.x z.requires.3) c.if-head-d.true

pub overflow_sub-n : goal.overflow_sub-n
overflow_sub-n c = omega (arith, (c.requires.4 c.if-v-ne-NOT_SHORT.true).few)

pub returns-then-y-n : goal.returns-then-y-n
returns-then-y-n c = let z = c in
    let a = z.args in
    let known = c.shared_slice_known-1 in
    short_same a.s.now a.w.now (λ k. omega (arith, known.given k)) z.requires.0 (a.i + 1) a.p a.n a.x a.v (omega (arith, z.requires.1)) z.requires.3 (z.requires.4 c.if-v-ne-NOT_SHORT.true)
    (ap (λ (y : ℕ). y / 2 ^ (56 - 8 * a.n)) (sym c.field-y.ensures) ∙ c.if-y-n.true)
