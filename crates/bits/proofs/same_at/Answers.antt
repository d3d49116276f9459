use Rattle.bits.specs.Compare.{same_lengths}
use Rattle.bits.specs.Packed.{bytes_at, bytes_length, same_run, differ_run}
use Rattle.rules.specs.BundleLaws.{bits_binary}
use Rattle.rules.specs.Bits.{Bits, bits}
use Rattle.rules.specs.Bytes.{same}
use native.Mathlib.Omega.{arith}
use mathlib.Core.Path.{◌≡◌, refl, sym, ◌∙◌}
use mathlib.Core.Bool.{Bool}
use Prim.Native.Nat.{ℕ, ◌+◌, ◌-◌, ◌*◌}
use Rattle.bits.proofs.same_at.Goals as goal

abbrev Same : Bits → ℕ → ℕ → ℕ → Bool
Same b p q n = same (bytes_at b p n) (bytes_at b q n)

pub returns-then-n-m : goal.returns-then-n-m
returns-then-n-m c = let a = c.args in
    let b = bits a.s.now in
    same_lengths (bytes_at b a.p a.n) (bytes_at b a.q a.m) (λ e. c.if-n-m.true (sym (bytes_length b a.p a.n) ∙ e ∙ bytes_length b a.q a.m))

pub returns-then-field : goal.returns-then-field
returns-then-field c = let a = c.args in
    let i = c.loop-i.i in
    let k = c.min-k.result in
    let e : k + (a.n - i - k) ≡ a.n - i = omega arith in
    let d = differ_run (bits a.s.now) (bits_binary a.s.now) (a.n - i - k) k (a.p + 8 * i) (a.q + 8 * i) (λ f. c.if-field.true (c.field.ensures ∙ f ∙ sym c.field-in-loop-i.ensures)) in
    (rw e at d) ∙ c.loop-i.invariant.1

pub loop-i-preserved : goal.loop-i-preserved
loop-i-preserved c = let a = c.args in
    let i = c.loop-i.i in
    let k = c.min-k.result in
    let e : k + (a.n - i - k) ≡ a.n - i = omega arith in
    let f : a.p + 8 * (i + k) ≡ a.p + 8 * i + 8 * k = omega arith in
    let g : a.q + 8 * (i + k) ≡ a.q + 8 * i + 8 * k = omega arith in
    let h : a.n - (i + k) ≡ a.n - i - k = omega arith in
    let d = same_run (bits a.s.now) (bits_binary a.s.now) (a.n - i - k) k (a.p + 8 * i) (a.q + 8 * i) (sym c.field.ensures ∙ c.if-field.false ∙ c.field-in-loop-i.ensures) in
    (omega arith, rw (f, g, h) (sym (rw e at d)) ∙ c.loop-i.invariant.1)

pub returns : goal.returns
unfolding bytes_at
returns c = let a = c.args in
    let e : a.n - c.loop-i.i ≡ 0 = omega arith in
    (rw e refl) ∙ c.loop-i.invariant.1
