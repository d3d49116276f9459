use Rattle.output.proofs.Packed.{copy_packed_more}
use Rattle.bits.specs.Packed.{bytes_at, number_bytes, number_packed}
use Rattle.rules.specs.BundleLaws.{bits_binary}
use Rattle.rules.specs.Bits.{bits}
use Rattle.rules.specs.Bytes.{Bytes}
use lib.Seq.{sets}
use native.Mathlib.Omega.{arith}
use mathlib.Core.Path.{◌≡◌, refl, ap, ◌∙◌}
use Prim.Native.Nat.{ℕ, ◌+◌, ◌*◌, ◌/◌, ◌%◌}
use Rattle.output.proofs.copy_packed.Goals as goal

pub loop-i-init : goal.loop-i-init
unfolding bytes_at
loop-i-init c = refl

pub loop-i-preserved : goal.loop-i-preserved
loop-i-preserved c = let a = c.args in
    let l = c.loop-i in
    let b = bits a.s.now in
    let q = a.p + 64 * l.i in
    let e : q + 0 ≡ a.p + 8 * (8 * l.i) = omega arith in
    let f : 8 * l.i + 8 ≡ 8 * (l.i + 1) = omega arith in
    let z = number_packed b (bits_binary a.s.now) 8 0 q c.field.result c.field.ensures ∙ ap (λ (r : ℕ). bytes_at b r 8) e in
    c.put_word.ensures
    ∙ ap (λ (u : Bytes). sets u (a.at + 8 * l.i) (number_bytes 8 c.field.result)) l.invariant
    ∙ ap (sets (sets a.out.now a.at (bytes_at b a.p (8 * l.i))) (a.at + 8 * l.i)) z
    ∙ copy_packed_more a.out.now b a.at a.p (8 * l.i) 8
    ∙ ap (λ (k : ℕ). sets a.out.now a.at (bytes_at b a.p k)) f

pub returns : goal.returns
returns c = let a = c.args in
    let l = c.loop-i in
    let b = bits a.s.now in
    let w = a.n / 8 in
    let i : l.i ≡ w = omega arith in
    let q : a.p + 64 * w ≡ a.p + 8 * (8 * w) = omega arith in
    let e : 8 * w + a.n % 8 ≡ a.n = omega arith in
    c.copy_bytes.ensures
    ∙ ap (λ (u : Bytes). sets u (a.at + 8 * w) (bytes_at b (a.p + 64 * w) (a.n % 8))) (l.invariant ∙ ap (λ (k : ℕ). sets a.out.now a.at (bytes_at b a.p (8 * k))) i)
    ∙ ap (λ (k : ℕ). sets (sets a.out.now a.at (bytes_at b a.p (8 * w))) (a.at + 8 * w) (bytes_at b k (a.n % 8))) q
    ∙ copy_packed_more a.out.now b a.at a.p (8 * w) (a.n % 8)
    ∙ ap (λ (k : ℕ). sets a.out.now a.at (bytes_at b a.p k)) e
