use Prim.Native.Nat.{ℕ, ◌*◌, ◌%◌, ◌^◌, ◌<◌}
use native.Mathlib.Nat.{mod-eq_of_lt}
use lib.Pow.{pow-lt}
use Rattle.layout.specs.Text.{text_at}
use Rattle.scope.specs.NameBits.{bit_at, bit_of}
use mathlib.Core.Path.{◌≡◌, sym, ap, ◌∙◌}
use native.Mathlib.Omega.{arith}
use Rattle.rules.specs.Bits.{bits}
use Rattle.rules.specs.BundleLaws.{bits_binary}
use Rattle.rules.specs.LayoutLaws.{field_lt}
use Rattle.scope.proofs.Heads.{no_head, some_head}
use Rattle.scope.proofs.name_bit.Goals as goal

pub returns-then-x-lt256 : goal.returns-then-x-lt256
returns-then-x-lt256 c = let a = c.args in
    sym (ap (λ (i : ℕ). 2 ^ i) (no_head (bits a.b.now) (bits_binary a.b.now) a.p (omega (arith, c.if-x-lt256.true, c.field-x.ensures))))

pub overflow_add-result : goal.overflow_add-result
overflow_add-result c = let a = c.args in omega (arith, c.field-x.ensures, field_lt (bits a.b.now) (bits_binary a.b.now) 24 a.p)

pub returns : goal.returns
returns c = let a = c.args in
    let x = c.field-x.result in
    let i : ℕ = bit_at x in
    let lt : i < 64 = omega arith in
    let one : 1 * 2 ^ i ≡ 2 ^ i = omega arith in
    let e : i ≡ bit_of (text_at (bits a.b.now) a.p) =
    ap bit_at c.field-x.ensures ∙ sym (some_head (bits a.b.now) (bits_binary a.b.now) a.p (omega (arith, c.if-x-lt256.false, c.field-x.ensures))) in
    ap (λ (n : ℕ). n % 18446744073709551616) one ∙ mod-eq_of_lt (pow-lt lt) ∙ ap (λ (n : ℕ). 2 ^ n) e
