use native.Mathlib.Omega.{arith}
use mathlib.Core.Path.{◌≡◌, refl, ap, ◌∙◌}
use Prim.Native.Nat.{ℕ, ◌+◌, ◌-◌, ◌*◌}
use Rattle.rules.specs.Bits.{bits}
use Rattle.rules.specs.Layout.{field}
use Rattle.rules.specs.BundleLaws.{bits_binary}
use Rattle.bits.proofs.Laws.{byte_lt, bytes_more, bytes_lt}
use Rattle.bits.proofs.+bytes_or_zero.Goals as goal

pub returns-then-n-eq0 : goal.returns-then-n-eq0
unfolding field
returns-then-n-eq0 t c = rw c.if-n-eq0.true refl

pub overflow_mul-result : goal.overflow_mul-result
overflow_mul-result t c = let a = c.args in
    let b = bits a.s.now in
    record { fits = omega (arith, bytes_lt b (bits_binary a.s.now) a.k (a.n - 1) c.bytes_or_zero.result 0 c.bytes_or_zero.ensures (omega arith)) }

pub overflow_add-result : goal.overflow_add-result
overflow_add-result t c = let a = c.args in
    let b = bits a.s.now in
    record { fits = omega (arith, bytes_lt b (bits_binary a.s.now) a.k (a.n - 1) c.bytes_or_zero.result 0 c.bytes_or_zero.ensures (omega arith), byte_lt a.s.now (8 * (a.k + (a.n - 1)))) }

pub returns : goal.returns
returns t c = let a = c.args in
    let b = bits a.s.now in
    let e : a.n - 1 + 1 ≡ a.n = omega arith in
    bytes_more b (bits_binary a.s.now) a.k (a.n - 1) c.bytes_or_zero.result c.byte_or_zero.result c.bytes_or_zero.ensures c.byte_or_zero.ensures ∙ ap (λ (n : ℕ). field b (8 * n) (8 * a.k)) e
