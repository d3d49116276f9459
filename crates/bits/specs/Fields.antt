-- Laws of `field`, for widths that are left open: a field in two parts, its first bits, its last bits, and the bytes that it is read from.
use Prim.Native.Nat.{ℕ, zero, suc, ◌+◌, ◌-◌, ◌*◌, ◌/◌, ◌%◌, ◌^◌, ◌≤◌, ◌<◌}
use Rattle.std.specs.Prelude.{◌≡◌, refl}
use Rattle.std.proofs.Common.{sym, ap, ◌∙◌, pow-suc, add-zero, add-suc, mul_assoc, mul-one, add-mul, div-one, pow_pos, shl_lt}
use Rattle.std.proofs.Math.Nat.{mod-one}
use native.Mathlib.Omega.{arith}
use Rattle.std.proofs.Math.Arith.{mod-mul}
use Rattle.std.proofs.Math.Pow.{pow-add, high, low, shr-shr}
use Rattle.rules.specs.Bytes.{Bytes, byte_at}
use Rattle.rules.specs.Bits.{Bits, bits}
use Rattle.rules.specs.Layout.{field}
use Rattle.rules.specs.LayoutLaws.{Binary, field_lt}

pub field_none : (b : Bits) (p : ℕ) → field b 0 p ≡ 0
unfolding field
field_none b p = refl

-- a field of w + v bits is one of w bits and behind it one of v
pub field_append : (b : Bits) (w v p : ℕ) → field b (w + v) p ≡ field b w p * 2 ^ v + field b v (p + w)
unfolding field
field_append b w zero p = rw (add-zero w, mul-one, add-zero)
field_append b w (suc v) p =
    let n : field b w p * 2 ^ suc v ≡ field b w p * 2 ^ v * 2 = rw (pow-suc, ← mul_assoc) in
    let q : p + (w + v) ≡ p + w + v = omega arith in
    rw (add-suc, n, q) (omega (arith, field_append b w v p))

module _ (b : Bits) (bin : Binary b) where
  -- its first w bits
  pub field_first : (w v p : ℕ) → field b (w + v) p / 2 ^ v ≡ field b w p
  field_first w v p = ap (λ (x : ℕ). x / 2 ^ v) (field_append b w v p) ∙ high (field b w p) v (field_lt b bin v (p + w))

  -- its last v bits
  pub field_last : (w v p : ℕ) → field b (w + v) p % 2 ^ v ≡ field b v (p + w)
  field_last w v p = ap (λ (x : ℕ). x % 2 ^ v) (field_append b w v p) ∙ low (field b w p) v (field_lt b bin v (p + w))

  -- u bits, then w, then v: those in the middle
  pub field_middle : (u w v p : ℕ) → field b (u + w + v) p / 2 ^ v % 2 ^ w ≡ field b w (p + u)
  field_middle u w v p = ap (λ (x : ℕ). x % 2 ^ w) (field_first (u + w) v p) ∙ field_last u w p

  -- the first w bits shifted out of w + v
  pub field_shifted : (w v p : ℕ) → field b (w + v) p * 2 ^ w % 2 ^ (w + v) ≡ field b v (p + w) * 2 ^ w
  field_shifted w v p =
      let e : w + v ≡ v + w = omega arith in
      let h : field b w p * 2 ^ v * 2 ^ w ≡ field b w p * 2 ^ (v + w) = rw (pow-add, ← mul_assoc) in
      ap (λ (x : ℕ). x * 2 ^ w % 2 ^ (w + v)) (field_append b w v p)
      ∙ rw (add-mul, h, e) (low (field b w p) (v + w) (shl_lt v w (field_lt b bin v (p + w))))

-- the first j bits of the byte k
pub field_of_byte : (s : Bytes) (k j : ℕ) → j ≤ 8 → field (bits s) j (8 * k) ≡ byte_at s k / 2 ^ (8 - j) % 2 ^ j
unfolding field bits
field_of_byte s k zero h = sym (mod-one (byte_at s k / 2 ^ 8))
field_of_byte s k (suc j) h =
    let x = byte_at s k in
    let d : (8 * k + j) / 8 ≡ k = omega arith in
    let m : (8 * k + j) % 8 ≡ j = omega arith in
    let e : 7 - j + 1 ≡ 8 - j = omega arith in
    let f : 8 - suc j ≡ 7 - j = omega arith in
    let g : x / 2 ^ (7 - j) / 2 ≡ x / 2 ^ (8 - j) = shr-shr x (7 - j) 1 ∙ ap (λ (n : ℕ). x / 2 ^ n) e in
    let t : 0 < 2 = omega arith in
    rw (d, m, f, pow-suc, mod-mul (x / 2 ^ (7 - j)) (pow_pos j) t, g, field_of_byte s k j (omega arith))

pub field_byte : (s : Bytes) (k : ℕ) → field (bits s) 8 (8 * k) ≡ byte_at s k % 256
field_byte s k = field_of_byte s k 8 (omega arith) ∙ ap (λ (n : ℕ). n % 256) (div-one (byte_at s k))

-- n bytes from the place p on as a number, the least significant first
unfoldable pub little : Bits → ℕ → ℕ → ℕ
little b zero p = 0
little b (suc n) p = field b 8 p + 256 * little b n (p + 8)

module _ (b : Bits) where
  -- with the byte behind them
  pub little_more : (n p : ℕ) → little b (suc n) p ≡ little b n p + field b 8 (p + 8 * n) * 2 ^ (8 * n)
  unfolding little
  little_more zero p =
      let e : p + 8 * 0 ≡ p = omega arith in
      rw (e, mul-one) (omega arith)
  little_more (suc n) p =
      let e : p + 8 * suc n ≡ p + 8 + 8 * n = omega arith in
      let d : 8 * suc n ≡ 8 * n + 8 = omega arith in
      let f : field b 8 (p + 8 + 8 * n) * 2 ^ (8 * n + 8) ≡ field b 8 (p + 8 + 8 * n) * 2 ^ (8 * n) * 256 = rw (pow-add, ← mul_assoc) in
      rw (e, d, f) (omega (arith, little_more n (p + 8)))

module _ (b : Bits) (bin : Binary b) where
  pub little_lt : (n p : ℕ) → little b n p < 2 ^ (8 * n)
  unfolding little
  little_lt zero p = omega arith
  little_lt (suc n) p =
      let d : 8 * suc n ≡ 8 * n + 8 = omega arith in
      let e : 2 ^ (8 * n + 8) ≡ 2 ^ (8 * n) * 256 = pow-add 2 (8 * n) 8 in
      rw (d, e) (omega (arith, little_lt n (p + 8), field_lt b bin 8 p))

  -- the byte j of them
  pub little_byte : (n p j : ℕ) → j < n → little b n p / 2 ^ (8 * j) % 256 ≡ field b 8 (p + 8 * j)
  unfolding little
  little_byte zero p j h = absurd (omega arith)
  little_byte (suc n) p zero h =
      let e : p + 8 * 0 ≡ p = omega arith in
      rw e (omega (arith, field_lt b bin 8 p))
  little_byte (suc n) p (suc j) h =
      let d : 8 * suc j ≡ 8 + 8 * j = omega arith in
      let e : p + (8 + 8 * j) ≡ p + 8 + 8 * j = omega arith in
      let f : (field b 8 p + 256 * little b n (p + 8)) / 2 ^ 8 ≡ little b n (p + 8) = omega (arith, field_lt b bin 8 p) in
      rw (d, e, ← shr-shr (field b 8 p + 256 * little b n (p + 8)) 8 (8 * j), f) (little_byte n (p + 8) j (omega arith))
