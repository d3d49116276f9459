-- Fields put together from bytes by shifts, and cut out of a word.
use Prim.Native.Nat.{ℕ, zero, suc, ◌+◌, ◌-◌, ◌*◌, ◌/◌, ◌%◌, ◌^◌, ◌≤◌, ◌<◌}
use mathlib.Core.Bool.{true, ◌&&◌}
use mathlib.Core.Path.{◌≡◌, refl, sym, ap, ap₂, ◌∙◌}
use native.Mathlib.Nat.{add_comm, add-mul, div-one, mul_assoc, mul-one, mod-eq_of_lt, zero-div}
use native.Mathlib.Omega.{arith}
use lib.Bits.{bit_or, or_shifted, or_shifted_r}
use lib.Dec.{leb, ltb}
use lib.ListN.{length, get_or, get_or-eq_default}
use lib.Pow.{pow-add, pow_mono, shl_lt, shl_exact, shl-shr, shr-shr}
use borrow.Author.Tests.{ltb-true, leb-true}
use Rattle.rules.specs.Bytes.{Bytes}
use Rattle.rules.specs.Bits.{Bits, bits}
use Rattle.rules.specs.Order.{and_left, and_right}
use Rattle.rules.specs.Layout.{field}
use Rattle.rules.specs.LayoutLaws.{Binary, field_lt}
use Rattle.rules.specs.BundleLaws.{bits_binary}
use Rattle.bits.specs.Fields.{field_append, field_first, field_middle, field_shifted, field_byte, little, little_more, little_lt, little_byte}

pub byte_read : (s : Bytes) (k : ℕ) → get_or s k 0 < 256 → get_or s k 0 ≡ field (bits s) 8 (8 * k)
byte_read s k h = sym (field_byte s k ∙ mod-eq_of_lt h)

-- past the end every bit is 0
pub past : (s : Bytes) (w p : ℕ) → 8 * length s ≤ p → 0 ≡ field (bits s) w p
unfolding field bits
past s zero p h = refl
past s (suc w) p h =
    let d = 2 ^ (7 - (p + w) % 8) in
    let z : get_or s ((p + w) / 8) 0 ≡ 0 = get_or-eq_default s 0 (omega arith) in
    let x : get_or s ((p + w) / 8) 0 / d % 2 ≡ 0 = ap (λ (n : ℕ). n / d % 2) z ∙ ap (λ (n : ℕ). n % 2) (zero-div d) in
    omega (arith, past s w p h, x)

pub byte_past : (s : Bytes) (k : ℕ) → length s ≤ k → 0 ≡ field (bits s) 8 (8 * k)
byte_past s k h = past s 8 (8 * k) (omega arith)

pub byte_lt : (s : Bytes) (q : ℕ) → field (bits s) 8 q < 256
byte_lt s q = field_lt (bits s) (bits_binary s) 8 q

module _ (b : Bits) (bin : Binary b) where
  -- one byte more: x has the bits before it, shifted so far that it fits behind them
  more : (w k p x y z : ℕ) → x ≡ field b w p * 2 ^ (8 + k) → y ≡ field b 8 (p + w) → z ≡ y * 2 ^ k → bit_or x z ≡ field b (w + 8) p * 2 ^ k
  more w k p x y z e f g =
      let h : y < 2 ^ 8 = rw f (field_lt b bin 8 (p + w)) in
      let d : field b w p * 2 ^ (8 + k) ≡ field b w p * 2 ^ 8 * 2 ^ k = rw (pow-add, ← mul_assoc) in
      let r : field b (w + 8) p ≡ field b w p * 2 ^ 8 + y = field_append b w 8 p ∙ ap (λ (n : ℕ). field b w p * 2 ^ 8 + n) (sym f) in
      rw (e, g, or_shifted (field b w p) (8 + k) (y * 2 ^ k) (shl_lt 8 k h), d, r, add-mul)

  shifted : (k q y : ℕ) → 8 + k ≤ 64 → y ≡ field b 8 q → y * 2 ^ k % 2 ^ 64 ≡ y * 2 ^ k
  shifted k q y h e = shl_exact 8 k 64 (rw e (field_lt b bin 8 q)) h

  behind : (k j y : ℕ) → y ≡ field b 8 (8 * (k + j)) → y ≡ field b 8 (8 * k + 8 * j)
  behind k j y e = e ∙ ap (field b 8) (omega arith)

  -- eight bytes in a row
  pub word_of : (k t u v w x y z r : ℕ)
      → t ≡ field b 8 (8 * k) → u ≡ field b 8 (8 * (k + 1)) → v ≡ field b 8 (8 * (k + 2)) → w ≡ field b 8 (8 * (k + 3))
      → x ≡ field b 8 (8 * (k + 4)) → y ≡ field b 8 (8 * (k + 5)) → z ≡ field b 8 (8 * (k + 6)) → r ≡ field b 8 (8 * (k + 7))
      → bit_or (bit_or (bit_or (bit_or (bit_or (bit_or (bit_or (t * 2 ^ 56 % 2 ^ 64) (u * 2 ^ 48 % 2 ^ 64)) (v * 2 ^ 40 % 2 ^ 64)) (w * 2 ^ 32 % 2 ^ 64))
      (x * 2 ^ 24 % 2 ^ 64)) (y * 2 ^ 16 % 2 ^ 64)) (z * 2 ^ 8 % 2 ^ 64)) r ≡ field b 64 (8 * k)
  word_of k t u v w x y z r e0 e1 e2 e3 e4 e5 e6 e7 =
      more 56 0 (8 * k) _ r r
      (more 48 8 (8 * k) _ z _
      (more 40 16 (8 * k) _ y _
      (more 32 24 (8 * k) _ x _
      (more 24 32 (8 * k) _ w _
      (more 16 40 (8 * k) _ v _
      (more 8 48 (8 * k) _ u _
      (shifted 56 (8 * k) t (omega arith) e0 ∙ ap (λ (n : ℕ). n * 2 ^ 56) e0)
      (behind k 1 u e1) (shifted 48 _ u (omega arith) e1))
      (behind k 2 v e2) (shifted 40 _ v (omega arith) e2))
      (behind k 3 w e3) (shifted 32 _ w (omega arith) e3))
      (behind k 4 x e4) (shifted 24 _ x (omega arith) e4))
      (behind k 5 y e5) (shifted 16 _ y (omega arith) e5))
      (behind k 6 z e6) (shifted 8 _ z (omega arith) e6))
      (behind k 7 r e7) (sym (mul-one r))
      ∙ mul-one (field b 64 (8 * k))

  -- eight bytes in a row, the least significant first
  more_above : (n p x y z : ℕ) → x ≡ little b n p → y ≡ field b 8 (p + 8 * n) → z ≡ y * 2 ^ (8 * n) → bit_or x z ≡ little b (suc n) p
  more_above n p x y z e f g = rw (e, g, f) (or_shifted_r (field b 8 (p + 8 * n)) (8 * n) (little b n p) (little_lt b bin n p) ∙ add_comm _ _ ∙ sym (little_more b n p))

  first_below : (p : ℕ) → field b 8 p ≡ little b 1 p
  unfolding little
  first_below p = omega arith

  pub low_word_of : (k t u v w x y z r : ℕ)
      → t ≡ field b 8 (8 * k) → u ≡ field b 8 (8 * (k + 1)) → v ≡ field b 8 (8 * (k + 2)) → w ≡ field b 8 (8 * (k + 3))
      → x ≡ field b 8 (8 * (k + 4)) → y ≡ field b 8 (8 * (k + 5)) → z ≡ field b 8 (8 * (k + 6)) → r ≡ field b 8 (8 * (k + 7))
      → bit_or (bit_or (bit_or (bit_or (bit_or (bit_or (bit_or t (u * 2 ^ 8 % 2 ^ 64)) (v * 2 ^ 16 % 2 ^ 64)) (w * 2 ^ 24 % 2 ^ 64))
      (x * 2 ^ 32 % 2 ^ 64)) (y * 2 ^ 40 % 2 ^ 64)) (z * 2 ^ 48 % 2 ^ 64)) (r * 2 ^ 56 % 2 ^ 64) ≡ little b 8 (8 * k)
  low_word_of k t u v w x y z r e0 e1 e2 e3 e4 e5 e6 e7 =
      more_above 7 (8 * k) _ r _
      (more_above 6 (8 * k) _ z _
      (more_above 5 (8 * k) _ y _
      (more_above 4 (8 * k) _ x _
      (more_above 3 (8 * k) _ w _
      (more_above 2 (8 * k) _ v _
      (more_above 1 (8 * k) _ u _
      (e0 ∙ first_below (8 * k))
      (behind k 1 u e1) (shifted 8 _ u (omega arith) e1))
      (behind k 2 v e2) (shifted 16 _ v (omega arith) e2))
      (behind k 3 w e3) (shifted 24 _ w (omega arith) e3))
      (behind k 4 x e4) (shifted 32 _ x (omega arith) e4))
      (behind k 5 y e5) (shifted 40 _ y (omega arith) e5))
      (behind k 6 z e6) (shifted 48 _ z (omega arith) e6))
      (behind k 7 r e7) (shifted 56 _ r (omega arith) e7)

  -- and turned round
  turned : (k x j : ℕ) → x ≡ little b 8 (8 * k) → j < 8 → x / 2 ^ (8 * j) % 256 ≡ field b 8 (8 * (k + j))
  turned k x j e h = rw e (little_byte b bin 8 (8 * k) j h ∙ ap (field b 8) (omega arith))

  pub word_turned : (k x : ℕ) → x ≡ little b 8 (8 * k)
      → bit_or (bit_or (bit_or (bit_or (bit_or (bit_or (bit_or (x % 256 * 2 ^ 56 % 2 ^ 64) (x / 2 ^ 8 % 256 * 2 ^ 48 % 2 ^ 64)) (x / 2 ^ 16 % 256 * 2 ^ 40 % 2 ^ 64)) (x / 2 ^ 24 % 256 * 2 ^ 32 % 2 ^ 64))
      (x / 2 ^ 32 % 256 * 2 ^ 24 % 2 ^ 64)) (x / 2 ^ 40 % 256 * 2 ^ 16 % 2 ^ 64)) (x / 2 ^ 48 % 256 * 2 ^ 8 % 2 ^ 64)) (x / 2 ^ 56 % 256) ≡ field b 64 (8 * k)
  word_turned k x e =
      let z : x % 256 ≡ field b 8 (8 * k) = ap (λ (n : ℕ). n % 256) (sym (div-one x)) ∙ turned k x 0 e (omega arith) ∙ ap (field b 8) (omega arith) in
      word_of k _ _ _ _ _ _ _ _ z (turned k x 1 e (omega arith)) (turned k x 2 e (omega arith)) (turned k x 3 e (omega arith)) (turned k x 4 e (omega arith)) (turned k x 5 e (omega arith)) (turned k x 6 e (omega arith)) (turned k x 7 e (omega arith))

  -- the o bits that a shift took off in front are those that come in behind
  joined : (o v u p x y : ℕ) → x ≡ field b (o + v) p → y ≡ field b (o + u) (p + (o + v)) → bit_or (x * 2 ^ o % 2 ^ (o + v)) (y / 2 ^ u) ≡ field b (v + o) (p + o)
  joined o v u p x y e f =
      let g : p + (o + v) ≡ p + o + v = omega arith in
      let m : x * 2 ^ o % 2 ^ (o + v) ≡ field b v (p + o) * 2 ^ o = ap (λ (n : ℕ). n * 2 ^ o % 2 ^ (o + v)) e ∙ field_shifted b bin o v p in
      let n : y / 2 ^ u ≡ field b o (p + o + v) = ap (λ (n : ℕ). n / 2 ^ u) f ∙ field_first b bin o u (p + (o + v)) ∙ ap (field b o) g in
      rw (m, n) (or_shifted (field b v (p + o)) o (field b o (p + o + v)) (field_lt b bin o (p + o + v)) ∙ sym (field_append b v o (p + o)))

  window_at : (o p x y : ℕ) → o ≤ 8 → x ≡ field b 64 p → y ≡ field b 8 (p + 64) → bit_or (x * 2 ^ o % 2 ^ 64) (y / 2 ^ (8 - o)) ≡ field b 64 (p + o)
  window_at o p x y h e f =
      let v : o + (64 - o) ≡ 64 = omega arith in
      let u : o + (8 - o) ≡ 8 = omega arith in
      let w : 64 - o + o ≡ 64 = omega arith in
      rw (v, w) at (joined o (64 - o) (8 - o) p x y (rw v e) (rw (u, v) f))

  -- the same where all that comes in is zero
  window_past : (o p x : ℕ) → o ≤ 64 → x ≡ field b 64 p → 0 ≡ field b o (p + 64) → x * 2 ^ o % 2 ^ 64 ≡ field b 64 (p + o)
  window_past o p x h e f =
      let v : o + (64 - o) ≡ 64 = omega arith in
      let w : 64 - o + o ≡ 64 = omega arith in
      let q : p + o + (64 - o) ≡ p + 64 = omega arith in
      let y = field b (64 - o) (p + o) in
      let m : x * 2 ^ o % 2 ^ 64 ≡ y * 2 ^ o = ap (λ (n : ℕ). n * 2 ^ o % 2 ^ 64) e ∙ (rw v at (field_shifted b bin o (64 - o) p)) in
      let n : field b 64 (p + o) ≡ y * 2 ^ o + field b o (p + 64) = rw (w, q) at (field_append b (64 - o) o (p + o)) in
      omega (arith, m, n, f)

  -- w bits behind the first o of a word
  cut_at : (o w p x : ℕ) → w < 64 → o + w ≤ 64 → x ≡ field b 64 p → x * 2 ^ o % 2 ^ 64 / 2 ^ 1 / 2 ^ (63 - w) ≡ field b w (p + o)
  cut_at o w p x h g e =
      let u = 64 - (o + w) in
      let v : o + (64 - o) ≡ 64 = omega arith in
      let d : 1 + (63 - w) ≡ o + u = omega arith in
      let f : w + u ≡ 64 - o = omega arith in
      let y = field b (64 - o) (p + o) in
      let m : x * 2 ^ o % 2 ^ 64 ≡ y * 2 ^ o = ap (λ (n : ℕ). n * 2 ^ o % 2 ^ 64) e ∙ (rw v at (field_shifted b bin o (64 - o) p)) in
      let n : y * 2 ^ o / 2 ^ 1 / 2 ^ (63 - w) ≡ y / 2 ^ u = shr-shr (y * 2 ^ o) 1 (63 - w) ∙ ap (λ (n : ℕ). y * 2 ^ o / 2 ^ n) d ∙ sym (shr-shr (y * 2 ^ o) o u) ∙ ap (λ (n : ℕ). n / 2 ^ u) (shl-shr y o) in
      ap (λ (n : ℕ). n / 2 ^ 1 / 2 ^ (63 - w)) m ∙ n ∙ (rw f at (field_first b bin w u (p + o)))

  byte_in : (o p x : ℕ) → o ≤ 8 → x ≡ field b 16 p → x / 2 ^ (8 - o) % 256 ≡ field b 8 (p + o)
  byte_in o p x h e =
      let v : o + 8 + (8 - o) ≡ 16 = omega arith in
      rw e (rw v at (field_middle b bin o 8 (8 - o) p))

  pub pair_of : (k x y : ℕ) → x ≡ field b 8 (8 * k) → y ≡ field b 8 (8 * (k + 1)) → x * 256 + y ≡ field b 16 (8 * k)
  pair_of k x y e f = ap₂ (λ (m n : ℕ). m * 256 + n) e (behind k 1 y f) ∙ sym (field_append b 8 8 (8 * k))

  module _ (p : ℕ) where
    here : 8 * (p / 8) + p % 8 ≡ p
    here = omega arith

    pub window_of : {x y : ℕ} → x ≡ field b 64 (8 * (p / 8)) → y ≡ field b 8 (8 * (p / 8 + 8)) → bit_or (x * 2 ^ (p % 8) % 2 ^ 64) (y / 2 ^ (8 - p % 8)) ≡ field b 64 p
    window_of {x} {y} e f = window_at (p % 8) (8 * (p / 8)) x y (omega arith) e (behind (p / 8) 8 y f) ∙ ap (field b 64) here

    -- where what would come of the ninth byte is zero
    pub window_end : {x : ℕ} → x ≡ field b 64 (8 * (p / 8)) → 0 ≡ field b (p % 8) (8 * (p / 8) + 64) → x * 2 ^ (p % 8) % 2 ^ 64 ≡ field b 64 p
    window_end {x} e f = window_past (p % 8) (8 * (p / 8)) x (omega arith) e f ∙ ap (field b 64) here

    -- the first w bits, where a word holds them
    pub cut_of : (w : ℕ) {x : ℕ} → w ≤ 56 → x ≡ field b 64 (8 * (p / 8)) → x * 2 ^ (p % 8) % 2 ^ 64 / 2 ^ 1 / 2 ^ (63 - w) ≡ field b w p
    cut_of w {x} h e = cut_at (p % 8) w (8 * (p / 8)) x (omega arith) (omega arith) e ∙ ap (field b w) here

    pub byte_of : {x : ℕ} → x ≡ field b 16 (8 * (p / 8)) → x / 2 ^ (8 - p % 8) % 256 ≡ field b 8 p
    byte_of {x} e = byte_in (p % 8) (8 * (p / 8)) x (omega arith) e ∙ ap (field b 8) here

  -- i bytes are passed, and x is the next
  module _ (k i v x : ℕ) (e : v ≡ field b (8 * i) (8 * k)) where
    pub bytes_more : x ≡ field b 8 (8 * (k + i)) → v * 256 + x ≡ field b (8 * (i + 1)) (8 * k)
    bytes_more f =
        let w : 8 * (i + 1) ≡ 8 * i + 8 = omega arith in
        rw w (ap₂ (λ (m n : ℕ). m * 256 + n) e (behind k i x f) ∙ sym (field_append b (8 * i) 8 (8 * k)))

    pub bytes_lt : i < 8 → v < 2 ^ 56
    bytes_lt h = let g : 2 ^ (8 * i) ≤ 2 ^ 56 = pow_mono {j = 56} (omega arith) in omega (arith, e, field_lt b bin (8 * i) (8 * k))

  pub first_of : (w p x : ℕ) → w ≤ 64 → x ≡ field b 64 p → x / 2 ^ (64 - w) ≡ field b w p
  first_of w p x h e =
      let v : w + (64 - w) ≡ 64 = omega arith in
      rw e (rw v at (field_first b bin w (64 - w) p))

  -- n bytes from k on, of the last 8 of l
  pub last_of : (k l n x : ℕ) → n ≤ 8 → 8 ≤ l → k < l → l ≤ k + 8 → x ≡ field b 64 (8 * (l - 8)) → 0 ≡ field b (64 - 8 * (l - k)) (8 * (l - 8) + 64)
      → x * 2 ^ (64 - 8 * (l - k)) % 2 ^ 64 / 2 ^ (64 - 8 * n) ≡ field b (8 * n) (8 * k)
  last_of k l n x h i j m e f =
      let o = 64 - 8 * (l - k) in
      let q : 8 * (l - 8) + o ≡ 8 * k = omega arith in
      first_of (8 * n) (8 * k) (x * 2 ^ o % 2 ^ 64) (omega arith) (window_past o (8 * (l - 8)) x (omega arith) e f ∙ ap (field b 64) q)

-- what the test for the last 8 bytes tells
pub are_last : (k l : ℕ) → (leb 8 l && (ltb k l && leb l (k + 8))) ≡ true → (8 ≤ l) × (k < l) × (l ≤ k + 8)
are_last k l h =
    let g = and_right (leb 8 l) (ltb k l && leb l (k + 8)) h in
    (leb-true 8 l (and_left (leb 8 l) (ltb k l && leb l (k + 8)) h), ltb-true k l (and_left (ltb k l) (leb l (k + 8)) g), leb-true l (k + 8) (and_right (ltb k l) (leb l (k + 8)) g))
