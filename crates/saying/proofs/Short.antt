-- A short name as one number, with a quote behind it, against eight bytes of the text.
use Prim.Native.Nat.{ℕ, zero, suc, ◌+◌, ◌-◌, ◌*◌, ◌/◌, ◌%◌, ◌^◌, ◌≤◌, ◌<◌}
use mathlib.Core.Bool.{true}
use mathlib.Core.List.{◌∷◌}
use mathlib.Core.Path.{◌≡◌, refl, sym, ap, ap₂, ◌∙◌, subst}
use native.Mathlib.Nat.{mod-eq_of_lt}
use native.Mathlib.Omega.{arith}
use lib.ListN.{length, get_or}
use Rattle.rules.specs.Bytes.{Bytes, same, byte_at}
use Rattle.rules.specs.Bits.{bits}
use Rattle.rules.specs.Layout.{field}
use Rattle.rules.specs.LayoutLaws.{field_lt}
use Rattle.rules.specs.BundleLaws.{bits_binary}
use Rattle.rules.specs.Order.{same_refl}
use Rattle.bits.specs.Fields.{field_append, field_first, field_byte}
use Rattle.bits.specs.Packed.{bytes_at, bytes_get, number_bytes, number_packed}
use Rattle.saying.specs.Said.{remaining, is_own, IsShort}
use Rattle.saying.proofs.Headed.{head_byte}
use Rattle.saying.proofs.Remaining.{left_quote, inside_start, own_in, own_step}

module _ (s : Bytes) (within : (k : ℕ) → byte_at s k < 256) where
  byte_field : (k q : ℕ) → q ≡ 8 * k → field (bits s) 8 q ≡ byte_at s k
  byte_field k q e = ap (field (bits s) 8) e ∙ field_byte s k ∙ mod-eq_of_lt (within k)

  -- n bytes that stand for themselves, and a quote behind them
  own_bytes : (n i : ℕ) → length s ≤ 65536 → i ≤ 65548 → ((j : ℕ) → j < n → is_own (byte_at s (i + j)) ≡ true) → byte_at s (i + n) ≡ 34 → remaining s i 0 ≡ bytes_at (bits s) (8 * i) n
  unfolding bytes_at
  own_bytes zero i le near own q =
      let e : i + 0 ≡ i = omega arith in
      left_quote s i 0 (ap (byte_at s) (sym e) ∙ q)
  own_bytes (suc n) i le near own q =
      let e : i + 0 ≡ i = omega arith in
      let f : i + 1 + n ≡ i + suc n = omega arith in
      let g : 8 * (i + 1) ≡ 8 * i + 8 = omega arith in
      let here : is_own (byte_at s i) ≡ true = ap (λ (k : ℕ). is_own (byte_at s k)) (sym e) ∙ own 0 (omega arith) in
      own_step s i 0 here (inside_start s i near)
      ∙ ap₂ ◌∷◌ (sym (byte_field i (8 * i) refl))
      (own_bytes n (i + 1) le (omega (arith, own_in s i here)) (λ j lt. let h : i + 1 + j ≡ i + suc j = omega arith in ap (λ (k : ℕ). is_own (byte_at s k)) h ∙ own (suc j) (omega arith)) (ap (byte_at s) f ∙ q)
      ∙ ap (λ (k : ℕ). bytes_at (bits s) k n) g)

module _ (s w : Bytes) (within : (k : ℕ) → byte_at s k < 256) (le : length s ≤ 65536) (i p n x v : ℕ) (near : i ≤ 65548) (e : x ≡ field (bits w) 56 p) (h : IsShort x n v)
    (g : field (bits s) 64 (8 * i) / 2 ^ (56 - 8 * n) ≡ v) where
  text_word : field (bits s) (8 * n + 8) (8 * i) ≡ v
  text_word =
      let d : 8 * n + 8 + (56 - 8 * n) ≡ 64 = omega (arith, h.few) in
      sym (field_first (bits s) (bits_binary s) (8 * n + 8) (56 - 8 * n) (8 * i)) ∙ ap (λ (k : ℕ). field (bits s) k (8 * i) / 2 ^ (56 - 8 * n)) d ∙ g

  name_word : x / 2 ^ (56 - 8 * n) ≡ field (bits w) (8 * n) p
  name_word =
      let d : 8 * n + (56 - 8 * n) ≡ 56 = omega (arith, h.few) in
      ap (λ (y : ℕ). y / 2 ^ (56 - 8 * n)) (e ∙ ap (λ (k : ℕ). field (bits w) k p) (sym d)) ∙ field_first (bits w) (bits_binary w) (8 * n) (56 - 8 * n) p

  halves : field (bits s) (8 * n) (8 * i) * 256 + field (bits s) 8 (8 * i + 8 * n) ≡ field (bits w) (8 * n) p * 256 + 34
  halves = sym (field_append (bits s) (8 * n) 8 (8 * i)) ∙ text_word ∙ h.is ∙ ap (λ (y : ℕ). y * 256 + 34) name_word

  same_words : field (bits s) (8 * n) (8 * i) ≡ field (bits w) (8 * n) p
  same_words = omega (arith, halves, field_lt (bits s) (bits_binary s) 8 (8 * i + 8 * n))

  quote_behind : byte_at s (i + n) ≡ 34
  quote_behind =
      let q : field (bits s) 8 (8 * i + 8 * n) ≡ 34 = omega (arith, halves, field_lt (bits s) (bits_binary s) 8 (8 * i + 8 * n)) in
      sym (byte_field s within (i + n) (8 * i + 8 * n) (omega arith)) ∙ q

  same_bytes : bytes_at (bits s) (8 * i) n ≡ bytes_at (bits w) p n
  same_bytes =
      let z : 0 + 8 * n ≡ 8 * n = omega arith in
      let a : 8 * i + 0 ≡ 8 * i = omega arith in
      let b : p + 0 ≡ p = omega arith in
      ap (λ (k : ℕ). bytes_at (bits s) k n) (sym a)
      ∙ sym (number_packed (bits s) (bits_binary s) n 0 (8 * i) (field (bits s) (8 * n) (8 * i)) (ap (λ (k : ℕ). field (bits s) k (8 * i)) (sym z)))
      ∙ ap (number_bytes n) same_words
      ∙ number_packed (bits w) (bits_binary w) n 0 p (field (bits w) (8 * n) p) (ap (λ (k : ℕ). field (bits w) k p) (sym z))
      ∙ ap (λ (k : ℕ). bytes_at (bits w) k n) b

  text_own : (j : ℕ) → j < n → is_own (byte_at s (i + j)) ≡ true
  text_own j lt =
      let f : byte_at s (i + j) ≡ x / 2 ^ (48 - 8 * j) % 256 =
      sym (byte_field s within (i + j) (8 * i + 8 * j) (omega arith)) ∙ sym (bytes_get (bits s) (8 * i) n j lt)
      ∙ ap (λ (l : Bytes). get_or l j 0) same_bytes ∙ bytes_get (bits w) p n j lt
      ∙ sym (head_byte (bits w) (bits_binary w) p x j e (omega (arith, h.few)))
      in
      ap is_own f ∙ h.own j lt

  pub short_same : true ≡ same (remaining s i 0) (bytes_at (bits w) p n)
  short_same =
      sym (same_refl (bytes_at (bits w) p n))
      ∙ ap (λ (l : Bytes). same l (bytes_at (bits w) p n)) (sym (own_bytes s within n i le near text_own quote_behind ∙ same_bytes))
