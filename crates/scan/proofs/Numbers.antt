-- Which numbers are none of the integers, by the steps of `is_outside`.
use Rattle.std.specs.Prelude.{Option as RustOption, Some, None}
use mathlib.Core.Bool.{Bool, true, false, ◌&&◌, ◌||◌, not}
use mathlib.Core.Path.{◌≡◌, refl, sym, ap, ◌∙◌}
use Prim.Native.Nat.{ℕ, ◌+◌, ◌≤◌, ◌<◌}
use native.Mathlib.Omega.{arith}
use lib.Dec.{eqb, leb, ltb}
use borrow.Author.Tests.{eq-eqb, ne_eqb, lt-ltb, le-ltb, leb-true, leb-false}
use Rattle.rules.specs.Bytes.{Bytes, pick, byte_at}
use Rattle.rules.specs.Order.{differ, and_left, and_right}
use Rattle.rules.specs.Scan.{minus_end, whole_end, fraction_end, exponent_end, onward, number_end, decimal_value, slice, magnitude, outside}
use Rattle.scan.proofs.Decimal.{short_fits}
use Rattle.scan.specs.Sized.{sized}

no_not : (t : Bool) → not t ≡ true → t ≡ false
no_not true h = differ (sym h)
no_not false h = refl

is_size : (n m : ℕ) → Some n ≡ sized m → (m ≡ n) × (m ≤ 18446744073709551615)
is_size n m h = step (leb m 18446744073709551615) refl h
  where
    step : (t : Bool) → leb m 18446744073709551615 ≡ t → Some n ≡ pick t (Some m) None → (m ≡ n) × (m ≤ 18446744073709551615)
    step true e q = (cc, leb-true m 18446744073709551615 e)
    step false e q = let z : ◌≡◌ {A = ℕ} 0 1 = cc in absurd (omega arith)

large_size : (m : ℕ) → None ≡ sized m → 18446744073709551615 < m
large_size m h = step (leb m 18446744073709551615) refl h
  where
    step : (t : Bool) → leb m 18446744073709551615 ≡ t → None ≡ pick t (Some m) None → 18446744073709551615 < m
    step true e q = let z : ◌≡◌ {A = ℕ} 0 1 = cc in absurd (omega arith)
    step false e q = leb-false m 18446744073709551615 e

-- the number ends where its tail does
pub tail_number : (s : Bytes) (i d w e : ℕ) → d ≡ minus_end s i → w ≡ whole_end s d → e ≡ onward (exponent_end s) (onward (fraction_end s) w) → e ≡ number_end s i
unfolding number_end
tail_number s i d w e hd hw he = he ∙ ap (λ (x : ℕ). onward (exponent_end s) (onward (fraction_end s) x)) (hw ∙ ap (whole_end s) hd)

-- d, w and e are the places that the code found: behind the sign, behind the whole part, behind the number
module _ (s : Bytes) (i d w e : ℕ) (hd : d ≡ minus_end s i) (hw : w ≡ whole_end s d) (he : e ≡ number_end s i) where
  whole_is : w ≡ whole_end s (minus_end s i)
  whole_is = hw ∙ ap (whole_end s) hd

  magnitude_is : decimal_value 0 (slice s d w) ≡ magnitude s i
  unfolding magnitude
  magnitude_is = rw (hw, hd)

  pub outside_part : (w ≡ e → ⊥) → true ≡ outside s i
  unfolding outside
  outside_part n = rw (← whole_is, ← he, ne_eqb w e n)

  module _ (q : w ≡ e) where
    -- of few digits and no minus
    pub outside_short : (b : ℕ) → b ≡ byte_at s i → (not (eqb b 45) && leb w (d + 18)) ≡ true → false ≡ outside s i
    unfolding outside
    outside_short b hb h =
        let m = no_not (eqb b 45) (and_left (not (eqb b 45)) (leb w (d + 18)) h) in
        let l = short_fits s d w hw (leb-true w (d + 18) (and_right (not (eqb b 45)) (leb w (d + 18)) h)) in
        rw (← whole_is, ← he, eq-eqb w e q, ← hb, m, ← magnitude_is, le-ltb 18446744073709551615 (decimal_value 0 (slice s d w)) l)

    -- of a number that has 64 bits
    module _ (b n : ℕ) (hb : b ≡ byte_at s i) (h : Some n ≡ sized (decimal_value 0 (slice s d w))) where
      value_is : (magnitude s i ≡ n) × (magnitude s i ≤ 18446744073709551615)
      value_is = is_size n (magnitude s i) (h ∙ ap sized magnitude_is)

      pub outside_zero : b ≡ 45 → n ≡ 0 → true ≡ outside s i
      unfolding outside
      outside_zero m z = rw (← whole_is, ← he, eq-eqb w e q, ← hb, eq-eqb b 45 m, value_is.0, eq-eqb n 0 z)

      pub outside_minus : b ≡ 45 → (n ≡ 0 → ⊥) → ltb 9223372036854775808 n ≡ outside s i
      unfolding outside
      outside_minus m z = rw (← whole_is, ← he, eq-eqb w e q, ← hb, eq-eqb b 45 m, value_is.0, ne_eqb n 0 z)

      pub outside_plus : (b ≡ 45 → ⊥) → false ≡ outside s i
      unfolding outside
      outside_plus m = rw (← whole_is, ← he, eq-eqb w e q, ← hb, ne_eqb b 45 m, le-ltb 18446744073709551615 (magnitude s i) value_is.1)

    pub outside_large : None ≡ sized (decimal_value 0 (slice s d w)) → true ≡ outside s i
    unfolding outside
    outside_large h = step (eqb (byte_at s i) 45) (large_size (magnitude s i) (h ∙ ap sized magnitude_is)) (eqb (magnitude s i) 0) (eq-eqb w e q)
      where
        step : (t : Bool) → 18446744073709551615 < magnitude s i → (z : Bool) → eqb w e ≡ true
            → true ≡ (not (eqb (whole_end s (minus_end s i)) (number_end s i)) || pick t (z || ltb 9223372036854775808 (magnitude s i)) (ltb 18446744073709551615 (magnitude s i)))
        step true g true k = rw (← whole_is, ← he, k)
        step true g false k = rw (← whole_is, ← he, k, lt-ltb 9223372036854775808 (magnitude s i) (omega arith))
        step false g z k = rw (← whole_is, ← he, k, lt-ltb 18446744073709551615 (magnitude s i) g)
