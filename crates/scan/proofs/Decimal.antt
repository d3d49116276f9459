-- The loop over the digits of a number.
use Rattle.std.specs.Prelude.{Some, None}
use mathlib.Core.Bool.{Bool, true, false, ◌&&◌}
use mathlib.Core.List.{[], ◌∷◌}
use mathlib.Core.Path.{◌≡◌, refl, sym, ap, ◌∙◌}
use Prim.Native.Nat.{ℕ, suc, ◌+◌, ◌-◌, ◌*◌, ◌^◌, ◌≤◌, ◌<◌}
use native.Mathlib.Nat.{mul-one, one-mul, mul_assoc, mul-le-mul_right, pow-succ', pow-le-pow_right}
use native.Mathlib.Numerals.{add-one}
use native.Mathlib.Omega.{arith}
use lib.Dec.{eqb, leb}
use lib.ListN.{length, get_or, take, drop, length-take}
use lib.Seq.{drop-cons}
use borrow.Author.Tests.{le-leb, lt-leb, leb-true, eqb-true}
use Rattle.rules.specs.Bytes.{Bytes, pick, byte_at, run}
use Rattle.rules.specs.Order.{and_right}
use Rattle.rules.specs.Scan.{is_digit, digits_end, whole_end, decimal_value, slice}
use Rattle.scan.proofs.Bounds.{in_text, test_in}
use Rattle.scan.proofs.Runs.{run_within}
use Rattle.scan.specs.Sized.{sized}

slice_none : (s : Bytes) (k e : ℕ) → e ≤ k → slice s k e ≡ []
slice_none s k e le =
    let z : e - k ≡ 0 = omega arith in
    rw z

slice_more : (s : Bytes) (k e : ℕ) → k < e → e ≤ length s → slice s k e ≡ get_or s k 0 ∷ slice s (k + 1) e
slice_more s k e lt le =
    let z : e - k ≡ suc (e - (k + 1)) = omega arith in
    rw (z, drop-cons s k 0 (omega arith), add-one k)

value_up : (acc : ℕ) (l : Bytes) → acc ≤ decimal_value acc l
unfolding decimal_value
value_up acc [] = omega arith
value_up acc (c ∷ l) =
    let h = value_up (acc * 10 + (c - 48)) l in
    omega arith

pub value_more : (s : Bytes) (n k e : ℕ) → k < e → e ≤ length s
    → decimal_value n (slice s k e) ≡ decimal_value (n * 10 + (get_or s k 0 - 48)) (slice s (k + 1) e)
unfolding decimal_value
value_more s n k e lt le = rw (slice_more s k e lt le)

pub value_end : (s : Bytes) (n k e : ℕ) → e ≤ k → decimal_value n (slice s k e) ≡ n
unfolding decimal_value
value_end s n k e le = rw (slice_none s k e le)

pub sized_is : (n : ℕ) → n ≤ 18446744073709551615 → Some n ≡ sized n
sized_is n le = rw (le-leb n 18446744073709551615 le)

-- m is the value of all digits, n that of those before k; with the digit at k it is too large
pub sized_large : (s : Bytes) (n k e m : ℕ) → k < e → e ≤ length s → 18446744073709551615 < n * 10 + (get_or s k 0 - 48)
    → m ≡ decimal_value n (slice s k e) → None ≡ sized m
sized_large s n k e m lt le h q =
    let u = value_up (n * 10 + (get_or s k 0 - 48)) (slice s (k + 1) e) in
    let v : 18446744073709551615 < m = omega (arith, value_more s n k e lt le) in
    rw (lt-leb m 18446744073709551615 v)

-- Digits: so many are worth less than that power of ten

abbrev Digits : Bytes → Type 0
Digits [] = Unit {0}
Digits (c ∷ l) = (c ≤ 57) × Digits l

digits_below : (acc : ℕ) (l : Bytes) → Digits l → decimal_value acc l < (acc + 1) * 10 ^ length l
unfolding decimal_value
digits_below acc [] d = omega (arith, mul-one (acc + 1))
digits_below acc (c ∷ l) d =
    let h = digits_below (acc * 10 + (c - 48)) l d.1 in
    let m : (acc * 10 + (c - 48) + 1) * 10 ^ length l ≤ (acc + 1) * 10 * 10 ^ length l = mul-le-mul_right (10 ^ length l) (omega (arith, d.0)) in
    let e : (acc + 1) * 10 * 10 ^ length l ≡ (acc + 1) * 10 ^ suc (length l) = mul_assoc (acc + 1) 10 (10 ^ length l) ∙ ap (λ (x : ℕ). (acc + 1) * x) (sym (pow-succ' 10 (length l))) in
    omega arith

run_digits : (l : Bytes) → Digits (take (run is_digit l) l)
unfolding run is_digit
run_digits [] = tt
run_digits (c ∷ l) = step (leb 48 c) (leb c 57) refl (run_digits l)
  where
    step : (x y : Bool) → leb c 57 ≡ y → Digits (take (run is_digit l) l) → Digits (take (pick (x && y) (suc (run is_digit l)) 0) (c ∷ l))
    step true true e h = (leb-true c 57 e, h)
    step true false e h = tt
    step false y e h = tt

slice_length : (s : Bytes) (k e : ℕ) → length (slice s k e) ≤ e - k
slice_length s k e = omega (arith, length-take (e - k) (drop k s))

-- the whole part of a number has digits only
whole_digits : (s : Bytes) (d w : ℕ) → w ≡ whole_end s d → Digits (slice s d w)
unfolding whole_end is_digit
whole_digits s d w h = go (eqb (byte_at s d) 48) refl (is_digit (byte_at s d)) refl h
  where
    first : (e : ℕ) → d < e → e ≤ length s → byte_at s d ≤ 57 → Digits (slice s (d + 1) e) → Digits (slice s d e)
    first e lt le b r = rw (slice_more s d e lt le) (b, r)

    go : (a : Bool) → eqb (byte_at s d) 48 ≡ a → (b : Bool) → is_digit (byte_at s d) ≡ b → w ≡ pick a (d + 1) (pick b (digits_end s (d + 1)) 0) → Digits (slice s d w)
    go true e b f q =
        let z = eqb-true (byte_at s d) 48 e in
        let l = in_text s d (λ y. omega arith) in
        rw q (first (d + 1) (omega arith) (omega arith) (omega arith) (rw (slice_none s (d + 1) (d + 1) (omega arith)) tt))
    go false e true f q =
        let l = test_in is_digit s d refl f in
        let m = and_right (leb 48 (byte_at s d)) (leb (byte_at s d) 57) f in
        let y : digits_end s (d + 1) - (d + 1) ≡ run is_digit (drop (d + 1) s) = omega arith in
        rw q (first (digits_end s (d + 1)) (omega arith) (run_within is_digit s (d + 1) (omega arith)) (leb-true (byte_at s d) 57 m) (rw y (run_digits (drop (d + 1) s))))
    go false e false f q = rw q (rw (slice_none s d 0 (omega arith)) tt)

pub short_fits : (s : Bytes) (d w : ℕ) → w ≡ whole_end s d → w ≤ d + 18 → decimal_value 0 (slice s d w) ≤ 18446744073709551615
short_fits s d w h le =
    let b = digits_below 0 (slice s d w) (whole_digits s d w h) in
    let p : 10 ^ length (slice s d w) ≤ 10 ^ 18 = pow-le-pow_right {n = 10} (omega arith) {i = length (slice s d w)} {j = 18} (omega (arith, slice_length s d w)) in
    omega (arith, one-mul (10 ^ length (slice s d w)))
