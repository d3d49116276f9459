-- A number of the plan prints the bytes that stand there: it has no zero in front, and no sign but a minus.
use Prim.Native.Nat.{ℕ, zero, suc, ◌+◌, ◌-◌, ◌*◌, ◌/◌, ◌%◌, ◌^◌, ◌≤◌, ◌<◌}
use native.Mathlib.Nat.{mul-one, one-mul, mul_assoc, mul-le-mul_right, pow-succ', pow-le-pow_right}
use native.Mathlib.Numerals.{add-one}
use native.Mathlib.Omega.{arith}
use mathlib.Core.Bool.{Bool, true, false, ◌&&◌}
use mathlib.Core.List.{[], ◌∷◌, ◌++◌, append_assoc, append-nil}
use mathlib.Core.Path.{◌≡◌, refl, sym, ap, ap₂, ◌∙◌, subst}
use lib.Dec.{eqb, leb, ltb}
use lib.ListN.{length, take, drop, length-append}
use lib.Seq.{drop-cons}
use borrow.Author.Tests.{eqb-true, eqb-false, leb-true, lt-ltb, le-ltb, ltb-true, ltb-false}
use Rattle.rules.specs.Bytes.{Bytes, pick, byte_at, run, digits, digits_onto}
use Rattle.rules.specs.Order.{and_left, and_right}
use Rattle.rules.specs.Scan.{is_digit, digits_end, whole_end, decimal_value, slice}
use Rattle.scan.proofs.Bounds.{in_text, test_in}

-- Digits

abbrev AllDigits : Bytes → Type 0
AllDigits [] = Unit {0}
AllDigits (c ∷ l) = (48 ≤ c) × (c ≤ 57) × AllDigits l

-- the digits of a are u
abbrev Reads : ℕ → Bytes → Type 0
Reads a u = (f : ℕ) (acc : Bytes) → length u ≤ f → digits_onto f a acc ≡ u ++ acc

reads_one : (c : ℕ) → 48 ≤ c → c ≤ 57 → Reads (c - 48) (c ∷ [])
reads_one c low high zero acc le = absurd (omega arith)
reads_one c low high (suc f) acc le =
    let e : 48 + (c - 48) ≡ c = omega arith in
    rw (lt-ltb (c - 48) 10 (omega arith)) (ap (λ (x : ℕ). x ∷ acc) e)

-- one more
reads_more : (a c : ℕ) (u : Bytes) → 1 ≤ a → 48 ≤ c → c ≤ 57 → Reads a u → Reads (a * 10 + (c - 48)) (u ++ (c ∷ []))
reads_more a c u some low high r zero acc le = absurd (omega (arith, length-append u (c ∷ [])))
reads_more a c u some low high r (suc f) acc le =
    let n = a * 10 + (c - 48) in
    let q : n / 10 ≡ a = omega arith in
    let d : 48 + n % 10 ≡ c = omega arith in
    rw (le-ltb n 10 (omega arith), q, d) (r f (c ∷ acc) (omega (arith, length-append u (c ∷ []))) ∙ sym (append_assoc u (c ∷ []) acc))

reads_all : (l : Bytes) (a : ℕ) (u : Bytes) → 1 ≤ a → AllDigits l → Reads a u → Reads (decimal_value a l) (u ++ l)
unfolding decimal_value
reads_all [] a u some d r = rw (append-nil u) r
reads_all (c ∷ l) a u some d r =
    subst (Reads (decimal_value (a * 10 + (c - 48)) l)) (append_assoc u (c ∷ []) l)
    (reads_all l (a * 10 + (c - 48)) (u ++ (c ∷ [])) (omega arith) d.2 (reads_more a c u some d.0 d.1 r))

-- so many digits are worth at least that power of ten
value_least : (a : ℕ) (l : Bytes) → a * 10 ^ length l ≤ decimal_value a l
unfolding decimal_value
value_least a [] = omega (arith, mul-one a)
value_least a (c ∷ l) =
    let h = value_least (a * 10 + (c - 48)) l in
    let m : a * 10 * 10 ^ length l ≤ (a * 10 + (c - 48)) * 10 ^ length l = mul-le-mul_right (10 ^ length l) (omega arith) in
    let e : a * 10 * 10 ^ length l ≡ a * 10 ^ suc (length l) = mul_assoc a 10 (10 ^ length l) ∙ ap (λ (x : ℕ). a * x) (sym (pow-succ' 10 (length l))) in
    omega arith

few : (a : ℕ) (l : Bytes) → 1 ≤ a → decimal_value a l < 2 ^ 64 → length l < 20
few a l some h = go (ltb (length l) 20) refl
  where
    go : (t : Bool) → ltb (length l) 20 ≡ t → length l < 20
    go true e = ltb-true (length l) 20 e
    go false e =
        let p : 10 ^ 20 ≤ 10 ^ length l = pow-le-pow_right {n = 10} (omega arith) {i = 20} {j = length l} (ltb-false (length l) 20 e) in
        let m : 1 * 10 ^ length l ≤ a * 10 ^ length l = mul-le-mul_right (10 ^ length l) some in
        absurd (omega (arith, one-mul (10 ^ length l), value_least a l))

-- without a zero in front
led : (c : ℕ) (l : Bytes) → 49 ≤ c → c ≤ 57 → AllDigits l → decimal_value 0 (c ∷ l) < 2 ^ 64 → digits (decimal_value 0 (c ∷ l)) ≡ c ∷ l
unfolding decimal_value
led c l low high d h =
    let e : 0 * 10 + (c - 48) ≡ c - 48 = omega arith in
    let v : decimal_value 0 (c ∷ l) ≡ decimal_value (c - 48) l = ap (λ (x : ℕ). decimal_value x l) e in
    let n = few (c - 48) l (omega arith) (omega arith) in
    ap digits v ∙ reads_all l (c - 48) (c ∷ []) (omega arith) d (reads_one c (omega arith) high) 20 [] (omega arith) ∙ append-nil (c ∷ l)

-- The whole part of a number

run_digits : (l : Bytes) → AllDigits (take (run is_digit l) l)
unfolding run is_digit
run_digits [] = tt
run_digits (c ∷ l) = step (leb 48 c) refl (leb c 57) refl (run_digits l)
  where
    step : (x : Bool) → leb 48 c ≡ x → (y : Bool) → leb c 57 ≡ y → AllDigits (take (run is_digit l) l) → AllDigits (take (pick (x && y) (suc (run is_digit l)) 0) (c ∷ l))
    step true e true f h = (leb-true 48 c e, leb-true c 57 f, h)
    step true e false f h = tt
    step false e y f h = tt

-- it begins with a digit, and the digits of what it is worth are its own
pub record Whole (s : Bytes) (d w : ℕ) : Type 0 where
  pub digit : is_digit (byte_at s d) ≡ true
  pub same : decimal_value 0 (slice s d w) < 2 ^ 64 → digits (decimal_value 0 (slice s d w)) ≡ slice s d w

pub whole : (s : Bytes) (d w : ℕ) → w ≡ whole_end s d → (w ≡ 0 → ⊥) → Whole s d w
unfolding whole_end is_digit decimal_value
whole s d w h some = go (eqb (byte_at s d) 48) refl (is_digit (byte_at s d)) refl h
  where
    first : (n : ℕ) → d < length s → take (suc n) (drop d s) ≡ byte_at s d ∷ take n (drop (d + 1) s)
    first n lt = rw (drop-cons s d 0 lt, add-one d)

    go : (a : Bool) → eqb (byte_at s d) 48 ≡ a → (b : Bool) → is_digit (byte_at s d) ≡ b → w ≡ pick a (d + 1) (pick b (digits_end s (d + 1)) 0) → Whole s d w
    go true e b f q =
        let z = eqb-true (byte_at s d) 48 e in
        let l = in_text s d (λ y. omega arith) in
        let n : w - d ≡ suc 0 = omega arith in
        let u : slice s d w ≡ 48 ∷ [] = rw n (first 0 l ∙ ap₂ {A = ℕ} {B = Bytes} {C = Bytes} (λ x y. x ∷ y) z refl) in
        record { digit = ap is_digit z; same = λ _. ap (λ (x : Bytes). digits (decimal_value 0 x)) u ∙ sym u }
    go false e true f q =
        let l = test_in is_digit s d refl f in
        let n : w - d ≡ suc (run is_digit (drop (d + 1) s)) = omega arith in
        let low = leb-true 48 (byte_at s d) (and_left (leb 48 (byte_at s d)) (leb (byte_at s d) 57) f) in
        let ne = eqb-false (byte_at s d) 48 e in
        let high = leb-true (byte_at s d) 57 (and_right (leb 48 (byte_at s d)) (leb (byte_at s d) 57) f) in
        let r = take (run is_digit (drop (d + 1) s)) (drop (d + 1) s) in
        let u : slice s d w ≡ byte_at s d ∷ r = rw n (first (run is_digit (drop (d + 1) s)) l) in
        record {
          digit = f;
          same = λ k. ap (λ (x : Bytes). digits (decimal_value 0 x)) u ∙ led (byte_at s d) r (omega arith) high (run_digits (drop (d + 1) s)) (subst (λ (x : Bytes). decimal_value 0 x < 2 ^ 64) u k) ∙ sym u;
        }
    go false e false f q = absurd (some q)
