-- The digits of a number: how many, and which one at each place.
use Prim.Native.Nat.{ℕ, zero, suc, ◌+◌, ◌-◌, ◌/◌, ◌%◌, ◌^◌, ◌≤◌, ◌<◌}
use native.Mathlib.Nat.{pow-suc, pow-succ', one-le-pow, mod-eq_of_lt, div-div-eq-div-mul, div-one, div-eq_of_lt, pow-le-pow_right}
use native.Mathlib.Omega.{arith}
use mathlib.Core.Bool.{Bool, true, false}
use mathlib.Core.List.{[], ◌∷◌, ◌++◌, append_assoc, append-nil}
use mathlib.Core.Path.{◌≡◌, refl, sym, ap, ◌∙◌}
use mathlib.Core.Logic.{◌⊎◌, inl, inr}
use lib.Dec.{ltb}
use lib.ListN.{length, get_or, length-append, get_or-append}
use lib.Seq.{get_or_at}
use borrow.Author.Tests.{ltb-true, ltb-false, lt-ltb, le-ltb}
use Rattle.rules.specs.Bytes.{Bytes, byte_at, digits, digits_onto}
use Rattle.decimal.specs.Digits.{places}

-- n has more than k digits, or k is 0
abbrev pub AtLeast : ℕ → ℕ → Type 0
AtLeast zero n = Unit {0}
AtLeast (suc k) n = 10 ^ suc k ≤ n

pub at_least : (k n : ℕ) → 10 ^ k ≤ n → AtLeast k n
at_least zero n h = tt
at_least (suc k) n h = h

pub length_places : (k n : ℕ) → length (places k n) ≡ k
length_places zero n = refl
length_places (suc k) n = length-append (places k (n / 10)) ((48 + n % 10) ∷ []) ∙ rw (length_places k (n / 10)) (omega arith)

known : (b : Bool) → (b ≡ true) ⊎ (b ≡ false)
known true = inl refl
known false = inr refl

-- the digit at a place
pub places_at : (k n i : ℕ) → i < k → get_or (places k n) i 0 ≡ 48 + n / 10 ^ (k - 1 - i) % 10
places_at zero n i h = absurd (omega arith)
places_at (suc k) n i h = go (places_at k (n / 10) i) (known (ltb i k))
  where
    go : (i < k → get_or (places k (n / 10)) i 0 ≡ 48 + n / 10 / 10 ^ (k - 1 - i) % 10) → (ltb i k ≡ true) ⊎ (ltb i k ≡ false) → get_or (places k (n / 10) ++ ((48 + n % 10) ∷ [])) i 0 ≡ 48 + n / 10 ^ (suc k - 1 - i) % 10
    go rest (inl t) =
        let l : i < k = ltb-true i k t in
        let e : suc (k - 1 - i) ≡ suc k - 1 - i = omega arith in
        get_or-append (places k (n / 10)) ((48 + n % 10) ∷ []) 0 i (rw (length_places k (n / 10)) l) ∙ rest l
        ∙ rw (div-div-eq-div-mul n 10 (10 ^ (k - 1 - i)), ← pow-succ' 10 (k - 1 - i), e)
    go rest (inr t) =
        let g : k ≤ i = ltb-false i k t in
        let e : suc k - 1 - i ≡ 0 = omega arith in
        let z : k ≡ i = omega arith in
        get_or_at (places k (n / 10)) (48 + n % 10) [] 0 i (length_places k (n / 10) ∙ z) ∙ rw (e, div-one n)

-- the fewest digits are all
pub digits_are : (k f n : ℕ) (acc : Bytes) → k < f → n < 10 ^ suc k → AtLeast k n → digits_onto f n acc ≡ places (suc k) n ++ acc
digits_are k zero n acc h s l = absurd (omega arith)
digits_are zero (suc f) n acc h s l = rw (lt-ltb n 10 s, mod-eq_of_lt s)
digits_are (suc k) (suc f) n acc h s l =
    let p = one-le-pow k 10 (omega arith) in
    let a = pow-suc 10 k in
    let b = pow-suc 10 (suc k) in
    let big : 10 ≤ n = omega arith in
    let tenth : n / 10 < 10 ^ suc k = omega arith in
    let more : 10 ^ k ≤ n / 10 = omega arith in
    rw (le-ltb n 10 big) (digits_are k f (n / 10) ((48 + n % 10) ∷ acc) (omega arith) tenth (at_least k (n / 10) more) ∙ sym (append_assoc (places (suc k) (n / 10)) ((48 + n % 10) ∷ []) acc))

-- how many digits there are: one more than the last power of ten that the number reaches
pub record Counted (k n : ℕ) : Type 0 where
  pub some : 0 < k
  pub few : k ≤ 20
  pub below : n < 10 ^ k
  pub reached : AtLeast (k - 1) n

pub counted_digits : (k n : ℕ) → Counted k n → digits n ≡ places k n
counted_digits zero n c = let p = c.some in absurd (omega arith)
counted_digits (suc k) n c =
    let f = c.few in
    let e : suc k - 1 ≡ k = omega arith in
    digits_are k 20 n [] (omega arith) c.below (rw e at c.reached) ∙ append-nil (places (suc k) n)

pub counted_length : (k n : ℕ) → Counted k n → k ≡ length (digits n)
counted_length k n c = sym (ap length (counted_digits k n c) ∙ length_places k n)

count_from : (f n : ℕ) → f < 20 → n < 10 ^ suc f → (k : ℕ) × Counted k n
count_from zero n h s = (1, record { some = omega arith; few = omega arith; below = s; reached = tt })
count_from (suc f) n h s = go (count_from f n (omega arith)) (known (ltb n (10 ^ suc f)))
  where
    go : (n < 10 ^ suc f → (k : ℕ) × Counted k n) → (ltb n (10 ^ suc f) ≡ true) ⊎ (ltb n (10 ^ suc f) ≡ false) → (k : ℕ) × Counted k n
    go less (inl t) = less (ltb-true n (10 ^ suc f) t)
    go less (inr t) =
        let e : suc (suc f) - 1 ≡ suc f = omega arith in
        (suc (suc f), record { some = omega arith; few = omega arith; below = s; reached = rw e (ltb-false n (10 ^ suc f) t) })

pub counted : (n : ℕ) → n < 2 ^ 64 → Counted (length (digits n)) n
counted n h =
    let c = count_from 19 n (omega arith) (omega arith) in
    rw (← counted_length c.0 n c.1) c.1

pub digits_places : (n : ℕ) → n < 2 ^ 64 → digits n ≡ places (length (digits n)) n
digits_places n h = counted_digits (length (digits n)) n (counted n h)

-- the i-th digit
pub digits_at : (n i : ℕ) → n < 2 ^ 64 → i < length (digits n) → byte_at (digits n) i ≡ 48 + n / 10 ^ (length (digits n) - 1 - i) % 10
digits_at n i h l = ap (λ s. byte_at s i) (digits_places n h) ∙ places_at (length (digits n)) n i l

-- a u64 has no digit there
pub no_place : (n k : ℕ) → n < 2 ^ 64 → 20 ≤ k → 48 ≡ 48 + n / 10 ^ k % 10
no_place n k h l =
    let large : 10 ^ 20 ≤ 10 ^ k = pow-le-pow_right (omega arith) l in
    let small : n < 10 ^ k = omega arith in
    rw (div-eq_of_lt small)

-- a digit is from `0` to `9`: none is escaped, none ends a line
pub digits_plain : (n i : ℕ) → n < 2 ^ 64 → i < length (digits n) → (48 ≤ byte_at (digits n) i) × (byte_at (digits n) i ≤ 57)
digits_plain n i h l =
    let e = digits_at n i h l in
    (omega arith, omega arith)
