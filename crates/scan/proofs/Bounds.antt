-- What was read stands within the text, and goes on.
use mathlib.Core.Bool.{Bool, true, false, ◌&&◌}
use mathlib.Core.List.{[], ◌∷◌}
use mathlib.Core.Path.{◌≡◌, refl, sym, ap, ◌∙◌}
use Prim.Native.Nat.{ℕ, zero, suc, ◌+◌, ◌≤◌, ◌<◌}
use native.Mathlib.Omega.{arith}
use lib.Dec.{eqb}
use lib.ListN.{length}
use borrow.Author.Tests.{eqb-false}
use Rattle.rules.specs.Bytes.{Bytes, pick, byte_at, is_in}
use Rattle.rules.specs.Order.{differ}
use Rattle.rules.specs.Scan.{is_space, spaces_end, is_word, word_end, is_digit, digits_end, some_digits_end, minus_end, whole_end, fraction_end, sign_end, exponent_end}
use Rattle.rules.specs.Scan.{onward, number_end}
use Rattle.scan.proofs.Runs.{run_within}

-- a claim of a choice, by what its test says
pub by_cases : {A : Type 0} (P : A → Type 0) (t : Bool) (a b : A) → (t ≡ true → P a) → (t ≡ false → P b) → P (pick t a b)
by_cases P true a b f g = f refl
by_cases P false a b f g = g refl

-- a byte other than 0 stands within the text
pub in_text : (s : Bytes) (i : ℕ) → (byte_at s i ≡ 0 → ⊥) → i < length s
in_text [] i h = absurd (h refl)
in_text (c ∷ s) zero h = omega arith
in_text (c ∷ s) (suc i) h = let l = in_text s i h in omega arith

-- and so does one that passes a test which 0 does not
pub test_in : (p : ℕ → Bool) (s : Bytes) (i : ℕ) → p 0 ≡ false → p (byte_at s i) ≡ true → i < length s
test_in p s i z h = in_text s i (λ e. differ (sym h ∙ ap p e ∙ z))

pub eq_in : (s : Bytes) (i k : ℕ) → eqb 0 k ≡ false → eqb (byte_at s i) k ≡ true → i < length s
eq_in s i k z h = test_in (λ c. eqb c k) s i z h

digit_in : (s : Bytes) (i : ℕ) → is_digit (byte_at s i) ≡ true → i < length s
unfolding is_digit
digit_in s i h = test_in is_digit s i refl h

-- from i on up to e, within the text; or nothing
pub record Goes (s : Bytes) (i e : ℕ) : Type 0 where
  pub within : e ≤ length s
  pub on : (e ≡ 0 → ⊥) → i ≤ e

pub nothing : (s : Bytes) (i : ℕ) → Goes s i 0
nothing s i = record { within = omega arith; on = λ h. absurd (h refl) }

pub goes_to : (s : Bytes) (i e : ℕ) → i ≤ e → e ≤ length s → Goes s i e
goes_to s i e h k = record { within = k; on = λ _. h }

pub goes_from : (s : Bytes) (i j e : ℕ) → i ≤ j → Goes s j e → Goes s i e
goes_from s i j e le g = record { within = g.within; on = λ h. let l = g.on h in omega arith }

pub spaces_go : (s : Bytes) (i : ℕ) → i ≤ length s → Goes s i (spaces_end s i)
spaces_go s i le = goes_to s i (spaces_end s i) (omega arith) (run_within is_space s i le)

-- Words

-- a word without zeros
abbrev pub Solid : Bytes → Type 0
Solid [] = Unit {0}
Solid (c ∷ w) = (eqb 0 c ≡ false) × Solid w

word_in : (w s : Bytes) (i : ℕ) → Solid w → i ≤ length s → is_word w s i ≡ true → i + length w ≤ length s
word_in [] s i d le h = omega arith
word_in (c ∷ w) s i d le h = step (word_in w s (i + 1) d.1) (eqb (byte_at s i) c) refl h
  where
    step : (i + 1 ≤ length s → is_word w s (i + 1) ≡ true → i + 1 + length w ≤ length s) → (t : Bool) → eqb (byte_at s i) c ≡ t
        → (t && is_word w s (i + 1)) ≡ true → i + suc (length w) ≤ length s
    step f true e k =
        let l = eq_in s i c d.0 e in
        let m = f (omega arith) k in
        omega arith
    step f false e k = differ (sym k)

pub word_goes : (w s : Bytes) (i : ℕ) → Solid w → 0 < length w → i ≤ length s → Goes s (i + 1) (word_end w s i)
unfolding word_end
word_goes w s i d p le = by_cases (Goes s (i + 1)) _ _ _ (λ h. goes_to s (i + 1) (i + length w) (omega arith) (word_in w s i d le h)) (λ _. nothing s (i + 1))

-- Numbers

digits_go : (s : Bytes) (i : ℕ) → i ≤ length s → Goes s i (digits_end s i)
digits_go s i le = goes_to s i (digits_end s i) (omega arith) (run_within is_digit s i le)

some_digits_go : (s : Bytes) (i : ℕ) → Goes s (i + 1) (some_digits_end s i)
some_digits_go s i = by_cases (Goes s (i + 1)) _ _ _ (λ h. digits_go s (i + 1) (let l = digit_in s i h in omega arith)) (λ _. nothing s (i + 1))

pub whole_goes : (s : Bytes) (i : ℕ) → Goes s (i + 1) (whole_end s i)
unfolding whole_end
whole_goes s i =
    by_cases (Goes s (i + 1)) _ _ _ (λ h. goes_to s (i + 1) (i + 1) (omega arith) (let l = eq_in s i 48 refl h in omega arith))
    (λ _. some_digits_go s i)

pub fraction_goes : (s : Bytes) (i : ℕ) → i ≤ length s → Goes s i (fraction_end s i)
unfolding fraction_end
fraction_goes s i le =
    by_cases (Goes s i) (eqb (byte_at s i) 46) _ _ (λ _. goes_from s i (i + 1 + 1) _ (omega arith) (some_digits_go s (i + 1)))
    (λ _. goes_to s i i (omega arith) le)

-- at i or one further
pub record Near (i e : ℕ) : Type 0 where
  pub low : i ≤ e
  pub high : e ≤ i + 1

near_pick : (t : Bool) (i : ℕ) → Near i (pick t (i + 1) i)
near_pick true i = omega arith
near_pick false i = omega arith

pub minus_near : (s : Bytes) (i : ℕ) → Near i (minus_end s i)
minus_near s i = near_pick (eqb (byte_at s i) 45) i

pub sign_near : (s : Bytes) (i : ℕ) → Near i (sign_end s i)
sign_near s i = near_pick (is_in (43 ∷ 45 ∷ []) (byte_at s i)) i

exponent_goes : (s : Bytes) (i : ℕ) → i ≤ length s → Goes s i (exponent_end s i)
unfolding exponent_end
exponent_goes s i le =
    by_cases (Goes s i) (is_in (101 ∷ 69 ∷ []) (byte_at s i)) _ _
    (λ _. goes_from s i (sign_end s (i + 1) + 1) _ (omega (arith, sign_near s (i + 1))) (some_digits_go s (sign_end s (i + 1))))
    (λ _. goes_to s i i (omega arith) le)

onward_goes : (s : Bytes) (i w : ℕ) (f : ℕ → ℕ) → Goes s i w → (w ≤ length s → Goes s w (f w)) → Goes s i (onward f w)
onward_goes s i w f g h =
    by_cases (Goes s i) (eqb w 0) _ _ (λ _. nothing s i) (λ n. goes_from s i w (f w) (g.on (eqb-false w 0 n)) (h g.within))

pub number_goes : (s : Bytes) (i : ℕ) → Goes s (i + 1) (number_end s i)
unfolding number_end
number_goes s i =
    onward_goes s (i + 1) _ (exponent_end s)
    (onward_goes s (i + 1) _ (fraction_end s)
    (goes_from s (i + 1) (minus_end s i + 1) _ (omega (arith, minus_near s i)) (whole_goes s (minus_end s i)))
    (λ le. fraction_goes s _ le))
    (λ le. exponent_goes s _ le)
