-- Two byte strings compared byte by byte: what a loop that has passed i equal bytes may say.
use Rattle.std.specs.Prelude.{ℕ, suc, min, ◌+◌, ◌≤◌, ◌<◌, Bool, true, false, ◌&&◌, ◌||◌, [], ◌∷◌, ◌≡◌, refl, eqb, ltb, length, get_or, drop}
use Rattle.std.proofs.Common.{sym, ap, ◌∙◌, arith, add-one, drop_of_length-le, drop-cons, eq-eqb, ne_eqb, le-ltb}
use borrow.Author.Tests.{ltb-true, ltb-false}
use Rattle.rules.specs.Bytes.{Bytes, same, before}

pub same_lengths : (s t : Bytes) → (length s ≡ length t → ⊥) → false ≡ same s t
same_lengths [] [] h = absurd (h refl)
same_lengths [] (y ∷ t) h = refl
same_lengths (x ∷ s) [] h = refl
same_lengths (x ∷ s) (y ∷ t) h = and_false (eqb x y) (same_lengths s t (λ e. h (ap suc e)))
  where
    and_false : (c : Bool) {d : Bool} → false ≡ d → false ≡ (c && d)
    and_false true e = e
    and_false false e = refl

before_nil : (s : Bytes) → before s [] ≡ false
before_nil [] = refl
before_nil (x ∷ s) = refl

-- x is the byte i
pub record At (s : Bytes) (i x : ℕ) : Type 0 where
  pub within : i < length s
  pub is : x ≡ get_or s i 0

-- from the byte i on
abbrev pub SameFrom : Bytes → Bytes → ℕ → Bool
SameFrom s t i = same (drop i s) (drop i t)

abbrev pub BeforeFrom : Bytes → Bytes → ℕ → Bool
BeforeFrom s t i = before (drop i s) (drop i t)

from_here : {s : Bytes} {i x : ℕ} → At s i x → drop i s ≡ x ∷ drop (i + 1) s
from_here {s} {i} {x} a = drop-cons s i 0 a.within ∙ rw (← a.is, add-one)

module _ (s t : Bytes) (i : ℕ) where
  pub same_end : length s ≤ i → length t ≤ i → true ≡ SameFrom s t i
  same_end h k = rw (drop_of_length-le s h, drop_of_length-le t k)

  pub before_end : length t ≤ i → false ≡ BeforeFrom s t i
  before_end k = rw (drop_of_length-le t k) (sym (before_nil (drop i s)))

pub before_shorter : (s : Bytes) {t : Bytes} {i y : ℕ} → length s ≤ i → At t i y → true ≡ BeforeFrom s t i
before_shorter s h b = rw (drop_of_length-le s h, from_here b)

-- what is left where one of them has ended
pub before_rest : (s t : Bytes) {i n m : ℕ} → length s ≡ n → length t ≡ m → i ≡ min n m → ltb n m ≡ BeforeFrom s t i
before_rest s t {i} {n} {m} e f h = by_test (ltb n m) refl
  where
    by_test : (c : Bool) → ltb n m ≡ c → c ≡ BeforeFrom s t i
    by_test true g = let l : n < m = ltb-true n m g in before_shorter s {t = t} {i = i} {y = get_or t i 0} (omega arith) (record { within = omega arith; is = refl })
    by_test false g = before_end s t i (omega (arith, ltb-false n m g))

module _ {s t : Bytes} {i x y : ℕ} (a : At s i x) (b : At t i y) where
  pub same_differ : (x ≡ y → ⊥) → false ≡ SameFrom s t i
  same_differ g = rw (from_here a, from_here b, ne_eqb x y g)

  pub same_more : x ≡ y → SameFrom s t (i + 1) ≡ SameFrom s t i
  same_more g = rw (from_here a, from_here b, eq-eqb x y g)

  pub before_differ : (x ≡ y → ⊥) → ltb x y ≡ BeforeFrom s t i
  before_differ g = rw (from_here a, from_here b, ne_eqb x y g) (or_false (ltb x y))
    where
      or_false : (c : Bool) → c ≡ (c || false)
      or_false true = refl
      or_false false = refl

  pub before_more : x ≡ y → BeforeFrom s t (i + 1) ≡ BeforeFrom s t i
  before_more g = rw (from_here a, from_here b, le-ltb x y (omega arith), eq-eqb x y g)
