-- What opens a value, and where items stand: within the text, and further on.
use mathlib.Core.Bool.{Bool, true, false, ◌||◌}
use mathlib.Core.List.{[], ◌∷◌}
use mathlib.Core.Path.{◌≡◌, refl, sym}
use Prim.Native.Nat.{ℕ, suc, ◌+◌, ◌≤◌, ◌<◌}
use native.Mathlib.Omega.{arith}
use lib.Dec.{eqb}
use lib.ListN.{length}
use borrow.Author.Tests.{eqb-true, eqb-false}
use Rattle.rules.specs.Bytes.{Bytes, pick, byte_at, ascii}
use Rattle.rules.specs.Order.{differ}
use Rattle.rules.specs.Scan.{is_digit, spaces_end, string_end, scalar_end, outside}
use Rattle.rules.specs.Tree.{colon_end, name_end, item_place, item_name, is_open}
use Rattle.rules.specs.Plan.{refused_at}
use Rattle.scan.proofs.Bounds.{by_cases, test_in, eq_in, Goes, nothing, goes_to, goes_from, spaces_go, word_goes, number_goes}
use Rattle.strings.proofs.Lengths.{string_goes}

-- any value but an array and an object
pub scalar_goes : (s : Bytes) (i : ℕ) → i ≤ length s → Goes s (i + 1) (scalar_end s i)
unfolding scalar_end
scalar_goes s i le =
    by_cases (Goes s (i + 1)) (eqb (byte_at s i) 34) _ _ (λ _. goes_from s (i + 1) (i + 1 + 1) _ (omega arith) (string_goes s (suc (length s)) (i + 1)))
    (λ _. by_cases (Goes s (i + 1)) (eqb (byte_at s i) 116) _ _ (λ _. word_goes (ascii "true") s i (refl, (refl, (refl, (refl, tt)))) (omega arith) le)
    (λ _. by_cases (Goes s (i + 1)) (eqb (byte_at s i) 102) _ _ (λ _. word_goes (ascii "false") s i (refl, (refl, (refl, (refl, (refl, tt))))) (omega arith) le)
    (λ _. by_cases (Goes s (i + 1)) (eqb (byte_at s i) 110) _ _ (λ _. word_goes (ascii "null") s i (refl, (refl, (refl, (refl, tt)))) (omega arith) le)
    (λ _. number_goes s i))))

-- at most one number is refused at a place
pub refused_most : (s : Bytes) (i : ℕ) → refused_at s i ≤ 1
unfolding refused_at
refused_most s i = step (eqb (byte_at s i) 45 || is_digit (byte_at s i)) (outside s i)
  where
    step : (t u : Bool) → pick t (pick u 1 0) 0 ≤ 1
    step true true = omega arith
    step true false = omega arith
    step false u = omega arith

-- the two bytes that open
open_cases : (P : ℕ → Type 0) (c : ℕ) → is_open c ≡ true → P 91 → P 123 → P c
unfolding is_open
open_cases P c h a b = step (eqb c 91) refl (eqb c 123) refl h
  where
    step : (t : Bool) → eqb c 91 ≡ t → (u : Bool) → eqb c 123 ≡ u → (t || (u || false)) ≡ true → P c
    step true e u f k = rw (eqb-true c 91 e) a
    step false e true f k = rw (eqb-true c 123 f) b
    step false e false f k = differ (sym k)

no_number : (c : ℕ) → is_open c ≡ true → (eqb c 45 || is_digit c) ≡ false
unfolding is_digit
no_number c h = open_cases (λ x. (eqb x 45 || is_digit x) ≡ false) c h refl refl

-- none is refused where an array or an object opens
pub open_refused : (s : Bytes) (i : ℕ) → is_open (byte_at s i) ≡ true → refused_at s i ≡ 0
unfolding refused_at
open_refused s i h = rw (no_number (byte_at s i) h)

pub open_low : (c : ℕ) → is_open c ≡ true → c ≤ 123
open_low c h = open_cases (λ x. x ≤ 123) c h (omega arith) (omega arith)

pub open_in : (s : Bytes) (i : ℕ) → is_open (byte_at s i) ≡ true → i < length s
unfolding is_open
open_in s i h = test_in is_open s i refl h

-- Items

colon_goes : (s : Bytes) (i : ℕ) → Goes s i (colon_end s i)
unfolding colon_end
colon_goes s i =
    by_cases (Goes s i) (eqb (byte_at s i) 58) _ _
    (λ h. goes_from s i (i + 1) _ (omega arith) (spaces_go s (i + 1) (let l = eq_in s i 58 refl h in omega arith)))
    (λ _. nothing s i)

name_goes : (s : Bytes) (i : ℕ) → Goes s (i + 1) (name_end s i)
unfolding name_end
name_goes s i =
    by_cases (Goes s (i + 1)) (eqb (byte_at s i) 34) _ _
    (λ _. by_cases (Goes s (i + 1)) (eqb (string_end s (i + 1)) 0) _ _ (λ _. nothing s (i + 1))
    (λ n.
    let l = (string_goes s (suc (length s)) (i + 1)).on (eqb-false (string_end s (i + 1)) 0 n) in
    goes_from s (i + 1) (spaces_end s (string_end s (i + 1))) _ (omega arith) (colon_goes s (spaces_end s (string_end s (i + 1))))))
    (λ _. nothing s (i + 1))

pub place_goes : (s : Bytes) (close i : ℕ) → i ≤ length s → Goes s i (item_place s close i)
unfolding item_place
place_goes s close i le = by_cases (Goes s i) (eqb close 125) _ _ (λ _. goes_from s i (i + 1) _ (omega arith) (name_goes s i)) (λ _. goes_to s i i (omega arith) le)

-- a name starts before its value, which stands within the text
pub name_before : (s : Bytes) (close i : ℕ) → 0 < length s → (item_place s close i ≡ 0 → ⊥) → item_name close i < length s
unfolding item_place item_name
name_before s close i ls n = step (eqb close 125) n
  where
    step : (t : Bool) → (pick t (name_end s i) i ≡ 0 → ⊥) → pick t i 0 < length s
    step true k =
        let g = name_goes s i in
        let o = g.on k in
        omega (arith, g.within)
    step false k = ls
