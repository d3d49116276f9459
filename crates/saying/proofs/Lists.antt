-- The byte k of a short list, for `search`: by the tests on k, and by a choice of lists whose test is known.
use mathlib.Core.Bool.{Bool, true, false}
use mathlib.Core.List.{List, [], ◌∷◌}
use mathlib.Core.Path.{◌≡◌, refl, sym, ◌∙◌}
use Prim.Native.Nat.{ℕ, zero, suc}
use native.Mathlib.Omega.{arith}
use lib.ListN.{get_or, length, get_or-eq_default}
use Rattle.rules.specs.Bytes.{pick}
use Rattle.rules.specs.Picks.{picks}

pub list_yes : (t : Bool) (a b : List ℕ) (k x : ℕ) → t ≡ true → x ≡ get_or a k 0 → x ≡ get_or (pick t a b) k 0
list_yes t a b k x h e = rw h e

pub list_no : (t : Bool) (a b : List ℕ) (k x : ℕ) → t ≡ false → x ≡ get_or b k 0 → x ≡ get_or (pick t a b) k 0
list_no t a b k x h e = rw h e

pub length_yes : (t : Bool) (a b : List ℕ) (x : ℕ) → t ≡ true → x ≡ length a → x ≡ length (pick t a b)
length_yes t a b x h e = rw h e

pub length_no : (t : Bool) (a b : List ℕ) (x : ℕ) → t ≡ false → x ≡ length b → x ≡ length (pick t a b)
length_no t a b x h e = rw h e

-- zeros at the end make no difference
pub pad_1 : (a k x : ℕ) → x ≡ get_or (a ∷ 0 ∷ 0 ∷ 0 ∷ []) k 0 → x ≡ get_or (a ∷ []) k 0
pad_1 a zero x h = h
pad_1 a (suc zero) x h = h
pad_1 a (suc (suc zero)) x h = h
pad_1 a (suc (suc (suc zero))) x h = h
pad_1 a (suc (suc (suc (suc k)))) x h = h

pub pad_2 : (a b k x : ℕ) → x ≡ get_or (a ∷ b ∷ 0 ∷ 0 ∷ []) k 0 → x ≡ get_or (a ∷ b ∷ []) k 0
pad_2 a b zero x h = h
pad_2 a b (suc zero) x h = h
pad_2 a b (suc (suc zero)) x h = h
pad_2 a b (suc (suc (suc zero))) x h = h
pad_2 a b (suc (suc (suc (suc k)))) x h = h

pub pad_3 : (a b c k x : ℕ) → x ≡ get_or (a ∷ b ∷ c ∷ 0 ∷ []) k 0 → x ≡ get_or (a ∷ b ∷ c ∷ []) k 0
pad_3 a b c zero x h = h
pad_3 a b c (suc zero) x h = h
pad_3 a b c (suc (suc zero)) x h = h
pad_3 a b c (suc (suc (suc zero))) x h = h
pad_3 a b c (suc (suc (suc (suc k)))) x h = h

pub ruleset lists = (list_yes, list_no, length_yes, length_no, pad_1, pad_2, pad_3, picks)

-- one of four
module _ (a b c d k : ℕ) where
  pub at_0 : k ≡ 0 → a ≡ get_or (a ∷ b ∷ c ∷ d ∷ []) k 0
  at_0 h = rw h

  pub at_1 : k ≡ 1 → b ≡ get_or (a ∷ b ∷ c ∷ d ∷ []) k 0
  at_1 h = rw h

  pub at_2 : k ≡ 2 → c ≡ get_or (a ∷ b ∷ c ∷ d ∷ []) k 0
  at_2 h = rw h

  pub at_3 : k ≡ 3 → d ≡ get_or (a ∷ b ∷ c ∷ d ∷ []) k 0
  at_3 h = rw h

  pub past : (k ≡ 0 → ⊥) → (k ≡ 1 → ⊥) → (k ≡ 2 → ⊥) → (k ≡ 3 → ⊥) → 0 ≡ get_or (a ∷ b ∷ c ∷ d ∷ []) k 0
  past e f g h = sym (get_or-eq_default (a ∷ b ∷ c ∷ d ∷ []) 0 {n = k} (omega arith))
