-- One entry stored, and what is then found.
use Rattle.std.specs.Prelude.{ℕ, ◌+◌, ◌*◌, ◌/◌, ◌%◌, ◌≤◌, ◌<◌, List, ◌≡◌, refl, length, set, get_or}
use Rattle.std.proofs.Common.{sym, ap, ◌∙◌, arith, length-set, get_or-set_same, get_or-set_other}
use Rattle.meaning.specs.Entries.{low, high, place}
use Rattle.meaning.specs.Kept.{Agree}

abbrev pub stored : List ℕ → ℕ → ℕ → ℕ → ℕ → List ℕ
stored ent e l h p = set (set ent (2 * e) (l + 4294967296 * h)) (2 * e + 1) p

module _ (ent : List ℕ) (e l h p : ℕ) where
  pub stored_length : length (stored ent e l h p) ≡ length ent
  stored_length = rw (length-set, length-set)

  -- no other number is touched
  pub stored_other : (i : ℕ) → (i ≡ 2 * e → ⊥) → (i ≡ 2 * e + 1 → ⊥) → get_or (stored ent e l h p) i 0 ≡ get_or ent i 0
  stored_other i x y = rw (get_or-set_other (set ent (2 * e) (l + 4294967296 * h)) (2 * e + 1) i p 0 (omega arith), get_or-set_other ent (2 * e) i (l + 4294967296 * h) 0 (omega arith))

  -- the entries before it
  pub stored_agrees : Agree ent (stored ent e l h p) e
  stored_agrees = record { same = λ i lt. sym (stored_other i (λ z. omega arith) (λ z. omega arith)) }

  module _ (lt : 2 * e + 1 < length ent) where
    first : get_or (stored ent e l h p) (2 * e) 0 ≡ l + 4294967296 * h
    first = rw (get_or-set_other (set ent (2 * e) (l + 4294967296 * h)) (2 * e + 1) (2 * e) p 0 (omega arith), get_or-set_same ent (2 * e) (l + 4294967296 * h) 0 (omega arith))

    pub stored_low : l < 4294967296 → low (stored ent e l h p) e ≡ l
    stored_low f = ap (λ (x : ℕ). x % 4294967296) first ∙ omega arith

    pub stored_high : l < 4294967296 → h < 4294967296 → high (stored ent e l h p) e ≡ h
    stored_high f g = ap (λ (x : ℕ). x / 4294967296 % 4294967296) first ∙ omega arith

    pub stored_place : place (stored ent e l h p) e ≡ p
    stored_place = get_or-set_same (set ent (2 * e) (l + 4294967296 * h)) (2 * e + 1) p 0 (rw length-set lt)
