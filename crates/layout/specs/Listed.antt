-- The places of the templates, as the check comes to them, in a lent table.
use Rattle.std.specs.Prelude.{ℕ, zero, suc, ◌+◌, ◌≤◌, ◌<◌, Bool, true, false, List, ◌≡◌, eqb, length, set, get_or, replicate}
use Rattle.std.proofs.Math.Path.{refl, ap}
use Rattle.std.proofs.Common.{sym, ◌∙◌, subst, add-one, arith, get_or-set_same, get_or-set_other, eqb-true}
use Rattle.std.proofs.lemmas.List.{length-replicate}
use Rattle.std.proofs.lemmas.Bool.{eqb-false}
use Rattle.rules.specs.Bits.{Bits}
use Rattle.rules.specs.Bundle.{string, body, body_context}
use Rattle.layout.specs.Walk.{Place, At, Broken, past, after, ahead, number_at}

-- the place of the template k, where p is that of the first one
unfoldable pub template_place : ℕ → Bits → Place → ℕ → Place
template_place w b p zero = p
template_place w b p (suc k) = past body_context (body w 16) b (after string b (template_place w b p k))

-- those of the first n, and zero behind them
pub record Listed (w : ℕ) (b : Bits) (p : Place) (n : ℕ) (l : List ℕ) : Type 0 where
  pub at : (k : ℕ) → k < n → (m : Bool) × (template_place w b p k ≡ At (get_or l k 0) m)
  pub behind : (k : ℕ) → n ≤ k → get_or l k 0 ≡ 0

-- a bundle's: its count stands behind the version, and the first one behind that
abbrev pub count_place : Bits → Place
count_place b = ahead b 8 (At 0 false)

abbrev pub BundleListed : Bits → List ℕ → Type 0
BundleListed b l = Listed 16 b (ahead b 8 (count_place b)) (number_at b 8 (count_place b)) l

pub zeroed_length : (m : ℕ) (l : List ℕ) → l ≡ replicate m 0 → length l ≡ m
zeroed_length m l e = ap length e ∙ length-replicate m 0

module _ (w : ℕ) (b : Bits) (p : Place) where
  pub place_zero : p ≡ template_place w b p 0
  unfolding template_place
  place_zero = refl

  pub place_next : (k : ℕ) (q r s : Place) → q ≡ template_place w b p k → r ≡ after string b q → s ≡ past body_context (body w 16) b r → s ≡ template_place w b p (k + 1)
  unfolding template_place
  place_next k q r s e f g = g ∙ ap (past body_context (body w 16) b) (f ∙ ap (after string b) e) ∙ ap (template_place w b p) (sym (add-one k))

  pub listed_start : (m : ℕ) (l : List ℕ) → l ≡ replicate m 0 → Listed w b p 0 l
  listed_start m l e = record { at = λ k lt. absurd (omega arith); behind = λ k le. ap (λ (x : List ℕ). get_or x k 0) e ∙ zeros m k }
    where
      zeros : (m k : ℕ) → ◌≡◌ {A = ℕ} (get_or (replicate m 0) k 0) 0
      zeros zero k = refl
      zeros (suc m) zero = refl
      zeros (suc m) (suc k) = zeros m k

  -- one more
  pub listed_more : (n q : ℕ) (m : Bool) (l : List ℕ) → n < length l → template_place w b p n ≡ At q m → Listed w b p n l → Listed w b p (n + 1) (set l n q)
  listed_more n q m l lt e x =
      record {
        at = λ k h. go k h (eqb k n) refl;
        behind = λ k h. get_or-set_other l n k q 0 (λ z. omega arith) ∙ x.behind k (omega arith);
      }
    where
      go : (k : ℕ) → k < n + 1 → (y : Bool) → eqb k n ≡ y → (m : Bool) × (template_place w b p k ≡ At (get_or (set l n q) k 0) m)
      go k h true z =
          let f : k ≡ n = eqb-true k n z in
          (m, ap (template_place w b p) f ∙ e ∙ ap (λ (j : ℕ). At j m) (sym (ap (λ (j : ℕ). get_or (set l n q) j 0) f ∙ get_or-set_same l n q 0 lt)))
      go k h false z =
          let ne : k ≡ n → ⊥ = eqb-false k n z in
          let r = x.at k (omega arith) in
          (r.0, r.1 ∙ ap (λ (j : ℕ). At j r.0) (sym (get_or-set_other l n k q 0 ne)))

-- a broken place is none
pub never_at : {A : Type 0} (q : ℕ) (m : Bool) → Broken ≡ At q m → A
never_at q m h = let z : ◌≡◌ {A = ℕ} 0 1 = cc in absurd (omega arith)

-- all of a count that was read
pub listed_all : (w : ℕ) (b : Bits) (p q : Place) → p ≡ q → (i m n : ℕ) → i ≡ m → m ≡ n → (l : List ℕ) → Listed w b p i l → Listed w b q n l
listed_all w b p q e i m n f g l x = subst (λ (k : ℕ). Listed w b q k l) (f ∙ g) (subst (λ (r : Place). Listed w b r i l) e x)

pub bundle_listed : (b : Bits) (p : Place) → p ≡ count_place b → (l : List ℕ) → Listed 16 b (ahead b 8 p) (number_at b 8 p) l → BundleListed b l
bundle_listed b p e l x = subst (λ (q : Place). Listed 16 b (ahead b 8 q) (number_at b 8 q) l) e x
