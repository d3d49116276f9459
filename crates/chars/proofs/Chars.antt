-- `chars` of any bytes.
use Prim.Native.Nat.{ℕ, zero, suc, ◌-◌, ◌≤◌}
use mathlib.Core.Bool.{Bool, true, false}
use mathlib.Core.List.{List, [], ◌∷◌, ◌++◌}
use mathlib.Core.Option.{some}
use mathlib.Core.Path.{◌≡◌, refl, ap, subst}
use native.Mathlib.Omega.{arith}
use lib.ListN.{length, get_elem?}
use Rattle.rules.specs.Bytes.{Bytes, pick, between}
use Rattle.rules.specs.Context.{goes_on, on_head, chars}

-- the first of them starts with c, and is one character
record Head (c : ℕ) (l : List Bytes) : Type 0 where
  pub tail : Bytes
  pub others : List Bytes
  pub is : l ≡ (c ∷ tail) ∷ others
  pub alone : chars (c ∷ tail) ≡ (c ∷ tail) ∷ []

heads : (c : ℕ) (s : Bytes) → Head c (chars (c ∷ s))
heads c [] = record { tail = []; others = []; is = refl; alone = refl }
heads c (d ∷ s) = go (between 128 191 d) refl (heads d s)
  where
    go : (t : Bool) → between 128 191 d ≡ t → Head d (chars (d ∷ s)) → Head c (pick t (on_head c (chars (d ∷ s))) ((c ∷ []) ∷ chars (d ∷ s)))
    go true e h = record { tail = d ∷ h.tail; others = h.others; is = ap (on_head c) h.is; alone = rw (e, h.alone) }
    go false e h = record { tail = []; others = chars (d ∷ s); is = refl; alone = refl }

-- a first character is one character by itself
pub first_alone : (l h : Bytes) (r : List Bytes) → chars l ≡ h ∷ r → chars h ≡ h ∷ []
first_alone [] h r e = cc
first_alone (c ∷ s) h r e =
    let k = heads c s in
    let i = k.is in
    let p : c ∷ k.tail ≡ h = cc in
    subst (λ (x : Bytes). chars x ≡ x ∷ []) p k.alone

-- one character has a byte
pub alone_some : (l : Bytes) → chars l ≡ l ∷ [] → 1 ≤ length l
alone_some [] e = let z = ap length e in omega arith
alone_some (c ∷ l) e = omega arith

abbrev pub first : List Bytes → Bytes
first [] = []
first (h ∷ l) = h

-- a first character ends where a byte stands that does not go on
pub first_short : (c : ℕ) (w r : Bytes) → goes_on r ≡ false → length (first (chars (c ∷ (w ++ r)))) ≤ suc (length w)
first_short c [] r g = rw g (omega arith)
first_short c (d ∷ w) r g = go (between 128 191 d) (heads d (w ++ r)) (first_short d w r g)
  where
    go : (t : Bool) → Head d (chars (d ∷ (w ++ r))) → length (first (chars (d ∷ (w ++ r)))) ≤ suc (length w)
        → length (first (pick t (on_head c (chars (d ∷ (w ++ r)))) ((c ∷ []) ∷ chars (d ∷ (w ++ r))))) ≤ suc (suc (length w))
    go true k f =
        let i = ap (λ (x : List Bytes). length (first x)) k.is in
        let j = ap (λ (x : List Bytes). length (first (on_head c x))) k.is in
        omega arith
    go false k f = omega arith

on_head_few : (c : ℕ) (l : List Bytes) → length (on_head c l) ≤ suc (length l)
on_head_few c [] = omega arith
on_head_few c (h ∷ l) = omega arith

-- no more characters than bytes
pub chars_few : (l : Bytes) → length (chars l) ≤ length l
chars_few [] = omega arith
chars_few (c ∷ s) = go (goes_on s) (chars_few s)
  where
    go : (t : Bool) → length (chars s) ≤ length s → length (pick t (on_head c (chars s)) ((c ∷ []) ∷ chars s)) ≤ suc (length s)
    go true f = let h = on_head_few c (chars s) in omega arith
    go false f = omega arith

-- the character i, by the first
module _ (l : List Bytes) (h : Bytes) (r : List Bytes) where
  pub get_first : (i : ℕ) → l ≡ h ∷ r → i ≡ 0 → get_elem? l i ≡ some h
  get_first i e z = rw (e, z)

  pub get_on : (i : ℕ) → l ≡ h ∷ r → (i ≡ 0 → ⊥) → get_elem? l i ≡ get_elem? r (i - 1)
  get_on zero e n = absurd (n refl)
  get_on (suc i) e n =
      let k : suc i - 1 ≡ i = omega arith in
      rw (e, k)
