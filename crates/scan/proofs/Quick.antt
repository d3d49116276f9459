-- What is read quickly: no white space, and a number of few digits and nothing else.
use mathlib.Core.Bool.{Bool, true, false, ◌&&◌, ◌||◌, not}
use mathlib.Core.Path.{◌≡◌, refl, sym, ap, ◌∙◌}
use Prim.Native.Nat.{ℕ, ◌+◌, ◌≤◌, ◌<◌}
use native.Mathlib.Omega.{arith}
use lib.Dec.{eqb, leb, ltb}
use borrow.Author.Tests.{eqb-true, eqb-false, ne_eqb, ltb-false, le-leb}
use Rattle.rules.specs.Bytes.{Bytes, pick, byte_at}
use Rattle.rules.specs.Order.{differ}
use Rattle.rules.specs.Scan.{is_space, spaces_end, is_digit, digits_end, minus_end, whole_end, fraction_end, exponent_end, number_end, outside}
use Rattle.scan.proofs.Bounds.{in_text}
use Rattle.scan.proofs.Numbers.{outside_short}
use Rattle.scan.proofs.Runs.{run_off}
use Rattle.scan.specs.Short.{plain_number_end}

no_space : (c : ℕ) → 32 < c → is_space c ≡ false
unfolding is_space
no_space c h = rw (ne_eqb c 32 (λ e. omega arith), ne_eqb c 10 (λ e. omega arith), ne_eqb c 13 (λ e. omega arith), ne_eqb c 9 (λ e. omega arith))

-- all white space is 32 at most
pub spaces_none : (s : Bytes) (i : ℕ) → 32 < byte_at s i → spaces_end s i ≡ i
spaces_none s i h = run_off is_space s i (in_text s i (λ z. omega arith)) (no_space (byte_at s i) h)

-- a whole part starts with a digit
whole_digit : (s : Bytes) (i : ℕ) → (whole_end s i ≡ 0 → ⊥) → is_digit (byte_at s i) ≡ true
unfolding whole_end is_digit
whole_digit s i h = go (eqb (byte_at s i) 48) refl (is_digit (byte_at s i)) refl h
  where
    go : (a : Bool) → eqb (byte_at s i) 48 ≡ a → (b : Bool) → is_digit (byte_at s i) ≡ b → (pick a (i + 1) (pick b (digits_end s (i + 1)) 0) ≡ 0 → ⊥) → is_digit (byte_at s i) ≡ true
    go true e b f n = rw (eqb-true (byte_at s i) 48 e)
    go false e true f n = f
    go false e false f n = absurd (n refl)

digit_no_minus : (c : ℕ) → is_digit c ≡ true → c ≡ 45 → ⊥
unfolding is_digit
digit_no_minus c h e = let z : ◌≡◌ {A = Bool} true false = sym h ∙ ap is_digit e in let y : ◌≡◌ {A = ℕ} 0 1 = cc in omega arith

-- such a number starts with a digit, ends where its whole part does, and is one of the integers
pub record Plain (s : Bytes) (i e : ℕ) : Type 0 where
  pub digit : is_digit (byte_at s i) ≡ true
  pub ends : e ≡ number_end s i
  pub fits : outside s i ≡ false

-- the whole part ends at w
module _ (s : Bytes) (i w : ℕ) (hw : w ≡ whole_end s i) (wn : w ≡ 0 → ⊥) where
  first : is_digit (byte_at s i) ≡ true
  first = whole_digit s i (λ z. wn (hw ∙ z))

  no_minus : i ≡ minus_end s i
  no_minus = rw (ne_eqb (byte_at s i) 45 (digit_no_minus (byte_at s i) first))

  plain_ends : (byte_at s w ≡ 46 → ⊥) → (byte_at s w ≡ 101 → ⊥) → (byte_at s w ≡ 69 → ⊥) → w ≡ number_end s i
  unfolding number_end fraction_end exponent_end
  plain_ends p x y =
      rw (← no_minus, ← hw, ne_eqb w 0 wn, ne_eqb (byte_at s w) 46 p, ne_eqb w 0 wn, ne_eqb (byte_at s w) 101 x, ne_eqb (byte_at s w) 69 y)

  plain_fits : w ≡ number_end s i → w ≤ i + 18 → outside s i ≡ false
  plain_fits he le =
      let t : (not (eqb (byte_at s i) 45) && leb w (i + 18)) ≡ true = rw (ne_eqb (byte_at s i) 45 (digit_no_minus (byte_at s i) first), le-leb w (i + 18) le) in
      sym (outside_short s i i w w no_minus hw he refl (byte_at s i) refl t)

-- what the tests behind the whole part leave
or_none : (a b : Bool) → (a || b) ≡ false → (a ≡ false) × (b ≡ false)
or_none true b h = differ h
or_none false b h = (refl, h)

pub plain_number : (s : Bytes) (i : ℕ) → (plain_number_end s i ≡ 0 → ⊥) → Plain s i (plain_number_end s i)
unfolding plain_number_end
plain_number s i n = go (whole_end s i) refl (eqb (whole_end s i) 0) refl _ refl n
  where
    go : (w : ℕ) → w ≡ whole_end s i → (a : Bool) → eqb w 0 ≡ a → (b : Bool)
        → (eqb (byte_at s w) 46 || (eqb (byte_at s w) 101 || (eqb (byte_at s w) 69 || ltb (i + 18) w))) ≡ b → (pick a 0 (pick b 0 w) ≡ 0 → ⊥) → Plain s i (pick a 0 (pick b 0 w))
    go w h true e b f n = absurd (n refl)
    go w h false e true f n = absurd (n refl)
    go w h false e false f n =
        let p = or_none (eqb (byte_at s w) 46) _ f in
        let x = or_none (eqb (byte_at s w) 101) _ p.1 in
        let y = or_none (eqb (byte_at s w) 69) _ x.1 in
        let wn = eqb-false w 0 e in
        let ends = plain_ends s i w h wn (eqb-false _ _ p.0) (eqb-false _ _ x.0) (eqb-false _ _ y.0) in
        record { digit = first s i w h wn; ends = ends; fits = plain_fits s i w h wn ends (ltb-false _ _ y.1) }
