-- A value that is read at once is a leaf, and no number that is refused.
use mathlib.Core.Bool.{true, false, ◌||◌}
use mathlib.Core.List.{List}
use mathlib.Core.Path.{◌≡◌, refl, sym, ap, ◌∙◌}
use Prim.Native.Nat.{ℕ, ◌+◌, ◌≤◌, ◌<◌}
use native.Mathlib.Nat.{add-zero}
use native.Mathlib.Omega.{arith}
use lib.Dec.{eqb, leb}
use lib.ListN.{length, set}
use borrow.Author.Tests.{eqb-true, eqb-false, ne_eqb, leb-true}
use Rattle.rules.specs.Bytes.{Bytes, byte_at}
use Rattle.rules.specs.Order.{and_left, and_right}
use Rattle.rules.specs.Scan.{is_digit, scalar_end}
use Rattle.rules.specs.Tree.{is_open, value_of}
use Rattle.rules.specs.Plan.{refused_at}
use Rattle.scan.proofs.Bounds.{by_cases}
use Rattle.scan.proofs.Quick.{plain_number}
use Rattle.scan.specs.Short.{plain_number_end}
use Rattle.strings.proofs.Quick.{plain_string}
use Rattle.plan_read.specs.Table.{entry}
use Rattle.plan_read.specs.Reading.{Meets}
use Rattle.plan_read.specs.Quick.{plain_end}
use Rattle.plan_read.proofs.Opens.{scalar_goes}
use Rattle.plan_read.proofs.Values.{reading, leaf_met, value_leaf}

record Plain (s : Bytes) (i e : ℕ) : Type 0 where
  pub ends : e ≡ scalar_end s i
  pub fits : refused_at s i ≡ 0
  pub single : is_open (byte_at s i) ≡ false

-- a digit lies between the first and the last
digit_low : (c : ℕ) → is_digit c ≡ true → 48 ≤ c
unfolding is_digit
digit_low c h = leb-true 48 c (and_left (leb 48 c) (leb c 57) h)

digit_high : (c : ℕ) → is_digit c ≡ true → c ≤ 57
unfolding is_digit
digit_high c h = leb-true c 57 (and_right (leb 48 c) (leb c 57) h)

number_plain : (s : Bytes) (i : ℕ) → (plain_number_end s i ≡ 0 → ⊥) → Plain s i (plain_number_end s i)
unfolding scalar_end refused_at is_open
number_plain s i n =
    let c = byte_at s i in
    let p = plain_number s i n in
    let low = digit_low c p.digit in
    let high = digit_high c p.digit in
    record {
      ends = rw (ne_eqb c 34 (λ e. omega arith), ne_eqb c 116 (λ e. omega arith), ne_eqb c 102 (λ e. omega arith), ne_eqb c 110 (λ e. omega arith)) p.ends;
      fits = rw (ne_eqb c 45 (λ e. omega arith), p.digit, p.fits);
      single = rw (ne_eqb c 91 (λ e. omega arith), ne_eqb c 123 (λ e. omega arith));
    }

-- the byte at i starts no number and opens nothing
other_plain : (s : Bytes) (i k e : ℕ) → byte_at s i ≡ k → (eqb k 45 || is_digit k) ≡ false → is_open k ≡ false → e ≡ scalar_end s i → Plain s i e
unfolding refused_at
other_plain s i k e q f o h = record { ends = h; fits = rw (q, f); single = ap is_open q ∙ o }

plain_leaf : (s : Bytes) (i : ℕ) → i ≤ length s → (plain_end s i ≡ 0 → ⊥) → Plain s i (plain_end s i)
unfolding plain_end scalar_end is_digit is_open
plain_leaf s i le =
    by_cases P (eqb (plain_number_end s i) 0) _ _
    (λ _. by_cases P (eqb (byte_at s i) 34) _ _ (λ h n. other_plain s i 34 _ (eqb-true (byte_at s i) 34 h) refl refl (rw h (plain_string s (i + 1) (omega arith) n)))
    (λ _. by_cases P (eqb (byte_at s i) 116) _ _ (λ h n. let q = eqb-true (byte_at s i) 116 h in other_plain s i 116 _ q refl refl (rw q))
    (λ _. by_cases P (eqb (byte_at s i) 102) _ _ (λ h n. let q = eqb-true (byte_at s i) 102 h in other_plain s i 102 _ q refl refl (rw q))
    (λ _. by_cases P (eqb (byte_at s i) 110) _ _ (λ h n. let q = eqb-true (byte_at s i) 110 h in other_plain s i 110 _ q refl refl (rw q))
    (λ _ n. absurd (n refl))))))
    (λ h _. number_plain s i (eqb-false (plain_number_end s i) 0 h))
  where
    P : ℕ → Type 0
    P e = (e ≡ 0 → ⊥) → Plain s i e

module _ (s : Bytes) (i e : ℕ) (he : e ≡ plain_end s i) (ne : e ≡ 0 → ⊥) (le : i ≤ length s) where
  plain_here : Plain s i e
  plain_here = rw he (plain_leaf s i le (λ z. ne (he ∙ z)))

  pub plain_in : i < length s
  plain_in =
      let g = scalar_goes s i le in
      let o = g.on (λ z. ne (plain_here.ends ∙ z)) in
      omega (arith, g.within)

  pub plain_met : (name n b d : ℕ) (tab after : List ℕ) → after ≡ set tab n (entry i name (n + 1)) → Meets s i n b tab (value_of s d i name) (reading e (n + 1) b) after
  plain_met name n b d tab after ha =
      value_leaf s i name n b tab d (reading e (n + 1) b) after plain_here.single
      (rw (add-zero b) at (leaf_met s i name n b tab e 0 after plain_here.ends ne (sym plain_here.fits) le ha))
