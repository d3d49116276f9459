-- The loop over a word's bytes.
use mathlib.Core.Path.{◌≡◌, ap, ◌∙◌}
use Prim.Native.Nat.{ℕ, suc, ◌+◌, ◌≤◌, ◌<◌}
use native.Mathlib.Numerals.{add-one}
use native.Mathlib.Nat.{add-zero}
use native.Mathlib.Omega.{arith}
use lib.ListN.{length, get_or, drop, drop_of_length-le}
use lib.Seq.{drop-cons}
use borrow.Author.Tests.{eq-eqb, ne_eqb}
use Rattle.rules.specs.Bytes.{Bytes, byte_at}
use Rattle.rules.specs.Scan.{is_word, word_end}

-- the first k bytes of w stand at i: the others decide
pub record Worded (w s : Bytes) (i k : ℕ) : Type 0 where
  pub is : is_word w s i ≡ is_word (drop k w) s (i + k)
  pub within : k ≤ length w

pub worded_start : (w s : Bytes) (i : ℕ) → Worded w s i 0
worded_start w s i = record { is = rw (add-zero i); within = omega arith }

module _ (w s : Bytes) (i k : ℕ) (g : Worded w s i k) where
  pub worded_on : k < length w → byte_at s (i + k) ≡ get_or w k 0 → Worded w s i (k + 1)
  worded_on lt e = record { is = g.is ∙ step; within = omega arith }
    where
      step : is_word (drop k w) s (i + k) ≡ is_word (drop (k + 1) w) s (i + (k + 1))
      step =
          rw (drop-cons w k 0 lt, eq-eqb (byte_at s (i + k)) (get_or w k 0) e, add-one k)
          (ap (λ (n : ℕ). is_word (drop (suc k) w) s n) (omega arith))

  pub worded_no : k < length w → (byte_at s (i + k) ≡ get_or w k 0 → ⊥) → 0 ≡ word_end w s i
  unfolding word_end
  worded_no lt e = rw (g.is, drop-cons w k 0 lt, ne_eqb (byte_at s (i + k)) (get_or w k 0) e)

  pub worded_end : length w ≤ k → i + length w ≡ word_end w s i
  unfolding word_end
  worded_end le =
      let z : k ≡ length w = omega (arith, g.within) in
      rw (g.is, drop_of_length-le w le)
