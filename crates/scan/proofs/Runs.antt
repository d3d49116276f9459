-- The loops that pass over bytes of one class.
use mathlib.Core.Bool.{Bool, true, false}
use mathlib.Core.List.{[], ◌∷◌}
use mathlib.Core.Path.{◌≡◌, refl}
use Prim.Native.Nat.{ℕ, suc, ◌+◌, ◌≤◌, ◌<◌, max}
use native.Mathlib.Numerals.{add-one}
use native.Mathlib.Omega.{arith}
use lib.ListN.{length, get_or, drop, length-drop, drop_of_length-le}
use lib.Seq.{drop-cons}
use lib.Dec.{leb}
use borrow.Author.Tests.{leb-true, leb-false}
use Rattle.rules.specs.Bytes.{Bytes, pick, run}

module _ (p : ℕ → Bool) where
  -- the byte at j is passed
  pub run_on : (s : Bytes) (j : ℕ) → j < length s → p (get_or s j 0) ≡ true → j + run p (drop j s) ≡ (j + 1) + run p (drop (j + 1) s)
  unfolding run
  run_on s j lt h = rw (drop-cons s j 0 lt, h, add-one j) (omega arith)

  -- the byte at j is not
  pub run_off : (s : Bytes) (j : ℕ) → j < length s → p (get_or s j 0) ≡ false → j + run p (drop j s) ≡ j
  unfolding run
  run_off s j lt h = rw (drop-cons s j 0 lt, h) (omega arith)

  -- there is none
  pub run_end : (s : Bytes) (j : ℕ) → length s ≤ j → j + run p (drop j s) ≡ j
  unfolding run
  run_end s j le = rw (drop_of_length-le s le) (omega arith)

  -- all from i up to j are passed, and j is the end of the text, or i behind it
  pub run_out : (s : Bytes) (i j : ℕ) → length s ≤ j → (i ≤ length s → j ≤ length s) → i + run p (drop i s) ≡ j + run p (drop j s)
      → max i (length s) ≡ i + run p (drop i s)
  run_out s i j le within h = go (leb i (length s)) refl
    where
      go : (t : Bool) → leb i (length s) ≡ t → max i (length s) ≡ i + run p (drop i s)
      go true e = let k = leb-true i (length s) e in omega (arith, run_end s j le)
      go false e = let k = leb-false i (length s) e in omega (arith, run_end s i (omega arith))

  run_most : (l : Bytes) → run p l ≤ length l
  unfolding run
  run_most [] = omega arith
  run_most (c ∷ l) = step (p c) (run_most l)
    where
      step : (t : Bool) → run p l ≤ length l → pick t (suc (run p l)) 0 ≤ suc (length l)
      step true h = omega arith
      step false h = omega arith

  pub run_within : (s : Bytes) (i : ℕ) → i ≤ length s → i + run p (drop i s) ≤ length s
  run_within s i le = omega (arith, run_most (drop i s), length-drop i s)
