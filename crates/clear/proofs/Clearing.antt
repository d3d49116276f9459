-- What a clearing loop has done so far.
use Prim.Native.Nat.{ℕ, suc, ◌+◌, ◌-◌, ◌≤◌, ◌<◌}
use mathlib.Core.List.{List, [], ◌∷◌, ◌++◌, append_assoc, append-nil}
use mathlib.Core.Path.{◌≡◌, refl, sym, ap, ◌∙◌}
use native.Mathlib.Omega.{arith}
use native.Mathlib.Numerals.{add-one}
use lib.ListN.{length, set, take, drop, replicate, length-set, length-append, length-replicate, replicate-append-replicate, take-append-drop, drop_of_length-le}
use lib.Seq.{drop-cons, length-take-le, set_at}
use Rattle.clear.specs.Cleared.{cleared}

-- the entries from `at` up to i are zero, those from i on as they were
pub record Clearing {A : Type 0} (at : ℕ) (zero : A) (xs₀ : List A) (i : ℕ) (xs : List A) : Type 0 where
  pub is : xs ≡ (take at xs₀ ++ replicate (i - at) zero) ++ drop i xs₀
  pub from : at ≤ i
  pub within : i - at ≤ length xs₀ - at
  pub same : length xs ≡ length xs₀

pub none : {A : Type 0} (at : ℕ) (zero : A) (xs : List A) → Clearing at zero xs at xs
none at zero xs =
    let e : at - at ≡ 0 = omega arith in
    record { is = rw (e, append-nil) (sym (take-append-drop at xs)); from = omega arith; within = omega arith; same = refl }

module _ {A : Type 0} (at : ℕ) (zero : A) (xs₀ : List A) (i : ℕ) (xs : List A) (h : Clearing at zero xs₀ i xs) where
  pub more : i < length xs₀ → Clearing at zero xs₀ (i + 1) (set xs i zero)
  more lt =
      let p = take at xs₀ ++ replicate (i - at) zero in
      let t : length (take at xs₀) ≡ at = length-take-le at xs₀ (omega (arith, h.from)) in
      let s : length p ≡ i = length-append (take at xs₀) (replicate (i - at) zero) ∙ omega (arith, h.from, length-replicate {A = A} (i - at) zero) in
      let e : i - at + 1 ≡ i + 1 - at = omega (arith, h.from) in
      let z : p ++ zero ∷ [] ≡ take at xs₀ ++ replicate (i + 1 - at) zero = append_assoc (take at xs₀) (replicate (i - at) zero) (zero ∷ []) ∙ rw (replicate-append-replicate {A = A} (i - at) 1 zero, e) in
      record {
        is =
            ap (λ (x : List A). set x i zero) h.is
            ∙ ap (λ (x : List A). set (p ++ x) i zero) (drop-cons xs₀ i zero lt)
            ∙ set_at p _ _ zero i s
            ∙ sym (append_assoc p (zero ∷ []) (drop (suc i) xs₀))
            ∙ rw (z, add-one);
        from = omega (arith, h.from);
        within = omega (arith, h.from);
        same = length-set xs i zero ∙ h.same;
      }

  pub done : length xs₀ ≤ i → xs ≡ cleared at zero xs₀
  done le =
      let e : i - at ≡ length xs₀ - at = omega (arith, h.within, h.from) in
      h.is ∙ rw (drop_of_length-le xs₀ le, append-nil, e)
