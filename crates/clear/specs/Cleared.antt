-- A list that is zero from a place on.
use Rattle.std.specs.Prelude.{ℕ, ◌-◌, List, ◌++◌, ◌≡◌, length, take, replicate}
use Rattle.std.proofs.Common.{arith, length-append, length-take}
use Rattle.std.proofs.lemmas.List.{length-replicate}

-- the first `at` entries as they were, the rest zero
abbrev pub cleared : {A : Type 0} → ℕ → A → List A → List A
cleared at zero xs = take at xs ++ replicate (length xs - at) zero

pub cleared_length : {A : Type 0} (at : ℕ) (zero : A) (xs : List A) → length (cleared at zero xs) ≡ length xs
cleared_length at zero xs = simp (length-append, length-take, length-replicate) (omega arith)

pub cleared_whole : {A : Type 0} (zero : A) (xs : List A) → cleared 0 zero xs ≡ replicate (length xs) zero
cleared_whole zero xs =
    let e : length xs - 0 ≡ length xs = omega arith in
    rw e
