-- Of bytes w the first i were met, and l is left of the target.
use Prim.Native.Nat.{ℕ, suc, ◌+◌, ◌≤◌, ◌<◌}
use mathlib.Core.List.{[], ◌∷◌}
use mathlib.Core.Option.{none, some}
use mathlib.Core.Path.{◌≡◌, sym}
use native.Mathlib.Numerals.{add-one}
use lib.ListN.{length, get_or, drop, drop_of_length-le}
use lib.Seq.{drop-cons}
use Rattle.rules.specs.Bytes.{Bytes}
use Rattle.text.specs.Strip.{stripped}
use Rattle.text.specs.Laws.{strip_none, strip_short, strip_other, strip_on}

pub lent_on : (w : Bytes) (k : ℕ) → k < length w → drop k w ≡ get_or w k 0 ∷ drop (k + 1) w
lent_on w k h = rw (drop-cons w k 0 h, add-one k)

module _ (w l : Bytes) (i : ℕ) where
  pub bytes_met : length w ≤ i → stripped (drop i w) l ≡ some l
  bytes_met h = rw (drop_of_length-le w h) (strip_none l)

  pub bytes_short : i < length w → l ≡ [] → stripped (drop i w) l ≡ none
  bytes_short h e = rw (drop-cons w i 0 h, e) (strip_short (get_or w i 0) (drop (suc i) w))

  module _ (c : ℕ) (m : Bytes) (h : i < length w) (e : l ≡ c ∷ m) where
    pub bytes_other : (get_or w i 0 ≡ c → ⊥) → stripped (drop i w) l ≡ none
    bytes_other ne = rw (drop-cons w i 0 h, e) (strip_other (get_or w i 0) c (drop (suc i) w) m (λ q. ne (sym q)))

    pub bytes_on : get_or w i 0 ≡ c → stripped (drop i w) l ≡ stripped (drop (i + 1) w) m
    bytes_on q = rw (drop-cons w i 0 h, e, add-one i) (strip_on (get_or w i 0) c (drop (suc i) w) m (sym q))
