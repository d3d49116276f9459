-- A text without its first byte, kind by kind, and the loop that strips lent bytes.
use Prim.Native.Nat.{ℕ, zero, suc, ◌+◌, ◌-◌, ◌≤◌, ◌<◌}
use mathlib.Core.List.{[], ◌∷◌}
use mathlib.Core.Option.{none, some}
use mathlib.Core.Bool.{Bool, true, false, not}
use Rattle.std.specs.Prelude.{Option as RustOption, Some, None}
use Rattle.std.specs.Option.{is_some}
use mathlib.Core.Path.{◌≡◌, refl, sym, ap}
use native.Mathlib.Numerals.{add-one}
use native.Mathlib.Omega.{arith}
use lib.ListN.{length, get_or, take, drop, drop_of_length-le}
use lib.Seq.{drop-cons, take-nil}
use Rattle.rules.specs.Bytes.{Bytes, same}
use Rattle.rules.specs.Bits.{Bits}
use Rattle.rules.specs.Layout.{field}
use Rattle.bits.specs.Packed.{bytes_at}
use Rattle.text.specs.Strip.{stripped}
use Rattle.text.specs.Rest.{Stepped, rest}
use Rattle.text.specs.declared.Text.{Text}
use Rattle.text.specs.Laws.{strip_none, strip_short, strip_other, strip_on}

-- No more than n bytes of l

pub take_none : (n : ℕ) (l : Bytes) → n ≡ 0 → take n l ≡ []
take_none n l e = rw e

pub take_end : (n : ℕ) (l : Bytes) → l ≡ [] → take n l ≡ []
take_end n l e = rw e (take-nil n)

pub take_on : (n c : ℕ) (l m : Bytes) → (n ≡ 0 → ⊥) → l ≡ c ∷ m → take n l ≡ c ∷ take (n - 1) m
take_on zero c l m h e = absurd (h refl)
take_on (suc n) c l m h e =
    let k : suc n - 1 ≡ n = omega arith in
    rw (e, k)

-- n bytes packed from the bit place p on

pub packed_none : (b : Bits) (p n : ℕ) → n ≡ 0 → bytes_at b p n ≡ []
unfolding bytes_at
packed_none b p n e = rw e

pub packed_on : (b : Bits) (p n x : ℕ) → (n ≡ 0 → ⊥) → x ≡ field b 8 p → bytes_at b p n ≡ x ∷ bytes_at b (p + 8) (n - 1)
unfolding bytes_at
packed_on b p zero x h e = absurd (h refl)
packed_on b p (suc n) x h e =
    let k : suc n - 1 ≡ n = omega arith in
    rw (k, e)

-- The bytes of d but for the first k

pub drop_on : (d : Bytes) (k x : ℕ) → k < length d → x ≡ get_or d k 0 → drop k d ≡ x ∷ drop (k + 1) d
drop_on d k x h e = rw (drop-cons d k 0 h, add-one k, e)

-- Of lent bytes w the first i were met, and l is left of the text

module _ (w l : Bytes) (i : ℕ) where
  pub bytes_met : length w ≤ i → stripped (drop i w) l ≡ some l
  bytes_met h = rw (drop_of_length-le w h) (strip_none l)

  pub bytes_short : i < length w → l ≡ [] → stripped (drop i w) l ≡ none
  bytes_short h e = rw (drop-cons w i 0 h, e) (strip_short (get_or w i 0) (drop (suc i) w))

  module _ (c : ℕ) (m : Bytes) (h : i < length w) (e : l ≡ c ∷ m) where
    pub bytes_other : (get_or w i 0 ≡ c → ⊥) → stripped (drop i w) l ≡ none
    bytes_other ne = rw (drop-cons w i 0 h, e) (strip_other (get_or w i 0) c (drop (suc i) w) m (λ q. ne (sym q)))

    pub bytes_on : get_or w i 0 ≡ c → stripped (drop i w) l ≡ stripped (drop (i + 1) w) m
    bytes_on q = rw (drop-cons w i 0 h, e, add-one i) (strip_on (get_or w i 0) c (drop (suc i) w) m (sym q))

-- The step is none just where nothing is left

pub none_left : (s b : Bytes) (t : Text) (o : RustOption (ℕ × Text)) (r : Bool) → Stepped s b t o → is_some o ≡ not r → r ≡ same (rest s b t) []
none_left s b t (Some (c, u)) true e h = cc
none_left s b t (Some (c, u)) false e h = sym (ap (λ (y : Bytes). same y []) e.0)
none_left s b t None true e h = sym (ap (λ (y : Bytes). same y []) e)
none_left s b t None false e h = cc
