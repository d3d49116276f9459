-- A loop over the values inside the one at i: f is what it finds among those still to come, step what one of them makes of the best one so far.
use Rattle.std.specs.Prelude.{Option as RustOption, Some, None}
use Prim.Native.Nat.{ℕ, zero, suc, ◌-◌, ◌<◌}
use mathlib.Core.Bool.{Bool, true, false}
use mathlib.Core.List.{List, [], ◌∷◌}
use mathlib.Core.Option.{Option, none, some}
use mathlib.Core.Path.{◌≡◌, refl, sym, ap, ◌∙◌}
use native.Mathlib.Omega.{arith}
use lib.Dec.{ltb}
use lib.ListN.{drop, get_elem?}
use borrow.Author.Tests.{ltb-true, ltb-false}
use Rattle.rules.specs.Bytes.{Bytes}
use Rattle.places.specs.Places.{places, tree_at, children}
use Rattle.places.specs.Nodes.{size_positive}
use Rattle.places.specs.Accepted.{Accepted}
use Rattle.places.specs.Kinds.{found}
use Rattle.places.specs.Children.{end_at, Walk, walk_child, walk_on, walk_end, Child, child_walk, is_child, none_some, some_eq}

-- the places that may still come
abbrev pub ahead : Bytes → RustOption ℕ → ℕ
ahead s (Some c) = places s - c
ahead s None = 0

past : (l : List ℕ) (j : ℕ) → none ≡ get_elem? l j → drop j l ≡ []
past [] zero e = refl
past [] (suc j) e = refl
past (x ∷ l) zero e = none_some e
past (x ∷ l) (suc j) e = past l j e

ended : (l : List ℕ) (j : ℕ) → drop j l ≡ [] → get_elem? l j ≡ none
ended [] zero e = refl
ended [] (suc j) e = refl
ended (x ∷ l) zero e = let z : ◌≡◌ {A = ℕ} 0 1 = cc in absurd (omega arith)
ended (x ∷ l) (suc j) e = ended l j e

-- where the loop is: at the child of that number, or past the last one
pub record Walks (s : Bytes) (i : ℕ) (at : RustOption ℕ) : Type 0 where
  pub number : ℕ
  pub is : found at ≡ get_elem? (children s i) number

module _ (s : Bytes) (tab : List ℕ) (h : Accepted s tab) (i : ℕ) (lt : i < places s) where
  -- the next one stands behind
  later : (j c d : ℕ) → get_elem? (children s i) j ≡ some c → get_elem? (children s i) (suc j) ≡ some d → c < d
  later j c d e f = go (ltb (end_at s c) (end_at s i)) refl
    where
      w : Walk s i (suc j) (end_at s c)
      w = let v = child_walk s i j c h.answers lt e in walk_on s i j c v.0 v.1

      go : (t : Bool) → ltb (end_at s c) (end_at s i) ≡ t → c < d
      go true q =
          let m : end_at s c ≡ d = some_eq (sym (walk_child s i (suc j) (end_at s c) w (ltb-true (end_at s c) (end_at s i) q)).is ∙ f) in
          omega (arith, size_positive (tree_at s c))
      go false q = none_some (sym (ended (children s i) (suc j) (walk_end s i (suc j) (end_at s c) w (ltb-false (end_at s c) (end_at s i) q))) ∙ f)

  module _ (at : RustOption ℕ) (w : Walks s i at) where
    pub at_child : (c : ℕ) → at ≡ Some c → Child s i w.number c
    at_child c e = is_child s i w.number c h.answers lt (sym w.is ∙ ap found e)

    module _ (next : RustOption ℕ) (c : ℕ) (e : at ≡ Some c) (f : (j : ℕ) → get_elem? (children s i) j ≡ some c → found next ≡ get_elem? (children s i) (suc j)) where
      pub walks_on : Walks s i next
      walks_on = record { number = suc w.number; is = f w.number (at_child c e).is }

      pub walks_less : ahead s next < ahead s at
      walks_less = rw e (go next refl)
        where
          k : Child s i w.number c
          k = at_child c e

          go : (n : RustOption ℕ) → next ≡ n → ahead s n < places s - c
          go (Some d) g =
              let b = is_child s i (suc w.number) d h.answers lt (sym (f w.number k.is) ∙ ap found g) in
              omega (arith, later w.number c d k.is b.is, b.within)
          go None g = omega (arith, k.within)

-- what it finds
module _ (s : Bytes) (i : ℕ) (f : Option ℕ → List ℕ → Option ℕ) (step : Option ℕ → ℕ → Option ℕ)
    (none_left : (o : Option ℕ) → f o [] ≡ o) (one_more : (o : Option ℕ) (p : ℕ) (l : List ℕ) → f o (p ∷ l) ≡ f (step o p) l) where
  -- from the best one so far
  pub record Scans (best : Option ℕ) (at : RustOption ℕ) : Type 0 where
    pub walks : Walks s i at
    pub so_far : f best (drop walks.number (children s i)) ≡ f none (children s i)

  pub scan_start : (at : RustOption ℕ) → found at ≡ get_elem? (children s i) 0 → Scans none at
  scan_start at e = record { walks = record { number = 0; is = e }; so_far = refl }

  pub scan_end : (best : Option ℕ) (at : RustOption ℕ) → Scans best at → at ≡ None → best ≡ f none (children s i)
  scan_end best at w e =
      sym (none_left best) ∙ ap (f best) (sym (past (children s i) w.walks.number (sym (ap found e) ∙ w.walks.is))) ∙ w.so_far

  module _ (tab : List ℕ) (h : Accepted s tab) (lt : i < places s) (best : Option ℕ) (at : RustOption ℕ) (w : Scans best at) (c : ℕ) (e : at ≡ Some c) where
    pub scan_on : (more : Option ℕ) (next : RustOption ℕ) → more ≡ step best c
        → ((j : ℕ) → get_elem? (children s i) j ≡ some c → found next ≡ get_elem? (children s i) (suc j)) → Scans more next
    unfolding walks_on
    scan_on more next m g =
        let k = at_child s tab h i lt at w.walks c e in
        record {
          walks = walks_on s tab h i lt at w.walks next c e g;
          so_far =
              ap (λ (o : Option ℕ). f o (drop (suc w.walks.number) (children s i))) m ∙ sym (one_more best c (drop (suc w.walks.number) (children s i)))
              ∙ ap (f best) (sym k.others) ∙ w.so_far;
        }
