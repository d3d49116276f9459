-- The turns over a list or an object, by number.
use Rattle.std.specs.Prelude.{ℕ, zero, suc, ◌+◌, ◌≤◌, Bool, true, false, List, [], ◌∷◌, ◌≡◌, refl, eqb, length}
use Rattle.std.proofs.Math.Option.{Option, none, some}
use Rattle.std.proofs.Common.{sym, ap, ap₂, ◌∙◌, arith}
use Rattle.std.proofs.Math.ListN.{get_elem?}
use Rattle.rules.specs.Bytes.{Bytes, digits}
use Rattle.rules.specs.Json.{Json, jbool, jpos, jstr, Jsons, jnil, jcons, Map, mnil, mcons, get_item, no_items, no_members}
use Rattle.rules.specs.LocalVars.{LocalVars, put_first, put_last, put_index, put_key}
use Rattle.rules.specs.HelperEach.{Turn, list_turns, map_turns}
use Rattle.merging.specs.Counting.{Ascends}
use Rattle.merging.specs.Order.{above, first_of}
use Rattle.merging.proofs.Order.{above_none, above_next, above_step}
use Rattle.places.specs.Children.{none_some, some_eq}

-- there is nothing
abbrev pub is_end : {A : Type 0} → Option A → Bool
is_end none = true
is_end (some a) = false

-- the member k of a map
abbrev pub member_nth : Map → ℕ → Option (Bytes × Json)
member_nth mnil k = none
member_nth (mcons n j l) zero = some (n, j)
member_nth (mcons n j l) (suc k) = member_nth l k

-- the local variables of the turn k: over an object the key is one of them
abbrev pub turn_vars : Bool → Json → ℕ → Bool → LocalVars → LocalVars
turn_vars false j k last x = put_index (jpos k) (put_last (jbool last) (put_first (jbool (eqb k 0)) x))
turn_vars true j k last x = put_index (jpos k) (put_key j (put_last (jbool last) (put_first (jbool (eqb k 0)) x)))

abbrev pub list_turn : ℕ → Json → Bool → Turn
list_turn k j last = record { relative_path = digits k; item = j; key = jpos k; is_first = eqb k 0; set_locals = turn_vars false (jpos k) k last }

abbrev pub map_turn : ℕ → Bytes → Json → Bool → Turn
map_turn k n j last = record { relative_path = n; item = j; key = jstr n; is_first = eqb k 0; set_locals = turn_vars true (jstr n) k last }

-- Lists

no_items_end : (l : Jsons) → no_items l ≡ is_end (get_item l 0)
no_items_end jnil = refl
no_items_end (jcons j l) = refl

pub list_got : (i : ℕ) (l : Jsons) (k : ℕ) (j : Json) → get_item l k ≡ some j → get_elem? (list_turns i l) k ≡ some (list_turn (i + k) j (is_end (get_item l (suc k))))
list_got i jnil k j h = none_some h
list_got i (jcons v l) zero j h =
    let e : i ≡ i + 0 = omega arith in
    ap some (ap (λ (x : Bool). list_turn i v x) (no_items_end l) ∙ ap₂ (λ (n : ℕ) (x : Json). list_turn n x (is_end (get_item l 0))) e (some_eq h))
list_got i (jcons v l) (suc k) j h =
    let e : 1 + i + k ≡ i + suc k = omega arith in
    list_got (1 + i) l k j h ∙ ap (λ (n : ℕ). some (list_turn n j (is_end (get_item l (suc k))))) e

pub list_ends : (i : ℕ) (l : Jsons) (k : ℕ) → is_end (get_elem? (list_turns i l) k) ≡ is_end (get_item l k)
list_ends i jnil k = refl
list_ends i (jcons v l) zero = refl
list_ends i (jcons v l) (suc k) = list_ends (1 + i) l k

-- Objects

no_members_end : (m : Map) → no_members m ≡ is_end (member_nth m 0)
no_members_end mnil = refl
no_members_end (mcons n j l) = refl

pub map_got : (i : ℕ) (m : Map) (k : ℕ) (n : Bytes) (j : Json) → member_nth m k ≡ some (n, j) → get_elem? (map_turns i m) k ≡ some (map_turn (i + k) n j (is_end (member_nth m (suc k))))
map_got i mnil k n j h = none_some h
map_got i (mcons p v l) zero n j h =
    let e : i ≡ i + 0 = omega arith in
    ap some (ap (λ (x : Bool). map_turn i p v x) (no_members_end l) ∙ ap₂ (λ (c : ℕ) (x : Bytes × Json). map_turn c x.0 x.1 (is_end (member_nth l 0))) e (some_eq h))
map_got i (mcons p v l) (suc k) n j h =
    let e : 1 + i + k ≡ i + suc k = omega arith in
    map_got (1 + i) l k n j h ∙ ap (λ (c : ℕ). some (map_turn c n j (is_end (member_nth l (suc k))))) e

pub map_ends : (i : ℕ) (m : Map) (k : ℕ) → is_end (get_elem? (map_turns i m) k) ≡ is_end (member_nth m k)
map_ends i mnil k = refl
map_ends i (mcons n j l) zero = refl
map_ends i (mcons n j l) (suc k) = map_ends (1 + i) l k

-- name, value and key of a turn over an object
pub map_was : (i : ℕ) (m : Map) (k : ℕ) (u : Turn) → get_elem? (map_turns i m) k ≡ some u → (member_nth m k ≡ some (u.relative_path, u.item)) × (u.key ≡ jstr u.relative_path)
map_was i mnil k u h = none_some h
map_was i (mcons n j l) zero u h = let e = some_eq h in (ap (λ (x : Turn). some (x.relative_path, x.item)) e, sym (ap (λ (x : Turn). x.key) e) ∙ ap (λ (x : Turn). jstr x.relative_path) e)
map_was i (mcons n j l) (suc k) u h = map_was (1 + i) l k u h

-- no turn has the number k
pub past_end : {A : Type 0} (l : List A) (k : ℕ) → is_end (get_elem? l k) ≡ true → length l ≤ k
past_end [] k h = omega arith
past_end (a ∷ l) zero h = let z : ◌≡◌ {A = ℕ} 0 1 = cc in absurd (omega arith)
past_end (a ∷ l) (suc k) h =
    let p = past_end l k h in
    omega arith

pub before_end : {A : Type 0} (l : List A) (k : ℕ) (a : A) → get_elem? l k ≡ some a → suc k ≤ length l
before_end [] k a h = none_some h
before_end (b ∷ l) zero a h = omega arith
before_end (b ∷ l) (suc k) a h =
    let p = before_end l k a h in
    omega arith

-- Members by ascending name

first_nth : (m : Map) → first_of m ≡ member_nth m 0
first_nth mnil = refl
first_nth (mcons n j l) = refl

pub first_member : (m : Map) → first_of (above none m) ≡ member_nth m 0
first_member m = ap first_of (above_none m) ∙ first_nth m

-- what stands above the member k is the next one
above_nth : (m : Map) → Ascends m → (q : Option Bytes) (k : ℕ) (n : Bytes) (j : Json) → member_nth (above q m) k ≡ some (n, j) → first_of (above (some n) m) ≡ member_nth (above q m) (suc k)
above_nth m a q zero n j h =
    first_nth (above (some n) m) ∙ ap (λ (x : Map). member_nth x 1) (sym (above_next q m n j a (first_nth (above q m) ∙ h)))
above_nth m a q (suc k) n j h = go (above q m) refl h (λ p e. above_nth m a (some p) k n j e)
  where
    go : (x : Map) → above q m ≡ x → member_nth x (suc k) ≡ some (n, j) → ((p : Bytes) → member_nth (above (some p) m) k ≡ some (n, j) → first_of (above (some n) m) ≡ member_nth (above (some p) m) (suc k))
        → first_of (above (some n) m) ≡ member_nth x (suc (suc k))
    go mnil e f ih = none_some f
    go (mcons p v l) e f ih =
        let g = above_step q m p v l a e in
        ih p (ap (λ (x : Map). member_nth x k) g ∙ f) ∙ ap (λ (x : Map). member_nth x (suc k)) g

pub next_nth : (m : Map) → Ascends m → (k : ℕ) (n : Bytes) (j : Json) → member_nth m k ≡ some (n, j) → first_of (above (some n) m) ≡ member_nth m (suc k)
next_nth m a k n j h = above_nth m a none k n j (ap (λ (x : Map). member_nth x k) (above_none m) ∙ h) ∙ ap (λ (x : Map). member_nth x (suc k)) (above_none m)
