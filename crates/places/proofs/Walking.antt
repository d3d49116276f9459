-- The loops through those directly inside a place.
use Rattle.std.specs.Prelude.{Option as RustOption, Some, None}
use Prim.Native.Nat.{ℕ, zero, suc, ◌+◌, ◌-◌, ◌≤◌, ◌<◌}
use mathlib.Core.Bool.{Bool, true, false, ◌&&◌, not}
use mathlib.Core.List.{List, [], ◌∷◌}
use mathlib.Core.Option.{Option, none, some}
use mathlib.Core.Path.{◌≡◌, refl, sym, ap, ◌∙◌, subst}
use native.Mathlib.Omega.{arith}
use lib.ListN.{length, drop, get_elem?, length-drop}
use lib.Dec.{ltb}
use borrow.Author.Tests.{ltb-true, ltb-false}
use Rattle.rules.specs.Bytes.{Bytes, pick, same, before}
use Rattle.rules.specs.Order.{differ}
use Rattle.rules.specs.Scan.{saying}
use Rattle.rules.specs.Plan.{size, name_of, answer}
use Rattle.places.specs.Places.{Node, root, places, tree_at, name_at, children, last_onto, member, above, better, least_onto, next_member}
use Rattle.places.specs.Nodes.{size_positive, some_places, root_node}
use Rattle.places.specs.Children.{end_at, Walk, walk_start, walk_child, walk_on, walk_end, Child, child_walk}
use Rattle.places.specs.Kinds.{found, numbered, found_name, FoundIn}

pub none_at : {A : Type 0} (l : List A) (j k : ℕ) → drop j l ≡ [] → j ≤ k → none ≡ get_elem? l k
none_at [] j k h le = refl
none_at (x ∷ l) zero k h le = let z : ◌≡◌ {A = ℕ} 0 1 = cc in absurd (omega arith)
none_at (x ∷ l) (suc j) zero h le = absurd (omega arith)
none_at (x ∷ l) (suc j) (suc k) h le = none_at l j k h (omega arith)

module _ (s : Bytes) (i : ℕ) where
  -- on the way there are places
  pub walk_within : (j c : ℕ) → Walk s i j c → c < end_at s i → c < places s
  walk_within j c w lt = (walk_child s i j c w lt).within

  -- the place k of them is looked for, and `left` are to be passed
  pub record Passing (k left c : ℕ) : Type 0 where
    pub number : ℕ
    pub walk : Walk s i number c
    pub sum : number + left ≡ k

  module _ (k left c : ℕ) (w : Passing k left c) where
    pub pass_found : c < end_at s i → left ≡ 0 → some c ≡ get_elem? (children s i) k
    pass_found lt z =
        let e : w.number ≡ k = omega (arith, w.sum) in
        sym (walk_child s i w.number c w.walk lt).is ∙ ap (get_elem? (children s i)) e

    pub pass_on : (n : ℕ) → c < end_at s i → (left ≡ 0 → ⊥) → n ≡ end_at s c → Passing k (left - 1) n
    pass_on n lt ne e = record { number = suc w.number; walk = subst (Walk s i (suc w.number)) (sym e) (walk_on s i w.number c w.walk lt); sum = omega (arith, w.sum) }

    pub pass_none : end_at s i ≤ c → none ≡ get_elem? (children s i) k
    pass_none le = none_at (children s i) w.number k (walk_end s i w.number c w.walk le) (omega (arith, w.sum))

  -- the value behind the child j
  module _ (h : answer s ≡ 0) (lt : i < places s) (j c n : ℕ) (e : n ≡ end_at s c) (q : get_elem? (children s i) j ≡ some c) where
    next_walk : Walk s i (suc j) n
    next_walk = let w = child_walk s i j c h lt q in subst (Walk s i (suc j)) (sym e) (walk_on s i j c w.0 w.1)

    pub next_found : n < end_at s i → some n ≡ get_elem? (children s i) (suc j)
    next_found l = sym (walk_child s i (suc j) n next_walk l).is

    pub next_none : end_at s i ≤ n → none ≡ get_elem? (children s i) (suc j)
    next_none l = none_at (children s i) (suc j) (suc j) (walk_end s i (suc j) n next_walk l) (omega arith)

  -- Counting

  pub count_end : (n c : ℕ) → Walk s i n c → n ≤ length (children s i) → end_at s i ≤ c → n ≡ length (children s i)
  count_end n c w le l = omega (arith, length-drop n (children s i), ap length (walk_end s i n c w l))

  pub count_more : (n c : ℕ) → Walk s i n c → n ≤ length (children s i) → c < end_at s i → suc n ≤ length (children s i)
  count_more n c w le l = omega (arith, length-drop n (children s i), ap length (walk_child s i n c w l).others)

  -- The last of a name

  pub record Seeking (w : Bytes) (c : ℕ) (best : Option ℕ) : Type 0 where
    pub number : ℕ
    pub walk : Walk s i number c
    pub is : member s i w ≡ last_onto s w best (drop number (children s i))

  pub seek_start : answer s ≡ 0 → i < places s → (w : Bytes) → Seeking w (i + 1) none
  unfolding member
  seek_start h lt w = record { number = 0; walk = walk_start s i h lt; is = refl }

  module _ (w : Bytes) (c : ℕ) (best : Option ℕ) (q : Seeking w c best) where
    pub seek_on : (n : ℕ) (t : Bool) (r : Option ℕ) → c < end_at s i → n ≡ end_at s c → t ≡ same (name_at s c) w → r ≡ pick t (some c) best → Seeking w n r
    seek_on n t r lt e f g = record {
      number = suc q.number;
      walk = subst (Walk s i (suc q.number)) (sym e) (walk_on s i q.number c q.walk lt);
      is =
          q.is ∙ ap (last_onto s w best) (walk_child s i q.number c q.walk lt).others
          ∙ ap (λ (x : Option ℕ). last_onto s w x (drop (suc q.number) (children s i))) (sym (g ∙ ap (λ (b : Bool). pick b (some c) best) f));
    }

    pub seek_end : end_at s i ≤ c → best ≡ member s i w
    seek_end le = sym (q.is ∙ ap (last_onto s w best) (walk_end s i q.number c q.walk le))

  -- The least above a name

  pub record Choosing (after : Option Bytes) (c : ℕ) (best : Option ℕ) : Type 0 where
    pub number : ℕ
    pub walk : Walk s i number c
    pub is : next_member s i after ≡ least_onto s after best (drop number (children s i))

  pub choose_start : answer s ≡ 0 → i < places s → (after : Option Bytes) → Choosing after (i + 1) none
  unfolding next_member
  choose_start h lt after = record { number = 0; walk = walk_start s i h lt; is = refl }

  module _ (after : Option Bytes) (c : ℕ) (best : Option ℕ) (q : Choosing after c best) where
    pub choose_on : (n : ℕ) (t : Bool) (r : Option ℕ) → c < end_at s i → n ≡ end_at s c → t ≡ better s after best c → r ≡ pick t (some c) best → Choosing after n r
    choose_on n t r lt e f g = record {
      number = suc q.number;
      walk = subst (Walk s i (suc q.number)) (sym e) (walk_on s i q.number c q.walk lt);
      is =
          q.is ∙ ap (least_onto s after best) (walk_child s i q.number c q.walk lt).others
          ∙ ap (λ (x : Option ℕ). least_onto s after x (drop (suc q.number) (children s i))) (sym (g ∙ ap (λ (b : Bool). pick b (some c) best) f));
    }

    pub choose_end : end_at s i ≤ c → best ≡ next_member s i after
    choose_end le = sym (q.is ∙ ap (least_onto s after best) (walk_end s i q.number c q.walk le))

-- Numbers for places

pub number_pick : (t : Bool) (c best r : ℕ) → 0 < c → r ≡ pick t c best → numbered r ≡ pick t (some c) (numbered best)
number_pick true zero best r lt e = absurd (omega arith)
number_pick true (suc c) best r lt e = ap numbered e
number_pick false c best r lt e = ap numbered e

-- what was found is a place
pub in_pick : (s : Bytes) (r old : RustOption ℕ) (t : Bool) (c : ℕ) → found r ≡ pick t (some c) (found old) → c < places s → FoundIn s old → FoundIn s r
in_pick s None old t c e lt h = tt
in_pick s (Some p) old true c e lt h = let z : p ≡ c = cc in rw z lt
in_pick s (Some p) (Some q) false c e lt h = let z : p ≡ q = cc in rw z h
in_pick s (Some p) None false c e lt h = let z : ◌≡◌ {A = ℕ} 0 1 = cc in absurd (omega arith)

-- Up from a place: it stands from the child d of i on, inside i
pub record Rising (s : Bytes) (c i d : ℕ) : Type 0 where
  pub number : ℕ
  pub walk : Walk s i number d
  pub place : i < places s
  pub low : d ≤ c
  pub high : c < end_at s i

pub rise_start : (s : Bytes) (c : ℕ) → answer s ≡ 0 → 0 < c → c < places s → Rising s c 0 1
unfolding places
rise_start s c h pos lt = record {
  number = 0;
  walk = walk_start s 0 h (some_places s);
  place = some_places s;
  low = pos;
  high = omega (arith, ap (λ (x : Node). size x.tree) (root_node s));
}

module _ (s : Bytes) (h : answer s ≡ 0) (c i d : ℕ) (q : Rising s c i d) where
  pub rise_child : Child s i q.number d
  rise_child = walk_child s i q.number d q.walk (omega (arith, q.low, q.high))

  pub rise_on : (n x y : ℕ) (t : Bool) → ltb c n ≡ t → n ≡ end_at s d → x ≡ pick (ltb c n) d i → y ≡ pick (ltb c n) (d + 1) n → (d ≡ c → ⊥) → Rising s c x y
  rise_on n x y true e hn hx hy ne =
      let u : x ≡ d = hx ∙ rw e in
      let v : y ≡ d + 1 = hy ∙ rw e in
      rw (u, v) (record {
        number = 0;
        walk = walk_start s d h rise_child.within;
        place = rise_child.within;
        low = omega (arith, q.low);
        high = omega (arith, ltb-true c n e);
      })
  rise_on n x y false e hn hx hy ne =
      let u : x ≡ i = hx ∙ rw e in
      let v : y ≡ n = hy ∙ rw e in
      rw (u, v, hn) (record {
        number = suc q.number;
        walk = walk_on s i q.number d q.walk (omega (arith, q.low, q.high));
        place = q.place;
        low = omega (arith, ltb-false c n e);
        high = q.high;
      })

  pub rise_up : (n y : ℕ) (t : Bool) → ltb c n ≡ t → n ≡ end_at s d → y ≡ pick (ltb c n) (d + 1) n → d < y
  rise_up n y true e hn hy =
      let u : y ≡ d + 1 = hy ∙ rw e in
      omega arith
  rise_up n y false e hn hy =
      let u : y ≡ n = hy ∙ rw e in
      omega (arith, size_positive (tree_at s d))

-- Comparisons of names

module _ (s : Bytes) (p c a b : ℕ) (r : Bool) (h : r ≡ before (saying s a) (saying s b)) (ha : a ≡ name_of (tree_at s p)) (hb : b ≡ name_of (tree_at s c)) where
  pub names_by : r ≡ before (name_at s p) (name_at s c)
  unfolding name_at
  names_by = h ∙ ap (λ (x : ℕ). before (saying s x) (saying s b)) ha ∙ ap (λ (x : ℕ). before (saying s (name_of (tree_at s p))) (saying s x)) hb

  pub above_by : (after : RustOption ℕ) → after ≡ Some p → r ≡ above (found_name s after) (name_at s c)
  above_by after e = names_by ∙ ap (λ (x : RustOption ℕ). above (found_name s x) (name_at s c)) (sym e)

  -- the best one so far stays
  pub not_better : (after : Option Bytes) (best : RustOption ℕ) → best ≡ Some p → r ≡ true → false ≡ better s after (found best) c
  not_better after best e u = rw (e, sym names_by ∙ u) (go (above after (name_at s c)))
    where
      go : (x : Bool) → false ≡ (x && false)
      go true = refl
      go false = refl

  pub better_by : (after : Option Bytes) (best : RustOption ℕ) (t : Bool) → best ≡ Some p → r ≡ false → t ≡ above after (name_at s c) → t ≡ better s after (found best) c
  better_by after best t e u h = rw (e, sym names_by ∙ u) (h ∙ go (above after (name_at s c)))
    where
      go : (x : Bool) → x ≡ (x && true)
      go true = refl
      go false = refl

pub alone_better : (s : Bytes) (after : Option Bytes) (best : RustOption ℕ) (c : ℕ) (t : Bool) → best ≡ None → t ≡ above after (name_at s c) → t ≡ better s after (found best) c
alone_better s after best c t e h = rw e h

pub says_by : (s : Bytes) (c a : ℕ) (w : Bytes) (r : Bool) → r ≡ same (saying s a) w → a ≡ name_of (tree_at s c) → r ≡ same (name_at s c) w
unfolding name_at
says_by s c a w r h e = h ∙ ap (λ (x : ℕ). same (saying s x) w) e

-- a negated test
pub no_not : (t : Bool) → not t ≡ true → t ≡ false
no_not true h = differ (sym h)
no_not false h = refl

pub yes_not : (t : Bool) → not t ≡ false → t ≡ true
yes_not true h = refl
yes_not false h = differ h
