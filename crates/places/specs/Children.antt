-- The walk from a place through those directly inside it.
use Prim.Native.Nat.{ℕ, zero, suc, ◌+◌, ◌-◌, ◌≤◌, ◌<◌}
use Rattle.std.specs.Prelude.{Bool, ◌&&◌, not, List, [], ◌∷◌, ◌++◌, ◌≡◌, ltb, length, drop}
use Rattle.std.proofs.Math.Bool.{true, false}
use Rattle.std.proofs.Math.Option.{Option, none, some}
use Rattle.std.proofs.Math.Path.{refl, sym, ap}
use Rattle.std.proofs.Common.{◌∙◌, subst, add-zero, zero-add, add-one}
use native.Mathlib.Omega.{arith}
use Rattle.std.proofs.Math.Dec.{eqb}
use borrow.Author.Tests.{eqb-true, eqb-false, ltb-true, ltb-false, lt-ltb, le-ltb}
use Rattle.std.proofs.Math.ListN.{get_elem?}
use Rattle.rules.specs.Bytes.{Bytes, pick, byte_at}
use Rattle.rules.specs.Tree.{Tree, tree, Trees, tree_nil, tree_cons}
use Rattle.rules.specs.Plan.{size, sizes, name_of, answer}
use Rattle.places.specs.Places.{start_of, inside, Node, key, replaced, root, places, all_nodes, node_at, tree_at, path_at, live_at, children_from, children}
use Rattle.places.specs.Nodes.{size_positive, some_places, root_node, Stands, StandsAll, stands_inside, stands_first, stands_others, nested, At, node_is, stands_within, to_at, stands_at}

abbrev pub is_object : Bytes → ℕ → Bool
is_object s i = eqb (byte_at s (start_of (tree_at s i))) 123

-- the name or the decimal index of its child c, which is the child j
abbrev pub key_at : Bytes → ℕ → ℕ → ℕ → Bytes
key_at s i j c = key s (is_object s i) j (tree_at s c)

-- the number behind the last value inside the one at i
abbrev pub end_at : Bytes → ℕ → ℕ
end_at s i = i + size (tree_at s i)

-- the value behind the one at c, as long as the one at i goes on
unfoldable pub behind : Bytes → ℕ → ℕ → Option ℕ
behind s i c = pick (ltb (end_at s c) (end_at s i)) (some (end_at s c)) none

-- the last place before n that goes on past c, 0 for none
unfoldable pub around_below : Bytes → ℕ → ℕ → ℕ
around_below s c zero = 0
around_below s c (suc n) = let r = around_below s c n in pick (ltb c (end_at s n)) n r

-- the place that the value at c stands directly inside
unfoldable pub around : Bytes → ℕ → ℕ
around s c = around_below s c c

-- j of those inside i are passed, and the rest, l, stand from c on
pub record Left (s : Bytes) (i j c : ℕ) (l : Trees) : Type 0 where
  pub stands : StandsAll s (all_nodes s) c (path_at s i) (live_at s i) (is_object s i) j l
  pub ends : end_at s i ≡ c + sizes l
  pub are : drop j (children s i) ≡ children_from c l
  pub on : i + 1 + j ≤ c
  pub passed : (k : ℕ) → i < k → k < c → end_at s k ≤ c

pub record Walk (s : Bytes) (i j c : ℕ) : Type 0 where
  pub trees : Trees
  pub left : Left s i j c trees

-- the place c is the child j of the one at i
pub record Child (s : Bytes) (i j c : ℕ) : Type 0 where
  pub is : get_elem? (children s i) j ≡ some c
  pub others : drop j (children s i) ≡ c ∷ drop (suc j) (children s i)
  pub within : c < places s
  pub behind : i + 1 + j ≤ c
  pub fits : end_at s c ≤ end_at s i
  pub passed : (k : ℕ) → i < k → k < c → end_at s k ≤ c
  pub path : path_at s c ≡ path_at s i ++ (key_at s i j c ∷ [])

pub none_some : {A C : Type 0} {a : A} → none ≡ some a → C
none_some h = let z : ◌≡◌ {A = ℕ} 0 1 = cc in absurd (omega arith)

pub some_eq : {A : Type 0} {a b : A} → some a ≡ some b → a ≡ b
some_eq h = cc

getElem_drop : {A : Type 0} (l : List A) (j : ℕ) (x : A) (r : List A) → drop j l ≡ x ∷ r → get_elem? l j ≡ some x
getElem_drop [] zero x r h = let z : ◌≡◌ {A = ℕ} 0 1 = cc in absurd (omega arith)
getElem_drop [] (suc j) x r h = let z : ◌≡◌ {A = ℕ} 0 1 = cc in absurd (omega arith)
getElem_drop (y ∷ l) zero x r h = cc
getElem_drop (y ∷ l) (suc j) x r h = getElem_drop l j x r h

drop_tail : {A : Type 0} (l : List A) (j : ℕ) (x : A) (r : List A) → drop j l ≡ x ∷ r → drop (suc j) l ≡ r
drop_tail [] zero x r h = let z : ◌≡◌ {A = ℕ} 0 1 = cc in absurd (omega arith)
drop_tail [] (suc j) x r h = let z : ◌≡◌ {A = ℕ} 0 1 = cc in absurd (omega arith)
drop_tail (y ∷ l) zero x r h = cc
drop_tail (y ∷ l) (suc j) x r h = drop_tail l j x r h

module _ (s : Bytes) (i : ℕ) where
  pub inside_stands : answer s ≡ 0 → i < places s → StandsAll s (all_nodes s) (i + 1) (path_at s i) (live_at s i) (is_object s i) 0 (inside (tree_at s i))
  inside_stands h lt = go (tree_at s i) (stands_at s h i lt)
    where
      go : (t : Tree) → Stands s (all_nodes s) i (path_at s i) (live_at s i) t
          → StandsAll s (all_nodes s) (i + 1) (path_at s i) (live_at s i) (eqb (byte_at s (start_of t)) 123) 0 (inside t)
      go (tree b m l) q = stands_inside s (all_nodes s) i (path_at s i) (live_at s i) b m l q

  pub left_start : answer s ≡ 0 → i < places s → Left s i 0 (i + 1) (inside (tree_at s i))
  unfolding children
  left_start h lt = record { stands = inside_stands h lt; ends = ends (tree_at s i); are = refl; on = omega arith; passed = λ k a b. absurd (omega arith) }
    where
      ends : (t : Tree) → i + size t ≡ i + 1 + sizes (inside t)
      ends (tree b m l) = omega arith

  pub walk_start : answer s ≡ 0 → i < places s → Walk s i 0 (i + 1)
  walk_start h lt = record { trees = inside (tree_at s i); left = left_start h lt }

  module _ (j c : ℕ) where
    module _ (t : Tree) (l : Trees) (q : Left s i j c (tree_cons t l)) where
      first_stands : Stands s (all_nodes s) c (path_at s i ++ (key s (is_object s i) j t ∷ [])) (live_at s i && not (replaced s (is_object s i) t l)) t
      first_stands = stands_first s (all_nodes s) c (path_at s i) (live_at s i) (is_object s i) j t l q.stands

      pub left_node : node_at s c ≡ record { tree = t; path = path_at s i ++ (key s (is_object s i) j t ∷ []); live = live_at s i && not (replaced s (is_object s i) t l) }
      left_node = node_is s c _ _ t first_stands

      pub left_child : Child s i j c
      left_child = record {
        is = getElem_drop (children s i) j c _ q.are;
        others = q.are ∙ ap (λ (x : List ℕ). c ∷ x) (sym (drop_tail (children s i) j c _ q.are));
        within = omega (arith, stands_within s c _ _ t first_stands, size_positive t);
        behind = q.on;
        fits = omega (arith, q.ends, ap (λ (x : Node). size x.tree) left_node);
        passed = q.passed;
        path =
            ap (λ (x : Node). x.path) left_node
            ∙ ap (λ (x : Tree). path_at s i ++ (key s (is_object s i) j x ∷ [])) (sym (ap (λ (x : Node). x.tree) left_node));
      }

      pub left_on : Left s i (suc j) (c + size t) l
      left_on = record {
        stands = stands_others s (all_nodes s) c (path_at s i) (live_at s i) (is_object s i) j t l q.stands;
        ends = omega (arith, q.ends);
        are = drop_tail (children s i) j c _ q.are;
        on = omega (arith, q.on, size_positive t);
        passed = λ k a b. go k a b (ltb k c) refl;
      }
        where
          go : (k : ℕ) → i < k → k < c + size t → (x : Bool) → ltb k c ≡ x → end_at s k ≤ c + size t
          go k a b true e = omega (arith, q.passed k a (ltb-true k c e))
          go k a b false e = nested s c _ _ t first_stands k (ltb-false k c e) b

    pub walk_child : Walk s i j c → c < end_at s i → Child s i j c
    walk_child w lt = go w.trees w.left
      where
        go : (l : Trees) → Left s i j c l → Child s i j c
        go tree_nil q = absurd (omega (arith, q.ends))
        go (tree_cons t l) q = left_child t l q

    pub walk_on : Walk s i j c → c < end_at s i → Walk s i (suc j) (end_at s c)
    walk_on w lt = go w.trees w.left
      where
        go : (l : Trees) → Left s i j c l → Walk s i (suc j) (end_at s c)
        go tree_nil q = absurd (omega (arith, q.ends))
        go (tree_cons t l) q = record { trees = l; left = rw (ap (λ (x : Node). x.tree) (left_node t l q)) (left_on t l q) }

    pub walk_end : Walk s i j c → end_at s i ≤ c → drop j (children s i) ≡ []
    walk_end w le = go w.trees w.left
      where
        go : (l : Trees) → Left s i j c l → drop j (children s i) ≡ []
        go tree_nil q = q.are
        go (tree_cons t l) q = absurd (omega (arith, q.ends, size_positive t))

    pub walk_low : Walk s i j c → c ≤ end_at s i
    walk_low w = omega (arith, w.left.ends)

-- the list of those inside leads to the walk
module _ (s : Bytes) (i : ℕ) where
  walk_to : (k m d c : ℕ) → Walk s i m d → get_elem? (drop m (children s i)) k ≡ some c → Walk s i (m + k) c × (c < end_at s i)
  walk_to zero m d c w h = go w.trees w.left
    where
      go : (l : Trees) → Left s i m d l → Walk s i (m + zero) c × (c < end_at s i)
      go tree_nil q = none_some (sym (ap (λ (x : List ℕ). get_elem? x 0) q.are) ∙ h)
      go (tree_cons t l) q =
          let e : d ≡ c = some_eq (sym (ap (λ (x : List ℕ). get_elem? x 0) q.are) ∙ h) in
          (rw (add-zero m, ← e) w, omega (arith, q.ends, size_positive t))
  walk_to (suc k) m d c w h = go w.trees w.left (λ e. walk_to k (suc m) (end_at s d) c e)
    where
      go : (l : Trees) → Left s i m d l → (Walk s i (suc m) (end_at s d) → get_elem? (drop (suc m) (children s i)) k ≡ some c → Walk s i (suc m + k) c × (c < end_at s i))
          → Walk s i (m + suc k) c × (c < end_at s i)
      go tree_nil q f = none_some (sym (ap (λ (x : List ℕ). get_elem? x (suc k)) q.are) ∙ h)
      go (tree_cons t l) q f =
          let e : m + suc k ≡ suc m + k = omega arith in
          let r : get_elem? (drop (suc m) (children s i)) k ≡ some c =
          ap (λ (x : List ℕ). get_elem? x k) (drop_tail (children s i) m d _ q.are) ∙ sym (ap (λ (x : List ℕ). get_elem? x (suc k)) q.are) ∙ h in
          rw e (f (walk_on s i m d w (omega (arith, q.ends, size_positive t))) r)

  pub child_walk : (j c : ℕ) → answer s ≡ 0 → i < places s → get_elem? (children s i) j ≡ some c → Walk s i j c × (c < end_at s i)
  child_walk j c h lt e = rw (zero-add j) at (walk_to j 0 (i + 1) c (walk_start s i h lt) e)

  pub is_child : (j c : ℕ) → answer s ≡ 0 → i < places s → get_elem? (children s i) j ≡ some c → Child s i j c
  is_child j c h lt e = let w = child_walk j c h lt e in walk_child s i j c w.0 w.1

-- Each place but the first stands inside another one

pub record Inner (s : Bytes) (c : ℕ) : Type 0 where
  pub up : ℕ
  pub number : ℕ
  pub child : Child s up number c

module _ (s : Bytes) (h : answer s ≡ 0) (c : ℕ) where
  find_up : (fuel i j d : ℕ) → c < fuel + d → Walk s i j d → d ≤ c → c < end_at s i → Inner s c
  find_up zero i j d f w le lt = absurd (omega arith)
  find_up (suc fuel) i j d f w le lt =
      let q = walk_child s i j d w (omega arith) in
      go (eqb c d) refl (ltb c (end_at s d)) refl
      (λ a b. find_up fuel d 0 (d + 1) (omega arith) (walk_start s d h q.within) a b)
      (λ a. find_up fuel i (suc j) (end_at s d) (omega (arith, size_positive (tree_at s d))) (walk_on s i j d w (omega arith)) a lt)
      q
    where
      go : (a : Bool) → eqb c d ≡ a → (b : Bool) → ltb c (end_at s d) ≡ b → (d + 1 ≤ c → c < end_at s d → Inner s c) → (end_at s d ≤ c → Inner s c) → Child s i j d → Inner s c
      go true e b x f g q = record { up = i; number = j; child = rw (eqb-true c d e) q }
      go false e true x f g q = let n = eqb-false c d e in f (omega arith) (ltb-true c (end_at s d) x)
      go false e false x f g q = g (ltb-false c (end_at s d) x)

  pub inner : 0 < c → c < places s → Inner s c
  unfolding places
  inner pos lt = find_up (suc c) 0 0 1 (omega arith) (walk_start s 0 h (some_places s)) (omega arith) (omega (arith, ap (λ (x : Node). size x.tree) (root_node s)))

-- It is the last one before it that goes on past it

module _ (s : Bytes) (i j c : ℕ) (q : Child s i j c) where
  past : c < end_at s i
  past = omega (arith, q.fits, size_positive (tree_at s c))

  around_up : (n : ℕ) → i < n → n ≤ c → around_below s c n ≡ i
  unfolding around_below
  around_up zero a b = absurd (omega arith)
  around_up (suc n) a b = go (eqb i n) refl (λ x. around_up n x (omega arith))
    where
      go : (x : Bool) → eqb i n ≡ x → (i < n → around_below s c n ≡ i) → pick (ltb c (end_at s n)) n (around_below s c n) ≡ i
      go true e f = let z = eqb-true i n e in rw (← z, lt-ltb c (end_at s i) past)
      go false e f =
          let z = eqb-false i n e in
          let lt : i < n = omega arith in
          rw (le-ltb c (end_at s n) (q.passed n lt (omega arith))) (f lt)

  pub child_around : i ≡ around s c
  unfolding around
  child_around = sym (around_up c (omega (arith, q.behind)) (omega arith))

pub record Around (s : Bytes) (c : ℕ) : Type 0 where
  pub number : ℕ
  pub child : Child s (around s c) number c
  pub before : around s c < c

pub around_is : (s : Bytes) (c : ℕ) → answer s ≡ 0 → 0 < c → c < places s → Around s c
around_is s c h pos lt =
    let n = inner s h c pos lt in
    let e = child_around s n.up n.number c n.child in
    record { number = n.number; child = subst (λ (i : ℕ). Child s i n.number c) e n.child; before = omega (arith, n.child.behind) }
