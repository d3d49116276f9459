-- The members of an object by their places: of equal names the last one counts.
use Rattle.std.specs.Prelude.{ℕ, zero, suc, ◌+◌, ◌<◌, Bool, true, false, ◌&&◌, ◌||◌, not, List, [], ◌∷◌, ◌≡◌, drop}
use Rattle.std.proofs.Math.Option.{Option, none, some}
use Rattle.std.proofs.Math.Path.{refl, ap}
use Rattle.std.proofs.Common.{sym, ◌∙◌, arith}
use Rattle.rules.specs.Bytes.{Bytes, pick, same}
use Rattle.rules.specs.Order.{differ, same_refl, same_eq}
use Rattle.rules.specs.Json.{jobj, Map, mnil, get_member}
use Rattle.rules.specs.Scan.{saying}
use Rattle.rules.specs.Tree.{Tree, Trees, tree_nil, tree_cons}
use Rattle.rules.specs.Plan.{size, name_of, answer, meaning, members_onto}
use Rattle.rules.specs.PlanLaws.{get_insert}
use Rattle.places.specs.Places.{inside, has_name, Node, replaced, places, all_nodes, tree_at, path_at, live_at, json_at, name_at}
use Rattle.places.specs.Places.{children_from, children, last_onto, member, value_at}
use Rattle.places.specs.Nodes.{StandsAll, stands_others}
use Rattle.places.specs.Children.{is_object, end_at, inside_stands, Left, left_node, left_child, left_on, Walk, walk_start, Child, child_walk, none_some, some_eq}
use Rattle.places.specs.Items.{first_json, is_map}
use Rattle.places.specs.Members.{Latest}

module _ (s : Bytes) (p : List Bytes) (a named : Bool) (w : Bytes) where
  get_members : (l : Trees) (n j : ℕ) (acc : Map) (best : Option ℕ) → StandsAll s (all_nodes s) n p a named j l → get_member acc w ≡ value_at s best
      → get_member (members_onto s acc l) w ≡ value_at s (last_onto s w best (children_from n l))
  get_members tree_nil n j acc best h e = e
  get_members (tree_cons t l) n j acc best h e =
      let q = first_json s n p a named j t l h in
      get_members l (n + size t) (suc j) _ _ (stands_others s (all_nodes s) n p a named j t l h)
      (get_insert (saying s (name_of t)) (meaning s t) acc w ∙ step (same (saying s (name_of t)) w) q.0 ∙ ap (λ (x : Bytes). value_at s (pick (same x w) (some n) best)) (sym q.1))
    where
      step : (b : Bool) → json_at s n ≡ meaning s t → pick b (some (meaning s t)) (get_member acc w) ≡ value_at s (pick b (some n) best)
      step true q = ap some (sym q)
      step false q = e

  -- none of them has the name
  pub last_none : (l : Trees) (n j : ℕ) (best : Option ℕ) → StandsAll s (all_nodes s) n p a named j l → has_name s w l ≡ false → last_onto s w best (children_from n l) ≡ best
  last_none tree_nil n j best h e = refl
  last_none (tree_cons t l) n j best h e =
      go (same (saying s (name_of t)) w) refl e (λ f b. last_none l (n + size t) (suc j) b (stands_others s (all_nodes s) n p a named j t l h) f)
    where
      go : (b : Bool) → same (saying s (name_of t)) w ≡ b → (b || has_name s w l) ≡ false
          → (has_name s w l ≡ false → (x : Option ℕ) → last_onto s w x (children_from (n + size t) l) ≡ x)
          → last_onto s w (pick (same (name_at s n) w) (some n) best) (children_from (n + size t) l) ≡ best
      go true q k f = differ k
      go false q k f = f k _ ∙ ap (λ (b : Bool). pick b (some n) best) (ap (λ (x : Bytes). same x w) (first_json s n p a named j t l h).1 ∙ q)

module _ (s : Bytes) (h : answer s ≡ 0) (i : ℕ) (lt : i < places s) where
  -- the member w of an object
  pub object_member : (m : Map) → json_at s i ≡ jobj m → (w : Bytes) → get_member m w ≡ value_at s (member s i w)
  unfolding member children
  object_member m e w =
      ap (λ (x : Map). get_member x w) (sym (is_map s i m e).means)
      ∙ get_members s (path_at s i) (live_at s i) (is_object s i) w (inside (tree_at s i)) (i + 1) 0 mnil none (inside_stands s i h lt) refl

-- a child that no later one replaces
module _ (s : Bytes) (i j c : ℕ) (t : Tree) (l : Trees) (h : Left s i j c (tree_cons t l)) where
  child_name : name_at s c ≡ saying s (name_of t)
  unfolding name_at
  child_name = ap (λ (x : Node). saying s (name_of x.tree)) (left_node s i j c t l h)

  live_child : has_name s (name_at s c) l ≡ false → live_at s c ≡ live_at s i
  live_child e = ap (λ (x : Node). x.live) (left_node s i j c t l h) ∙ rw (← child_name, e) (go (live_at s i) (is_object s i))
    where
      go : (x y : Bool) → (x && not (y && false)) ≡ x
      go true true = refl
      go true false = refl
      go false y = refl

module _ (s : Bytes) (i : ℕ) (w : Bytes) where
  latest : (l : Trees) (j c : ℕ) (best : Option ℕ) (r : ℕ) → Left s i j c l → has_name s w l ≡ true → last_onto s w best (children_from c l) ≡ some r → Latest s i w r
  latest tree_nil j c best r h e q = differ (sym e)
  latest (tree_cons t l) j c best r h e q =
      go (has_name s w l) refl (same (saying s (name_of t)) w) refl e (λ x. latest l (suc j) (c + size t) _ r (left_on s i j c t l h) x q)
    where
      here : name_at s c ≡ w → has_name s w l ≡ false → Latest s i w c
      here n x = record { number = j; child = left_child s i j c t l h; name = n; live = live_child s i j c t l h (rw n x) }

      go : (x : Bool) → has_name s w l ≡ x → (y : Bool) → same (saying s (name_of t)) w ≡ y → (y || has_name s w l) ≡ true → (has_name s w l ≡ true → Latest s i w r) → Latest s i w r
      go true x y z k f = f x
      go false x false z k f = differ (sym k ∙ x)
      go false x true z k f =
          let n : name_at s c ≡ w = child_name s i j c t l h ∙ same_eq (saying s (name_of t)) w z in
          let o = left_on s i j c t l h in
          let b : some c ≡ some r =
          sym (last_none s (path_at s i) (live_at s i) (is_object s i) w l (c + size t) (suc j) _ o.stands x ∙ ap (λ (v : Bool). pick v (some c) best) (ap (λ (v : Bytes). same v w) (child_name s i j c t l h) ∙ z))
          ∙ q in
          rw (← some_eq b) (here n x)

  never : (l : Trees) (j c r : ℕ) → Left s i j c l → has_name s w l ≡ false → last_onto s w none (children_from c l) ≡ some r → ⊥
  never l j c r h e q = none_some (sym (last_none s (path_at s i) (live_at s i) (is_object s i) w l c j none h.stands e) ∙ q)

  -- the place that a name leads to
  pub member_latest : answer s ≡ 0 → i < places s → (c : ℕ) → member s i w ≡ some c → Latest s i w c
  unfolding member
  member_latest h lt c q = go (walk_start s i h lt)
    where
      go : Walk s i 0 (i + 1) → Latest s i w c
      go k = by (has_name s w k.trees) refl
        where
          r : last_onto s w none (children_from (i + 1) k.trees) ≡ some c
          r = ap (last_onto s w none) (sym k.left.are) ∙ q

          by : (x : Bool) → has_name s w k.trees ≡ x → Latest s i w c
          by true e = latest k.trees 0 (i + 1) none c k.left e r
          by false e = absurd (never k.trees 0 (i + 1) c k.left e r)

-- Live places

-- behind the place c no name changes what was found
found_last : (s : Bytes) (w : Bytes) (l : List ℕ) (j c : ℕ) (best : Option ℕ) (r : List ℕ) → drop j l ≡ c ∷ r → same (name_at s c) w ≡ true
    → ((b : Option ℕ) → last_onto s w b r ≡ b) → last_onto s w best l ≡ some c
found_last s w [] zero c best r h e f = let z : ◌≡◌ {A = ℕ} 0 1 = cc in absurd (omega arith)
found_last s w [] (suc j) c best r h e f = let z : ◌≡◌ {A = ℕ} 0 1 = cc in absurd (omega arith)
found_last s w (x ∷ l) zero c best r h e f =
    let a : x ≡ c = cc in
    let b : l ≡ r = cc in
    rw (a, b, e) (f (some c))
found_last s w (x ∷ l) (suc j) c best r h e f = found_last s w l j c _ r h e f

module _ (s : Bytes) (i j c : ℕ) where
  -- what stands in a live place is live, unless a later member replaces it
  pub live_up : (t : Tree) (l : Trees) → Left s i j c (tree_cons t l) → live_at s c ≡ true → (live_at s i ≡ true) × (replaced s (is_object s i) t l ≡ false)
  live_up t l h e = go (live_at s i) (replaced s (is_object s i) t l) (sym (ap (λ (x : Node). x.live) (left_node s i j c t l h)) ∙ e)
    where
      go : (x y : Bool) → (x && not y) ≡ true → (x ≡ true) × (y ≡ false)
      go true true k = differ (sym k)
      go true false k = (refl, refl)
      go false y k = differ (sym k)

module _ (s : Bytes) (h : answer s ≡ 0) (i : ℕ) (lt : i < places s) (j c : ℕ) (q : Child s i j c) where
  -- by what stands from c on
  pub by_left : (C : Type 0) → ((t : Tree) (l : Trees) → Left s i j c (tree_cons t l) → C) → C
  by_left C f = go w.0.trees w.0.left
    where
      w : Walk s i j c × (c < end_at s i)
      w = child_walk s i j c h lt q.is

      go : (l : Trees) → Left s i j c l → C
      go tree_nil k = absurd (omega (arith, k.ends, w.1))
      go (tree_cons t l) k = f t l k

  pub live_parent : live_at s c ≡ true → live_at s i ≡ true
  live_parent e = by_left _ (λ t l k. (live_up s i j c t l k e).0)

  pub live_item : is_object s i ≡ false → live_at s c ≡ live_at s i
  live_item e = by_left _ (λ t l k. ap (λ (x : Node). x.live) (left_node s i j c t l k) ∙ rw e (go (live_at s i)))
    where
      go : (x : Bool) → (x && true) ≡ x
      go true = refl
      go false = refl

  pub live_member : is_object s i ≡ true → live_at s c ≡ true → member s i (name_at s c) ≡ some c
  unfolding member
  live_member e v = by_left _ (λ t l k.
      let o = left_on s i j c t l k in
      let n = rw (e, ← child_name s i j c t l k) at (live_up s i j c t l k v).1 in
      found_last s (name_at s c) (children s i) j c none _ k.are (same_refl (name_at s c))
      (λ b. last_none s (path_at s i) (live_at s i) (is_object s i) (name_at s c) l (c + size t) (suc j) b o.stands n))
