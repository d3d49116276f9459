-- The values of a list by their places.
use Rattle.std.specs.Prelude.{ℕ, zero, suc, ◌+◌, ◌<◌, Bool, ◌||◌, List, length}
use Rattle.std.proofs.Math.Bool.{true, false}
use Rattle.std.proofs.Math.Option.{Option, none, some}
use Rattle.std.proofs.Math.Path.{◌≡◌, refl, sym, ap}
use Rattle.std.proofs.Common.{◌∙◌, arith, eqb-true, eq-eqb}
use Rattle.std.proofs.Math.Dec.{eqb}
use Rattle.std.proofs.Math.ListN.{get_elem?}
use Rattle.rules.specs.Bytes.{Bytes, pick, maybe, byte_at}
use Rattle.rules.specs.Order.{differ}
use Rattle.rules.specs.Json.{Json, jnull, jbool, jpos, jneg, jstr, jarr, jobj, Jsons, jnil, jcons, Map, mnil, get_item}
use Rattle.rules.specs.Scan.{saying, magnitude}
use Rattle.rules.specs.Tree.{Tree, tree, Trees, tree_nil, tree_cons}
use Rattle.rules.specs.Plan.{size, name_of, answer, scalar_at, meaning, meanings, members_onto}
use Rattle.places.specs.Places.{start_of, inside, Node, places, all_nodes, tree_at, path_at, live_at, json_at, name_at, children_from, children, value_at, items_from, count_items}
use Rattle.places.specs.Kinds.{members_of}
use Rattle.places.specs.Nodes.{StandsAll, stands_first, stands_others, node_is}
use Rattle.places.specs.Children.{is_object, inside_stands}

-- lists and objects begin with their own bytes

-- 1 for a list, 2 for an object
abbrev holder : Json → ℕ
holder jnull = 0
holder (jbool b) = 0
holder (jpos n) = 0
holder (jneg n) = 0
holder (jstr s) = 0
holder (jarr l) = 1
holder (jobj m) = 2

scalar_holds : (s : Bytes) (i : ℕ) → holder (scalar_at s i) ≡ 0
unfolding scalar_at
scalar_holds s i = go (eqb (byte_at s i) 34) (eqb (byte_at s i) 116) (eqb (byte_at s i) 102) (eqb (byte_at s i) 110) (eqb (byte_at s i) 45)
  where
    go : (a b c d e : Bool)
        → holder (pick a (jstr (saying s i)) (pick b (jbool true) (pick c (jbool false) (pick d jnull (pick e (jneg (magnitude s i)) (jpos (magnitude s i))))))) ≡ 0
    go true b c d e = refl
    go false true c d e = refl
    go false false true d e = refl
    go false false false true e = refl
    go false false false false true = refl
    go false false false false false = refl

module _ (s : Bytes) where
  pub record IsList (i : ℕ) (v : Jsons) : Type 0 where
    pub opens : byte_at s (start_of (tree_at s i)) ≡ 91
    pub means : meanings s (inside (tree_at s i)) ≡ v

  pub record IsObject (i : ℕ) (m : Map) : Type 0 where
    pub opens : byte_at s (start_of (tree_at s i)) ≡ 123
    pub means : members_onto s mnil (inside (tree_at s i)) ≡ m

  pub is_list : (i : ℕ) (v : Jsons) → json_at s i ≡ jarr v → IsList i v
  unfolding json_at
  is_list i v h = go (tree_at s i) refl h
    where
      pick_list : (b n : ℕ) (l : Trees) (x y : Bool) → eqb (byte_at s b) 91 ≡ x
          → pick x (jarr (meanings s l)) (pick y (jobj (members_onto s mnil l)) (scalar_at s b)) ≡ jarr v → (byte_at s b ≡ 91) × (meanings s l ≡ v)
      pick_list b n l true y e q = (eqb-true (byte_at s b) 91 e, cc)
      pick_list b n l false true e q = let z : ◌≡◌ {A = ℕ} 2 1 = ap holder q in absurd (omega arith)
      pick_list b n l false false e q = absurd (omega (arith, sym (scalar_holds s b) ∙ ap holder q))

      go : (t : Tree) → tree_at s i ≡ t → meaning s t ≡ jarr v → IsList i v
      go (tree b n l) e q =
          let r = pick_list b n l (eqb (byte_at s b) 91) (eqb (byte_at s b) 123) refl q in
          record { opens = rw e r.0; means = rw e r.1 }

  pub is_map : (i : ℕ) (m : Map) → json_at s i ≡ jobj m → IsObject i m
  unfolding json_at
  is_map i m h = go (tree_at s i) refl h
    where
      pick_map : (b n : ℕ) (l : Trees) (x y : Bool) → eqb (byte_at s b) 123 ≡ y
          → pick x (jarr (meanings s l)) (pick y (jobj (members_onto s mnil l)) (scalar_at s b)) ≡ jobj m → (byte_at s b ≡ 123) × (members_onto s mnil l ≡ m)
      pick_map b n l true y e q = let z : ◌≡◌ {A = ℕ} 1 2 = ap holder q in absurd (omega arith)
      pick_map b n l false true e q = (eqb-true (byte_at s b) 123 e, cc)
      pick_map b n l false false e q = absurd (omega (arith, sym (scalar_holds s b) ∙ ap holder q))

      go : (t : Tree) → tree_at s i ≡ t → meaning s t ≡ jobj m → IsObject i m
      go (tree b n l) e q =
          let r = pick_map b n l (eqb (byte_at s b) 91) (eqb (byte_at s b) 123) refl q in
          record { opens = rw e r.0; means = rw e r.1 }

  pub object_at : (i : ℕ) → byte_at s (start_of (tree_at s i)) ≡ 123 → json_at s i ≡ jobj (members_of (json_at s i))
  unfolding json_at
  object_at i h = go (tree_at s i) h
    where
      go : (t : Tree) → byte_at s (start_of t) ≡ 123 → meaning s t ≡ jobj (members_of (meaning s t))
      go (tree b m l) f = rw f

-- the value of the first one
pub first_json : (s : Bytes) (n : ℕ) (p : List Bytes) (a named : Bool) (k : ℕ) (t : Tree) (l : Trees) → StandsAll s (all_nodes s) n p a named k (tree_cons t l)
    → (json_at s n ≡ meaning s t) × (name_at s n ≡ saying s (name_of t)) × (size (tree_at s n) ≡ size t)
unfolding json_at name_at
first_json s n p a named k t l h =
    let e : tree_at s n ≡ t = ap (λ (x : Node). x.tree) (node_is s n _ _ t (stands_first s (all_nodes s) n p a named k t l h)) in
    (ap (meaning s) e, ap (λ (x : Tree). saying s (name_of x)) e, ap size e)

module _ (s : Bytes) (p : List Bytes) (a named : Bool) where
  get_items : (l : Trees) (n j k : ℕ) → StandsAll s (all_nodes s) n p a named j l → get_item (meanings s l) k ≡ value_at s (get_elem? (children_from n l) k)
  get_items tree_nil n j k h = refl
  get_items (tree_cons t l) n j zero h = ap some (sym (first_json s n p a named j t l h).0)
  get_items (tree_cons t l) n j (suc k) h = get_items l (n + size t) (suc j) k (stands_others s (all_nodes s) n p a named j t l h)

  rest_items : (l : Trees) (n j k : ℕ) → StandsAll s (all_nodes s) n p a named j l
      → items_from k (meanings s l) ≡ maybe (get_elem? (children_from n l) k) jnil (λ c. jcons (json_at s c) (items_from (suc k) (meanings s l)))
  rest_items tree_nil n j zero h = refl
  rest_items tree_nil n j (suc k) h = refl
  rest_items (tree_cons t l) n j zero h = ap (λ (x : Json). jcons x (meanings s l)) (sym (first_json s n p a named j t l h).0)
  rest_items (tree_cons t l) n j (suc k) h = rest_items l (n + size t) (suc j) k (stands_others s (all_nodes s) n p a named j t l h)

count_all : (s : Bytes) (l : Trees) (n : ℕ) → count_items (meanings s l) ≡ length (children_from n l)
count_all s tree_nil n = refl
count_all s (tree_cons t l) n = ap suc (count_all s l (n + size t))

module _ (s : Bytes) (h : answer s ≡ 0) (i : ℕ) (lt : i < places s) (v : Jsons) (e : json_at s i ≡ jarr v) where
  -- the value k
  pub list_item : (k : ℕ) → get_item v k ≡ value_at s (get_elem? (children s i) k)
  unfolding children
  list_item k =
      ap (λ (x : Jsons). get_item x k) (sym (is_list s i v e).means)
      ∙ get_items s (path_at s i) (live_at s i) (is_object s i) (inside (tree_at s i)) (i + 1) 0 k (inside_stands s i h lt)

  -- value by value
  pub list_rest : (k : ℕ) → items_from k v ≡ maybe (get_elem? (children s i) k) jnil (λ c. jcons (json_at s c) (items_from (suc k) v))
  unfolding children
  list_rest k =
      rw (← (is_list s i v e).means) (rest_items s (path_at s i) (live_at s i) (is_object s i) (inside (tree_at s i)) (i + 1) 0 k (inside_stands s i h lt))

  pub list_count : count_items v ≡ length (children s i)
  unfolding children
  list_count = rw (← (is_list s i v e).means) (count_all s (inside (tree_at s i)) (i + 1))
