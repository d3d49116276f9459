-- The path of a live place leads to it, and is in its plain spelling.
use Rattle.std.specs.Prelude.{ℕ, zero, suc, ◌+◌, ◌<◌, Bool, ◌||◌, List, [], ◌∷◌, ◌++◌, ◌≡◌}
use Rattle.std.proofs.Math.Bool.{true, false}
use Rattle.std.proofs.Common.{append_assoc, append-nil, sym, ◌∙◌, arith, eqb-true}
use Rattle.std.proofs.Math.Option.{Option, some}
use Rattle.std.proofs.Math.Path.{refl, ap}
use Rattle.std.proofs.Math.Dec.{eqb}
use Rattle.std.proofs.Math.ListN.{get_elem?}
use Rattle.rules.specs.Bytes.{Bytes, pick, byte_at, digits}
use Rattle.rules.specs.Order.{differ}
use Rattle.rules.specs.Json.{Json, Jsons, jarr, jobj, Map, mnil, get_item, get_member}
use Rattle.rules.specs.Error.{Got, got, wth}
use Rattle.rules.specs.Context.{parse_usize, get_data, get_all, plain_path, remove_parent}
use Rattle.rules.specs.Tree.{Tree, tree, Trees, is_open}
use Rattle.rules.specs.Plan.{answer, plan, scalar_at, meaning, meanings, members_onto}
use Rattle.rules.specs.PlanLaws.{plan_meaning}
use Rattle.decimal.proofs.RoundTrip.{parse_written}
use Rattle.places.specs.Places.{start_of, inside, Node, key, places, tree_at, path_at, live_at, json_at, name_at, children_from, children, member, value_at}
use Rattle.places.specs.Nodes.{root_is, root_node, few_places, sound_at}
use Rattle.places.specs.Children.{is_object, key_at, Child, is_child, inner, none_some}
use Rattle.places.specs.Items.{is_list, is_map, list_item}
use Rattle.places.proofs.MemberLaws.{object_member, member_latest, live_parent, live_item, live_member}
use Rattle.places.specs.Paths.{Segment}

-- the plan stands at the place 0
pub plan_at : (s : Bytes) → answer s ≡ 0 → plan s ≡ some (json_at s 0)
unfolding json_at
plan_at s h = plan_meaning s h ∙ ap (λ (t : Tree). some (meaning s t)) (sym (root_is s h) ∙ sym (ap (λ (x : Node). x.tree) (root_node s)))

pub root_path : (s : Bytes) → path_at s 0 ≡ []
root_path s = ap (λ (x : Node). x.path) (root_node s)

pub root_live : (s : Bytes) → live_at s 0 ≡ true
root_live s = ap (λ (x : Node). x.live) (root_node s)

module _ (s : Bytes) (h : answer s ≡ 0) (i : ℕ) (lt : i < places s) (j c : ℕ) (q : Child s i j c) where
  -- what holds others is a list or an object
  opens : is_open (byte_at s (start_of (tree_at s i))) ≡ true
  unfolding children
  opens = go (is_open (byte_at s (start_of (tree_at s i)))) refl
    where
      go : (b : Bool) → is_open (byte_at s (start_of (tree_at s i))) ≡ b → b ≡ true
      go true e = refl
      go false e = none_some (sym (ap (λ (l : Trees). get_elem? (children_from (i + 1) l) j) ((sound_at s h i lt).alone e)) ∙ q.is)

  pub holds_object : is_object s i ≡ true → json_at s i ≡ jobj (members_onto s mnil (inside (tree_at s i)))
  unfolding json_at
  holds_object e = go (tree_at s i) e
    where
      go : (t : Tree) → eqb (byte_at s (start_of t)) 123 ≡ true → meaning s t ≡ jobj (members_onto s mnil (inside t))
      go (tree b m l) e = rw (eqb-true (byte_at s b) 123 e)

  pub holds_list : is_object s i ≡ false → json_at s i ≡ jarr (meanings s (inside (tree_at s i)))
  unfolding json_at is_open
  holds_list e = go (tree_at s i) e opens
    where
      go : (t : Tree) → eqb (byte_at s (start_of t)) 123 ≡ false → is_open (byte_at s (start_of t)) ≡ true → meaning s t ≡ jarr (meanings s (inside t))
      go (tree b m l) e o = by (eqb (byte_at s b) 91) refl (rw e at o)
        where
          by : (x : Bool) → eqb (byte_at s b) 91 ≡ x → (x || (false || false)) ≡ true
              → pick x (jarr (meanings s l)) (pick (eqb (byte_at s b) 123) (jobj (members_onto s mnil l)) (scalar_at s b)) ≡ jarr (meanings s l)
          by true f k = refl
          by false f k = differ (sym k)

  -- One step of a path

  written : parse_usize (digits j) ≡ some j
  written = parse_written j (omega (arith, q.behind, q.within, few_places s h))

  module _ (v : live_at s c ≡ true) where
    object_step : is_object s i ≡ true → get_member (members_onto s mnil (inside (tree_at s i))) (name_at s c) ≡ some (json_at s c)
    object_step e = object_member s h i lt (members_onto s mnil (inside (tree_at s i))) (holds_object e) (name_at s c) ∙ ap (value_at s) (live_member s h i lt j c q e v)

    list_step : is_object s i ≡ false → get_item (meanings s (inside (tree_at s i))) j ≡ some (json_at s c)
    list_step e = list_item s h i lt (meanings s (inside (tree_at s i))) (holds_list e) j ∙ ap (value_at s) q.is

    pub data_step : get_data (some (json_at s i)) (key_at s i j c) ≡ got (some (json_at s c))
    unfolding name_at
    data_step = go (is_object s i) refl
      where
        go : (b : Bool) → is_object s i ≡ b → get_data (some (json_at s i)) (key s b j (tree_at s c)) ≡ got (some (json_at s c))
        go true e = rw (holds_object e, object_step e)
        go false e = rw (holds_list e, written, list_step e)

    pub plain_step : (r : List Bytes) → plain_path (json_at s i) (key_at s i j c ∷ r) ≡ key_at s i j c ∷ plain_path (json_at s c) r
    unfolding name_at
    plain_step r = go (is_object s i) refl
      where
        go : (b : Bool) → is_object s i ≡ b → plain_path (json_at s i) (key s b j (tree_at s c) ∷ r) ≡ key s b j (tree_at s c) ∷ plain_path (json_at s c) r
        go true e = rw (holds_object e, object_step e)
        go false e = rw (holds_list e, written, list_step e)

-- The whole path

module _ (s : Bytes) (h : answer s ≡ 0) where
  -- the path of c, and anything behind it
  record Followed (c : ℕ) : Type 0 where
    pub all : (r : List Bytes) → get_all (some (json_at s 0)) (path_at s c ++ r) ≡ get_all (some (json_at s c)) r
    pub plain : (r : List Bytes) → plain_path (json_at s 0) (path_at s c ++ r) ≡ path_at s c ++ plain_path (json_at s c) r

  followed : (fuel c : ℕ) → c < fuel → c < places s → live_at s c ≡ true → Followed c
  followed zero c f lt v = absurd (omega arith)
  followed (suc fuel) zero f lt v = record { all = λ r. rw (root_path s); plain = λ r. rw (root_path s) }
  followed (suc fuel) (suc b) f lt v =
      let n = inner s h (suc b) (omega arith) lt in
      go n.up n.number n.child (λ x y z w. followed fuel x y z w)
    where
      go : (i j : ℕ) → Child s i j (suc b) → ((x : ℕ) → x < fuel → x < places s → live_at s x ≡ true → Followed x) → Followed (suc b)
      go i j q g =
          let u : i < places s = omega (arith, q.behind) in
          let w = g i (omega (arith, q.behind)) u (live_parent s h i u j (suc b) q v) in
          let e : (r : List Bytes) → path_at s (suc b) ++ r ≡ path_at s i ++ (key_at s i j (suc b) ∷ r) = λ r. ap (λ (p : List Bytes). p ++ r) q.path ∙ append_assoc (path_at s i) (key_at s i j (suc b) ∷ []) r in
          record {
            all = λ r.
                ap (get_all (some (json_at s 0))) (e r) ∙ w.all (key_at s i j (suc b) ∷ r)
                ∙ ap (λ (x : Got (Option Json)). wth x (λ k. get_all k r)) (data_step s h i u j (suc b) q v);
            plain = λ r.
                ap (plain_path (json_at s 0)) (e r) ∙ w.plain (key_at s i j (suc b) ∷ r)
                ∙ ap (λ (x : List Bytes). path_at s i ++ x) (plain_step s h i u j (suc b) q v r)
                ∙ sym (e (plain_path (json_at s (suc b)) r));
          }

  module _ (c : ℕ) (lt : c < places s) (v : live_at s c ≡ true) where
    -- following the path of a live place and then r is following r from there
    pub path_on : (r : List Bytes) → get_all (some (json_at s 0)) (path_at s c ++ r) ≡ get_all (some (json_at s c)) r
    path_on r = (followed (suc c) c (omega arith) lt v).all r

    pub path_leads : get_all (some (json_at s 0)) (path_at s c) ≡ got (some (json_at s c))
    path_leads = ap (get_all (some (json_at s 0))) (sym (append-nil (path_at s c))) ∙ path_on []

    pub plain_on : (r : List Bytes) → plain_path (json_at s 0) (path_at s c ++ r) ≡ path_at s c ++ plain_path (json_at s c) r
    plain_on r = (followed (suc c) c (omega arith) lt v).plain r

module _ (s : Bytes) (h : answer s ≡ 0) (i : ℕ) (lt : i < places s) where
  no_object : (v : Jsons) → json_at s i ≡ jarr v → is_object s i ≡ false
  no_object v e = ap (λ (x : ℕ). eqb x 123) (is_list s i v e).opens

  pub item_path : (v : Jsons) → json_at s i ≡ jarr v → (j c : ℕ) → get_elem? (children s i) j ≡ some c → path_at s c ≡ path_at s i ++ (digits j ∷ [])
  item_path v e j c g = rw ((is_child s i j c h lt g).path, no_object v e)

  pub member_path : (m : Map) → json_at s i ≡ jobj m → (w : Bytes) (c : ℕ) → member s i w ≡ some c → path_at s c ≡ path_at s i ++ (w ∷ [])
  unfolding name_at
  member_path m e w c g =
      let k = member_latest s i w h lt c g in
      let o : is_object s i ≡ true = ap (λ (x : ℕ). eqb x 123) (is_map s i m e).opens in
      rw (k.child.path, o, k.name)

  -- any spelling of the index
  pub item_segment : (v : Jsons) → json_at s i ≡ jarr v → (q : Bytes) (j c : ℕ) → parse_usize q ≡ some j → get_elem? (children s i) j ≡ some c → Segment s i q c
  item_segment v e q j c p g =
      let k = is_child s i j c h lt g in
      let o = no_object v e in
      let x : get_item v j ≡ some (json_at s c) = list_item s h i lt v e j ∙ ap (value_at s) g in
      record {
        within = k.within;
        behind = omega (arith, k.behind);
        plain = λ w. plain_on s h i lt w (q ∷ []) ∙ rw (e, p, x, k.path, o);
        live = live_item s h i lt j c k o;
        value = rw (e, p, x);
      }

  pub member_segment : (m : Map) → json_at s i ≡ jobj m → (q : Bytes) (c : ℕ) → member s i q ≡ some c → Segment s i q c
  unfolding name_at
  member_segment m e q c g =
      let k = member_latest s i q h lt c g in
      let o : is_object s i ≡ true = ap (λ (x : ℕ). eqb x 123) (is_map s i m e).opens in
      let x : get_member m q ≡ some (json_at s c) = object_member s h i lt m e q ∙ ap (value_at s) g in
      record {
        within = k.child.within;
        behind = omega (arith, k.child.behind);
        plain = λ w. plain_on s h i lt w (q ∷ []) ∙ rw (e, x, k.child.path, o, k.name);
        live = k.live;
        value = rw (e, x);
      }

-- Recursive lookup goes one level up

last_but_one : (p : List Bytes) (k n : Bytes) → remove_parent (p ++ (k ∷ n ∷ [])) ≡ p ++ (n ∷ [])
last_but_one [] k n = refl
last_but_one (a ∷ []) k n = refl
last_but_one (a ∷ b ∷ []) k n = refl
last_but_one (a ∷ b ∷ c ∷ p) k n = ap (λ (x : List Bytes). a ∷ x) (last_but_one (b ∷ c ∷ p) k n)

pub path_up : (s : Bytes) (i j c : ℕ) → Child s i j c → (n : Bytes) → remove_parent (path_at s c ++ (n ∷ [])) ≡ path_at s i ++ (n ∷ [])
path_up s i j c q n =
    ap (λ (p : List Bytes). remove_parent (p ++ (n ∷ []))) q.path ∙ ap remove_parent (append_assoc (path_at s i) (key_at s i j c ∷ []) (n ∷ []))
    ∙ last_but_one (path_at s i) (key_at s i j c) n
