-- The loops that count the members: those whose name is met first.
use Prim.Native.Nat.{ℕ, zero, suc, ◌+◌, ◌-◌, ◌≤◌, ◌<◌}
use mathlib.Core.Bool.{Bool, true, false}
use mathlib.Core.List.{List, [], ◌∷◌}
use mathlib.Core.Option.{Option, some}
use mathlib.Core.Path.{◌≡◌, refl, sym, ap, ◌∙◌, subst}
use native.Mathlib.Numerals.{add-one}
use native.Mathlib.Omega.{arith}
use lib.Dec.{eqb, ltb}
use lib.ListN.{length, take, drop, length-drop}
use borrow.Author.Tests.{ne_eqb, ltb-true, ltb-false}
use Rattle.rules.specs.Bytes.{Bytes, pick, maybe, byte_at, same}
use Rattle.rules.specs.Json.{Json, jnull, jbool, jpos, jneg, jstr, jarr, Map, mnil, get_member, insert, count, Fits, FitsMembers}
use Rattle.rules.specs.Scan.{saying, magnitude}
use Rattle.rules.specs.Tree.{Tree, tree, Trees, tree_nil, tree_cons}
use Rattle.rules.specs.Plan.{size, name_of, answer, scalar_at, meaning, meanings, members_onto}
use Rattle.rules.specs.PlanLaws.{get_insert, insert_fits, count_insert}
use Rattle.places.specs.Places.{start_of, inside, places, tree_at, path_at, live_at, json_at, name_at, children, one_if_new}
use Rattle.places.specs.Nodes.{size_positive}
use Rattle.places.specs.Children.{is_object, end_at, Left, left_start, left_child, left_on, Walk, walk_start, walk_child, walk_on, walk_end}
use Rattle.places.specs.Items.{first_json, is_map, object_at}
use Rattle.places.specs.Ascending.{at_fits}
use Rattle.places.specs.Kinds.{members_of}

-- Only what begins so is an object

scalar_members : (s : Bytes) (b : ℕ) → members_of (scalar_at s b) ≡ mnil
unfolding scalar_at
scalar_members s b = go (eqb (byte_at s b) 34) (eqb (byte_at s b) 116) (eqb (byte_at s b) 102) (eqb (byte_at s b) 110) (eqb (byte_at s b) 45)
  where
    go : (a c d e f : Bool) → members_of (pick a (jstr (saying s b)) (pick c (jbool true) (pick d (jbool false) (pick e jnull (pick f (jneg (magnitude s b)) (jpos (magnitude s b))))))) ≡ mnil
    go true c d e f = refl
    go false true d e f = refl
    go false false true e f = refl
    go false false false true f = refl
    go false false false false true = refl
    go false false false false false = refl

module _ (s : Bytes) (i : ℕ) where
  pub no_members_of : (c : ℕ) → c ≡ byte_at s (start_of (tree_at s i)) → (c ≡ 123 → ⊥) → 0 ≡ count (members_of (json_at s i))
  unfolding json_at
  no_members_of c h ne = sym (ap count (go (tree_at s i) (λ e. ne (h ∙ e))))
    where
      go : (t : Tree) → (byte_at s (start_of t) ≡ 123 → ⊥) → members_of (meaning s t) ≡ mnil
      go (tree b m l) f = rw (ne_eqb (byte_at s b) 123 f) (by (eqb (byte_at s b) 91))
        where
          by : (x : Bool) → members_of (pick x (jarr (meanings s l)) (scalar_at s b)) ≡ mnil
          by true = refl
          by false = scalar_members s b

-- Whether a name is new

pub new_small : (s w : Bytes) (l : List ℕ) → one_if_new s w l ≤ 1
new_small s w [] = omega arith
new_small s w (p ∷ l) = go (same (name_at s p) w) (new_small s w l)
  where
    go : (b : Bool) → one_if_new s w l ≤ 1 → pick b 0 (one_if_new s w l) ≤ 1
    go true h = omega arith
    go false h = h

pub new_by : (s : Bytes) (c a : ℕ) (l : List ℕ) (r : ℕ) → r ≡ one_if_new s (saying s a) l → a ≡ name_of (tree_at s c) → r ≡ one_if_new s (name_at s c) l
unfolding name_at
new_by s c a l r h e = h ∙ ap (λ (x : ℕ). one_if_new s (saying s x) l) e

-- one more is met
new_more : (s w : Bytes) (l : List ℕ) (j c : ℕ) (r : List ℕ) → drop j l ≡ c ∷ r → one_if_new s w (take (suc j) l) ≡ pick (same (name_at s c) w) 0 (one_if_new s w (take j l))
new_more s w [] zero c r h = let z : ◌≡◌ {A = ℕ} 0 1 = cc in absurd (omega arith)
new_more s w [] (suc j) c r h = let z : ◌≡◌ {A = ℕ} 0 1 = cc in absurd (omega arith)
new_more s w (x ∷ l) zero c r h = let e : x ≡ c = cc in rw e
new_more s w (x ∷ l) (suc j) c r h =
    ap (λ (n : ℕ). pick (same (name_at s x) w) 0 n) (new_more s w l j c r h) ∙ go (same (name_at s x) w) (same (name_at s c) w) (one_if_new s w (take j l))
  where
    go : (a b : Bool) (n : ℕ) → pick a 0 (pick b 0 n) ≡ pick b 0 (pick a 0 n)
    go true true n = refl
    go true false n = refl
    go false b n = refl

-- the name w is looked for among the first n, of which `met` up to c were passed
pub record Meeting (s : Bytes) (i : ℕ) (w : Bytes) (n c met : ℕ) : Type 0 where
  pub walk : Walk s i met c
  pub is : one_if_new s w (take n (children s i)) ≡ one_if_new s w (take (n - met) (drop met (children s i)))

pub meet_start : (s : Bytes) (i : ℕ) → answer s ≡ 0 → i < places s → (w : Bytes) (n : ℕ) → Meeting s i w n (i + 1) 0
meet_start s i h lt w n = record { walk = walk_start s i h lt; is = ap (λ (m : ℕ). one_if_new s w (take m (children s i))) (omega arith) }

module _ (s : Bytes) (i : ℕ) (w : Bytes) (n c met : ℕ) (q : Meeting s i w n c met) where
  pub meet_end : n ≤ met → 1 ≡ one_if_new s w (take n (children s i))
  meet_end le = let z : n - met ≡ 0 = omega arith in sym (q.is ∙ ap (λ (m : ℕ). one_if_new s w (take m (drop met (children s i)))) z)

  module _ (some : met < n) (le : n ≤ length (children s i)) where
    pub meet_in : c < end_at s i
    meet_in = go (ltb c (end_at s i)) refl
      where
        go : (b : Bool) → ltb c (end_at s i) ≡ b → c < end_at s i
        go true e = ltb-true c (end_at s i) e
        go false e =
            let z = ap length (walk_end s i met c q.walk (ltb-false c (end_at s i) e)) in
            absurd (omega (arith, length-drop met (children s i)))

    here : one_if_new s w (take n (children s i)) ≡ pick (same (name_at s c) w) 0 (one_if_new s w (take (n - (met + 1)) (drop (met + 1) (children s i))))
    here =
        let z : n - met ≡ suc (n - (met + 1)) = omega arith in
        q.is ∙ ap (λ (m : ℕ). one_if_new s w (take m (drop met (children s i)))) z
        ∙ ap (λ (l : List ℕ). one_if_new s w (take (suc (n - (met + 1))) l)) (walk_child s i met c q.walk meet_in).others
        ∙ ap (λ (k : ℕ). pick (same (name_at s c) w) 0 (one_if_new s w (take (n - (met + 1)) (drop k (children s i))))) (sym (add-one met))

    pub meet_found : true ≡ same (name_at s c) w → 0 ≡ one_if_new s w (take n (children s i))
    meet_found e = sym (here ∙ ap (λ (b : Bool). pick b 0 (one_if_new s w (take (n - (met + 1)) (drop (met + 1) (children s i))))) (sym e))

    pub meet_on : (d : ℕ) → d ≡ end_at s c → false ≡ same (name_at s c) w → Meeting s i w n d (met + 1)
    meet_on d f e = record {
      walk = subst (λ (k : ℕ). Walk s i k d) (sym (add-one met)) (subst (Walk s i (suc met)) (sym f) (walk_on s i met c q.walk meet_in));
      is = here ∙ ap (λ (b : Bool). pick b 0 (one_if_new s w (take (n - (met + 1)) (drop (met + 1) (children s i))))) (sym e);
    }

-- Of the first `met` members up to c there are n of different names
pub record Counting (s : Bytes) (i met n c : ℕ) : Type 0 where
  pub trees : Trees
  pub left : Left s i met c trees
  pub map : Map
  pub rest : members_onto s map trees ≡ members_of (json_at s i)
  pub fits : FitsMembers map
  pub sum : count map ≡ n
  pub new : (w : Bytes) → maybe (get_member map w) 1 (λ _. 0) ≡ one_if_new s w (take met (children s i))
  pub few : n ≤ met
  pub within : met ≤ length (children s i)

module _ (s : Bytes) (h : answer s ≡ 0) (i : ℕ) (lt : i < places s) where
  pub count_start : byte_at s (start_of (tree_at s i)) ≡ 123 → Counting s i 0 0 (i + 1)
  count_start o = record {
    trees = inside (tree_at s i);
    left = left_start s i h lt;
    map = mnil;
    rest = (is_map s i (members_of (json_at s i)) (object_at s i o)).means;
    fits = tt;
    sum = refl;
    new = λ w. refl;
    few = omega arith;
    within = omega arith;
  }

  module _ (met n c : ℕ) (q : Counting s i met n c) where
    pub count_walk : Walk s i met c
    count_walk = record { trees = q.trees; left = q.left }

    pub count_end : end_at s i ≤ c → n ≡ count (members_of (json_at s i))
    count_end le = go q.trees q.left q.rest
      where
        go : (l : Trees) → Left s i met c l → members_onto s q.map l ≡ members_of (json_at s i) → n ≡ count (members_of (json_at s i))
        go tree_nil k e = sym q.sum ∙ ap count e
        go (tree_cons t l) k e = absurd (omega (arith, k.ends, size_positive t))

    pub count_on : (r d : ℕ) → c < end_at s i → r ≡ one_if_new s (name_at s c) (take met (children s i)) → d ≡ end_at s c → Counting s i (met + 1) (n + r) d
    count_on r d l e f = go q.trees q.left q.rest
      where
        go : (v : Trees) → Left s i met c v → members_onto s q.map v ≡ members_of (json_at s i) → Counting s i (met + 1) (n + r) d
        go tree_nil k g = absurd (omega (arith, k.ends))
        go (tree_cons t v) k g =
            let j = first_json s c (path_at s i) (live_at s i) (is_object s i) met t v k.stands in
            let x = left_child s i met c t v k in
            let y : d ≡ c + size t = f ∙ ap (λ (m : ℕ). c + m) j.2 in
            let z = count_insert (saying s (name_of t)) (meaning s t) q.map q.fits in
            let b = ap length x.others in
            rw (add-one met, y) (record {
              trees = v;
              left = left_on s i met c t v k;
              map = insert (saying s (name_of t)) (meaning s t) q.map;
              rest = g;
              fits = insert_fits (saying s (name_of t)) (meaning s t) q.map (subst Fits j.0 (at_fits s h c x.within)) q.fits;
              sum = omega (arith, z, q.sum, e, ap (λ (w : Bytes). one_if_new s w (take met (children s i))) j.1, q.new (saying s (name_of t)));
              new = λ w.
                  ap (λ (o : Option Json). maybe o 1 (λ _. 0)) (get_insert (saying s (name_of t)) (meaning s t) q.map w)
                  ∙ by (same (saying s (name_of t)) w) (meaning s t) (get_member q.map w)
                  ∙ ap (λ (m : ℕ). pick (same (saying s (name_of t)) w) 0 m) (q.new w)
                  ∙ ap (λ (m : Bytes). pick (same m w) 0 (one_if_new s w (take met (children s i)))) (sym j.1)
                  ∙ sym (new_more s w (children s i) met c (drop (suc met) (children s i)) x.others);
              few = omega (arith, q.few, e, new_small s (name_at s c) (take met (children s i)));
              within = omega (arith, q.within, length-drop met (children s i));
            })
          where
            by : (b : Bool) (v : Json) (o : Option Json) → ◌≡◌ {A = ℕ} (maybe (pick b (some v) o) 1 (λ _. 0)) (pick b 0 (maybe o 1 (λ _. 0)))
            by true v o = refl
            by false v o = refl
