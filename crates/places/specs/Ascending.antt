-- The members of an object in the order of their names: the walk through the rules' map.
use Rattle.std.specs.Prelude.{ℕ, zero, suc, ◌+◌, ◌<◌, Bool, ◌&&◌, not, List, [], ◌∷◌, ◌≡◌}
use Rattle.std.proofs.Math.Bool.{true, false}
use Rattle.std.proofs.Math.Option.{Option, none, some}
use Rattle.std.proofs.Math.Path.{refl, ap}
use Rattle.std.proofs.Common.{sym, ◌∙◌, subst, arith}
use Rattle.rules.specs.Bytes.{Bytes, pick, maybe, same, before}
use Rattle.rules.specs.Order.{differ, and_left, and_right, same_refl, same_eq, before_irrefl, before_trans, before_total}
use Rattle.rules.specs.Json.{Json, jobj, Map, mnil, mcons, insert, Leads, Fits, FitsMembers}
use Rattle.rules.specs.Scan.{saying}
use Rattle.rules.specs.Tree.{Tree, Trees, tree_nil, tree_cons}
use Rattle.rules.specs.Plan.{size, name_of, answer, meaning, members_onto}
use Rattle.rules.specs.PlanLaws.{meaning_fits}
use Rattle.places.specs.Places.{inside, places, all_nodes, tree_at, path_at, live_at, json_at, name_at}
use Rattle.places.specs.Places.{children_from, children, last_onto, member, above, better, least_onto, next_member, rest_above}
use Rattle.places.specs.Nodes.{StandsAll, stands_others, stands_at}
use Rattle.places.specs.Children.{is_object, inside_stands, none_some, some_eq}
use Rattle.places.specs.Items.{first_json, is_map}

-- the names above a given one go on upwards
above_upper : (after : Option Bytes) (a b : Bytes) → above after a ≡ true → before a b ≡ true → above after b ≡ true
above_upper none a b h k = refl
above_upper (some n) a b h k = before_trans n a b h k

before_asym : {C : Type 0} (a b : Bytes) → before a b ≡ true → before b a ≡ true → C
before_asym a b h k = differ (sym (before_trans a b a h k) ∙ before_irrefl a)

-- The first member of a map whose name is above a given one

pub data Entry : Type 0 where
  named : Bytes → Json → Entry

abbrev first_above : Option Bytes → Map → Option Entry
first_above after mnil = none
first_above after (mcons n j l) = let later = first_above after l in pick (above after n) (some (named n j)) later

-- a name that is put in takes the first one's place, or not
abbrev lesser : Bytes → Json → Option Entry → Option Entry
lesser k v none = some (named k v)
lesser k v (some (named n j)) = pick (before n k) (some (named n j)) (some (named k v))

module _ (after : Option Bytes) (k : Bytes) (v : Json) where
  first_insert : (m : Map) → first_above after (insert k v m) ≡ pick (above after k) (lesser k v (first_above after m)) (first_above after m)
  first_insert mnil = refl
  first_insert (mcons n j l) = go (same k n) refl (before k n) refl (above after k) refl (above after n) refl (before n k) refl (first_insert l)
    where
      go : (a : Bool) → same k n ≡ a → (b : Bool) → before k n ≡ b → (c : Bool) → above after k ≡ c → (d : Bool) → above after n ≡ d → (e : Bool) → before n k ≡ e
          → first_above after (insert k v l) ≡ pick (above after k) (lesser k v (first_above after l)) (first_above after l)
          → first_above after (pick a (mcons k v l) (pick b (mcons k v (mcons n j l)) (mcons n j (insert k v l))))
          ≡ pick (above after k) (lesser k v (pick (above after n) (some (named n j)) (first_above after l))) (pick (above after n) (some (named n j)) (first_above after l))
      go true ha b hb true hc true hd true he ih = differ (sym he ∙ ap (λ (x : Bytes). before x k) (sym (same_eq k n ha)) ∙ before_irrefl k)
      go true ha b hb true hc true hd false he ih = rw (hc, hd, he)
      go true ha b hb true hc false hd e he ih = differ (sym hc ∙ ap (above after) (same_eq k n ha) ∙ hd)
      go true ha b hb false hc true hd e he ih = differ (sym hd ∙ ap (above after) (sym (same_eq k n ha)) ∙ hc)
      go true ha b hb false hc false hd e he ih = rw (hc, hd)
      go false ha true hb true hc d hd true he ih = before_asym k n hb he
      go false ha true hb true hc true hd false he ih = rw (hc, hd, he)
      go false ha true hb true hc false hd false he ih = differ (sym (above_upper after k n hc hb) ∙ hd)
      go false ha true hb false hc d hd e he ih = rw hc
      go false ha false hb c hc true hd false he ih = differ (sym (before_total k n ha hb) ∙ he)
      go false ha false hb true hc true hd true he ih = rw (hc, hd, he)
      go false ha false hb false hc true hd true he ih = differ (sym (above_upper after n k hd he) ∙ hc)
      go false ha false hb c hc false hd e he ih = rw hd ih

-- what is left of an ascending map begins with that member
leads_rest : (n : Bytes) (l : Map) → Leads n l → rest_above (some n) l ≡ l
leads_rest n mnil h = refl
leads_rest n (mcons k j l) h = rw h

rest_left : Option Bytes → Map → Option Entry → Map
rest_left after m none = mnil
rest_left after m (some (named k j)) = mcons k j (rest_above (some k) m)

module _ (after : Option Bytes) where
  -- a name in front that is not above changes nothing
  keeps_rest : (n : Bytes) (j : Json) (l : Map) (o : Option Entry) → above after n ≡ false → ((k : Bytes) (v : Json) → o ≡ some (named k v) → above after k ≡ true)
      → rest_left after l o ≡ rest_left after (mcons n j l) o
  unfolding rest_left
  keeps_rest n j l none e f = refl
  keeps_rest n j l (some (named k v)) e f = go (before k n) refl
    where
      go : (b : Bool) → before k n ≡ b → mcons k v (rest_above (some k) l) ≡ mcons k v (pick (before k n) (mcons n j l) (rest_above (some k) l))
      go true h = differ (sym (above_upper after k n (f k v refl) h) ∙ e)
      go false h = rw h

  first_is_above : (m : Map) (k : Bytes) (v : Json) → first_above after m ≡ some (named k v) → above after k ≡ true
  first_is_above mnil k v h = none_some h
  first_is_above (mcons n j l) k v h = go (above after n) refl h (first_is_above l k v)
    where
      go : (b : Bool) → above after n ≡ b → pick b (some (named n j)) (first_above after l) ≡ some (named k v) → (first_above after l ≡ some (named k v) → above after k ≡ true) → above after k ≡ true
      go true e q f = let x : n ≡ k = cc in rw (← x) e
      go false e q f = f q

  rest_first : (m : Map) → FitsMembers m → rest_above after m ≡ rest_left after m (first_above after m)
  unfolding rest_left
  rest_first mnil f = refl
  rest_first (mcons n j l) f = go (above after n) refl (rest_first l f.1.1)
    where
      go : (b : Bool) → above after n ≡ b → rest_above after l ≡ rest_left after l (first_above after l)
          → pick b (mcons n j l) (rest_above after l) ≡ rest_left after (mcons n j l) (pick b (some (named n j)) (first_above after l))
      go true e ih = ap (mcons n j) (sym (leads_rest n l f.1.0) ∙ rw (before_irrefl n))
      go false e ih = ih ∙ keeps_rest n j l (first_above after l) e (first_is_above l)

-- By places

abbrev entry_at : Bytes → Option ℕ → Option Entry
entry_at s none = none
entry_at s (some p) = some (named (name_at s p) (json_at s p))

module _ (s : Bytes) (p : List Bytes) (a n : Bool) (after : Option Bytes) where
  chosen : (c : ℕ) (best : Option ℕ) (k : Bytes) (v : Json) → name_at s c ≡ k → json_at s c ≡ v
      → pick (above after k) (lesser k v (entry_at s best)) (entry_at s best) ≡ entry_at s (pick (better s after best c) (some c) best)
  chosen c none k v e f = rw (e) (go (above after k))
    where
      go : (b : Bool) → pick b (some (named k v)) none ≡ entry_at s (pick b (some c) none)
      go true = rw (e, f)
      go false = refl
  chosen c (some b) k v e f = rw e (go (above after k) (before (name_at s b) k))
    where
      go : (x y : Bool) → pick x (pick y (some (named (name_at s b) (json_at s b))) (some (named k v))) (some (named (name_at s b) (json_at s b)))
          ≡ entry_at s (pick (x && not y) (some c) (some b))
      go true true = refl
      go true false = rw (e, f)
      go false y = refl

  least_first : (l : Trees) (c j : ℕ) (acc : Map) (best : Option ℕ) → StandsAll s (all_nodes s) c p a n j l → first_above after acc ≡ entry_at s best
      → first_above after (members_onto s acc l) ≡ entry_at s (least_onto s after best (children_from c l))
  least_first tree_nil c j acc best h e = e
  least_first (tree_cons t l) c j acc best h e =
      let q = first_json s c p a n j t l h in
      least_first l (c + size t) (suc j) _ _ (stands_others s (all_nodes s) c p a n j t l h)
      (first_insert after (saying s (name_of t)) (meaning s t) acc
      ∙ ap (λ (x : Option Entry). pick (above after (saying s (name_of t))) (lesser (saying s (name_of t)) (meaning s t) x) x) e
      ∙ chosen c best (saying s (name_of t)) (meaning s t) q.1 q.0)

module _ (s : Bytes) (h : answer s ≡ 0) (i : ℕ) (lt : i < places s) where
  pub at_fits : Fits (json_at s i)
  unfolding json_at
  at_fits = meaning_fits s (tree_at s i) (stands_at s h i lt).fine

  -- member by member
  pub object_rest : (m : Map) → json_at s i ≡ jobj m → (after : Option Bytes)
      → rest_above after m ≡ maybe (next_member s i after) mnil (λ c. mcons (name_at s c) (json_at s c) (rest_above (some (name_at s c)) m))
  unfolding next_member children rest_left
  object_rest m e after =
      rest_first after m (subst Fits e at_fits)
      ∙ ap (rest_left after m) (ap (first_above after) (sym (is_map s i m e).means) ∙ least_first s (path_at s i) (live_at s i) (is_object s i) after (inside (tree_at s i)) (i + 1) 0 mnil none (inside_stands s i h lt) refl)
      ∙ go (least_onto s after none (children_from (i + 1) (inside (tree_at s i))))
    where
      go : (o : Option ℕ) → rest_left after m (entry_at s o) ≡ maybe o mnil (λ c. mcons (name_at s c) (json_at s c) (rest_above (some (name_at s c)) m))
      go none = refl
      go (some c) = refl

-- the place is the one that its own name leads to

-- b, too, is c where the best is
least_last : (s : Bytes) (after : Option Bytes) (c : ℕ) (l : List ℕ) (best b : Option ℕ) → (best ≡ some c → (b ≡ some c) × (above after (name_at s c) ≡ true))
    → least_onto s after best l ≡ some c → last_onto s (name_at s c) b l ≡ some c
least_last s after c [] best b f h = (f h).0
least_last s after c (p ∷ l) best b f h =
    least_last s after c l (pick (better s after best p) (some p) best) (pick (same (name_at s p) (name_at s c)) (some p) b)
    (λ e. step best f (better s after best p) refl e) h
  where
    up : (o : Option ℕ) → better s after o p ≡ true → above after (name_at s p) ≡ true
    up none e = e
    up (some x) e = and_left (above after (name_at s p)) (not (before (name_at s x) (name_at s p))) e

    other : (o : Option ℕ) → o ≡ some c → better s after o p ≡ false → above after (name_at s c) ≡ true → (y : Bool) → same (name_at s p) (name_at s c) ≡ y → b ≡ some c
        → pick y (some p) b ≡ some c
    other none x e u y q r = none_some x
    other (some d) x e u true q r =
        let g : d ≡ c = some_eq x in
        let n : name_at s p ≡ name_at s c = same_eq (name_at s p) (name_at s c) q in
        differ (sym (rw (g, n, u, before_irrefl (name_at s c))) ∙ e)
    other (some d) x e u false q r = r

    step : (o : Option ℕ) → (o ≡ some c → (b ≡ some c) × (above after (name_at s c) ≡ true)) → (x : Bool) → better s after o p ≡ x → pick x (some p) o ≡ some c
        → (pick (same (name_at s p) (name_at s c)) (some p) b ≡ some c) × (above after (name_at s c) ≡ true)
    step o g true k e = let q : p ≡ c = some_eq e in (rw (q, same_refl (name_at s c)), rw (← q) (up o k))
    step o g false k e = (other o e k (g e).1 (same (name_at s p) (name_at s c)) refl (g e).0, (g e).1)

pub next_is_member : (s : Bytes) (i : ℕ) (after : Option Bytes) (c : ℕ) → next_member s i after ≡ some c → member s i (name_at s c) ≡ some c
unfolding next_member member
next_is_member s i after c h = least_last s after c (children s i) none none (λ e. none_some e) h
