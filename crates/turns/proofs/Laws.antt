-- What the drawing of `each` cites of a turn.
use Rattle.std.specs.Prelude.{Option as RustOption, Some, None}
use Prim.Native.Nat.{ℕ, suc, ◌+◌, ◌≤◌, ◌<◌}
use mathlib.Core.Bool.{Bool, true, false}
use mathlib.Core.List.{List}
use mathlib.Core.Option.{Option, none, some}
use mathlib.Core.Path.{◌≡◌, refl, sym, ap, ◌∙◌, subst}
use native.Mathlib.Omega.{arith}
use lib.Dec.{eqb}
use lib.ListN.{length, get_elem?}
use Rattle.rules.specs.Bytes.{Bytes, pick}
use Rattle.rules.specs.Order.{differ}
use Rattle.rules.specs.Json.{Json, jnull, jbool, jpos, jneg, jstr, jarr, jobj, Jsons, jnil, jcons, Map, mnil, mcons, count}
use Rattle.rules.specs.Value.{derived, missing, context_path}
use Rattle.rules.specs.HelperEach.{list_turns, map_turns, turn_block}
use Rattle.rules.specs.Context.{base_map}
use Rattle.places.specs.Accepted.{Accepted}
use Rattle.places.specs.Places.{places, inside, tree_at, path_at, json_at, children, count_items}
use Rattle.places.specs.Items.{list_count, is_map as is-object-at}
use Rattle.places.specs.Children.{none_some}
use Rattle.value.specs.declared.Value.{Value}
use Rattle.value.specs.declared.Value.TheVariants.{Missing, Null, False, True, Empty, Context, Place, Literal, Index, IndexText, Name, Text, SaidChar, PackedChar, Merged}
use Rattle.value.specs.Numbers.{decoded}
use Rattle.meaning.specs.Meaning.{merged_of, context_place, is_missing, json_of, scoped_of}
use Rattle.meaning.specs.MeaningLaws.{plain_is}
use Rattle.meaning.specs.Standing.{Stands, stands_merged}
use Rattle.meaning.specs.Means.{merged_some}
use Rattle.meaning.specs.Kept.{Agree, kept}
use Rattle.lookup.proofs.Finding.{few_children}
use Rattle.lookup.proofs.Leading.{merged_value}
use Rattle.members.specs.Turns.{each_turns}
use Rattle.members.proofs.Counting.{members_few}
use Rattle.scope.specs.declared.Scope.{Scope}
use Rattle.scope.specs.Scopes.{over_object, base_of, turn_locals, locals_of, second, context_of}
use Rattle.scope.specs.Made.{turned, names_said}
use Rattle.scope.proofs.MadeLaws.{OneBehind, no_key, list_locals, map_locals, list_second, map_second, turn_value, turn_path}
use Rattle.turns.proofs.Places.{place_json, place_within, no_turns}
use Rattle.turns.specs.Listed.{is_end, turn_vars, before_end}
use Rattle.turns.specs.Turning.{place_of, is_map, Leads, TurnIs, TurnAt}
use Rattle.turns.specs.declared.Turn.{Turn as Told}

-- The base of the scope before the turn k over a value that has the place o if it has a path: the value itself, or the item of the turn before

abbrev pub BaseBefore : Bytes → Option ℕ → ℕ → Value → Type 0
BaseBefore s none k w = context_place w ≡ none
BaseBefore s (some i) k w = (j : ℕ) × (context_place w ≡ some j) × (eqb k 0 ≡ false → OneBehind s (path_at s i) j)

pub base_first : (s : Bytes) (v w : Value) → w ≡ v → BaseBefore s (context_place v) 0 w
base_first s v w e = go (context_place v) refl
  where
    go : (o : Option ℕ) → context_place v ≡ o → BaseBefore s o 0 w
    go none f = ap context_place e ∙ f
    go (some i) f = (i, ap context_place e ∙ f, λ z. differ z)

pub base_next : (s b : Bytes) (ent : List ℕ) (t : ℕ) (v : Value) (k : ℕ) (item key : Value) (object last : Bool) → TurnIs s b ent t v k item key object last
    → (w : Value) → w ≡ item → BaseBefore s (context_place v) (suc k) w
base_next s b ent t v k item key object last u w e = go (context_place v) u.leads
  where
    go : (o : Option ℕ) → Leads s o u.turn.relative_path item → BaseBefore s o (suc k) w
    go none f = ap context_place e ∙ f
    go (some i) f = (f.0, ap context_place (e ∙ f.1), λ z. record { step = u.turn.relative_path; is = f.2 })

-- a value with a path is not missing
has_path : (i : ℕ) (v : Value) → context_place v ≡ some i → is_missing v ≡ false
has_path i Missing e = none_some e
has_path i Null e = refl
has_path i False e = refl
has_path i True e = refl
has_path i Empty e = refl
has_path i (Context j) e = refl
has_path i (Place j) e = refl
has_path i (Literal p) e = refl
has_path i (Index n) e = refl
has_path i (IndexText n) e = refl
has_path i (Name o) e = refl
has_path i (Text p) e = refl
has_path i (SaidChar o n) e = refl
has_path i (PackedChar p n) e = refl
has_path i (Merged h n) e = refl

module _ (s b : Bytes) (ent : List ℕ) where
  path_none : (v : Value) → context_place v ≡ none → context_path (scoped_of s b ent v) ≡ none
  path_none v e = rw e (go (is_missing v))
    where
      go : (t : Bool) → context_path (pick t missing (derived (json_of s b ent v))) ≡ none
      go true = refl
      go false = refl

  path_some : (i : ℕ) (v : Value) → context_place v ≡ some i → context_path (scoped_of s b ent v) ≡ some (path_at s i)
  path_some i v e = rw (e, has_path i v e)

  -- The scope of a turn, as the rules have it

  module _ (t : ℕ) (v : Value) (k : ℕ) (item key : Value) (object last : Bool) (u : TurnIs s b ent t v k item key object last)
      (c : Scope) (base named : ℕ) (e : decoded base ≡ item) (f : decoded named ≡ key) (few : c.kind ≤ 2) (fresh : object ≡ false → over_object c ≡ false) where
    means : json_of s b ent (decoded base) ≡ u.turn.item
    means = ap (json_of s b ent) e ∙ u.means

    keyed : json_of s b ent (decoded named) ≡ u.turn.key
    keyed = ap (json_of s b ent) f ∙ u.keyed

    locals : u.turn.set_locals (locals_of s b ent c) ≡ turn_locals s b ent (turned c base named k (eqb k 0) last object)
    locals = u.locals (locals_of s b ent c) ∙ go object fresh
      where
        go : (o : Bool) → (o ≡ false → over_object c ≡ false) → turn_vars o u.turn.key k last (locals_of s b ent c) ≡ turn_locals s b ent (turned c base named k (eqb k 0) last o)
        go true h = map_locals s b ent c base named k (eqb k 0) last (locals_of s b ent c) u.turn.key keyed
        go false h = list_locals s b ent c base named k (eqb k 0) last (locals_of s b ent c) (no_key s b ent c (h refl))

    stood : second s b ent (turned c base named k (eqb k 0) last object) ≡ u.turn.key
    stood = go object u.numbered
      where
        go : (o : Bool) → (o ≡ false → key ≡ Index k) → second s b ent (turned c base named k (eqb k 0) last o) ≡ u.turn.key
        go true h = map_second s b ent c base named k (eqb k 0) last ∙ keyed
        go false h = list_second s b ent c base named k (eqb k 0) last ∙ sym (plain_is s b ent (Index k) refl) ∙ ap (json_of s b ent) (sym (h refl)) ∙ u.keyed

    pub turn_context : BaseBefore s (context_place v) k (base_of c)
        → context_of s b ent (turned c base named k (eqb k 0) last object) ≡ turn_block (scoped_of s b ent v) (names_said b c c.kind) u.turn (context_of s b ent c)
    turn_context w = go (context_place v) refl w u.leads
      where
        go : (o : Option ℕ) → context_place v ≡ o → BaseBefore s o k (base_of c) → Leads s o u.turn.relative_path item
            → context_of s b ent (turned c base named k (eqb k 0) last object) ≡ turn_block (scoped_of s b ent v) (names_said b c c.kind) u.turn (context_of s b ent c)
        go none p x l =
            turn_value s b ent c base named k (eqb k 0) last object (scoped_of s b ent v) u.turn few means locals stood (path_none v p) x (ap context_place e ∙ l)
        go (some i) p x l =
            turn_path s b ent c base named k (eqb k 0) last object (scoped_of s b ent v) u.turn few means locals stood (path_at s i) l.0 x.0
            (path_some i v p) x.1 (ap context_place (e ∙ l.1)) l.2 (λ z. x.2 (sym u.first ∙ z))

-- A turn stays what it is while entries behind come and go

pub turn_kept : (s b : Bytes) (ent ent' : List ℕ) (t : ℕ) (v : Value) (k : ℕ) (r : RustOption Told) → Agree ent ent' t → Stands s b ent t v → TurnAt s b ent t v k r → TurnAt s b ent' t v k r
turn_kept s b ent ent' t v k None a st u = let w = kept s b ent ent' t v a st in subst (λ (j : Json). length (each_turns j) ≤ k) w.means u
turn_kept s b ent ent' t v k (Some r) a st u =
    let w = kept s b ent ent' t v a st in
    let x = kept s b ent ent' t r.item a u.stands in
    record {
      turn = u.turn;
      is = ap (λ (j : Json). get_elem? (each_turns j) k) (sym w.means) ∙ u.is;
      ends = subst (λ (j : Json). r.last ≡ is_end (get_elem? (each_turns j) (suc k))) w.means u.ends;
      over = u.over ∙ ap is_map w.means;
      means = sym x.means ∙ u.means;
      keyed = plain_is s b ent' r.key u.key_plain ∙ sym (plain_is s b ent r.key u.key_plain) ∙ u.keyed;
      numbered = u.numbered;
      first = u.first;
      locals = u.locals;
      leads = u.leads;
      present = u.present;
      stands = x.stands;
      key_plain = u.key_plain;
      key_stands = u.key_stands;
      placed = u.placed;
    }

-- How many turns there are

list_length : (i : ℕ) (l : Jsons) → length (list_turns i l) ≡ count_items l
list_length i jnil = refl
list_length i (jcons j l) = ap suc (list_length (1 + i) l)

map_length : (i : ℕ) (m : Map) → length (map_turns i m) ≡ count m
map_length i mnil = refl
map_length i (mcons n j l) = ap suc (map_length (1 + i) l)

module _ (s b : Bytes) (ent : List ℕ) (tab : List ℕ) (a : Accepted s tab) (v : Value) where
  place_few : (i : ℕ) → i < places s → (j : Json) → json_at s i ≡ j → length (each_turns j) ≤ 4096
  unfolding children
  place_few i lt jnull e = omega arith
  place_few i lt (jbool x) e = omega arith
  place_few i lt (jpos n) e = omega arith
  place_few i lt (jneg n) e = omega arith
  place_few i lt (jstr l) e = omega arith
  place_few i lt (jarr l) e =
      let p = list_length 0 l in
      let q = list_count s a.answers i lt l e in
      let r = few_children s tab a i lt in
      omega arith
  place_few i lt (jobj m) e =
      let p = map_length 0 m in
      let q = ap count (is-object-at s i m e).means in
      let r = members_few s (inside (tree_at s i)) (i + 1) mnil in
      let z = few_children s tab a i lt in
      omega arith

  -- those over a merged object are as many as its members
  pub turns_few : (t : ℕ) → Stands s b ent t v → length (each_turns (json_of s b ent v)) ≤ 4096
  turns_few t st = at (place_of v) refl (merged_of v) refl
    where
      at : (o : Option ℕ) → place_of v ≡ o → (q : Option (ℕ × ℕ)) → merged_of v ≡ q → length (each_turns (json_of s b ent v)) ≤ 4096
      at (some i) e q z = place_few i (place_within s b ent t i v e st) (json_of s b ent v) (sym (place_json s b ent i v e))
      at none e none z =
          let p = ap length (no_turns s b ent v (sym e) z) in
          omega arith
      at none e (some q) z =
          let m = merged_some s b ent t v q.0 q.1 z st in
          let p = ap (λ (j : Json). length (each_turns j)) m.1 ∙ map_length 0 m.0 in
          let c = ap (λ (j : Json). count (base_map j)) m.1 in
          let d = ap (λ (w : Value). count (base_map (json_of s b ent w))) (merged_value v q.0 q.1 z) in
          omega (arith, (stands_merged s b ent t v q.0 q.1 z st).few)

  pub turn_below : (t k : ℕ) (item key : Value) (object last : Bool) → Stands s b ent t v → TurnIs s b ent t v k item key object last → k < 4096
  turn_below t k item key object last st u =
      let p = before_end (each_turns (json_of s b ent v)) k u.turn u.is in
      omega (arith, turns_few t st)
