-- The turns, one by one.
use Rattle.std.specs.Prelude.{Option as RustOption, Some, None}
use Prim.Native.Nat.{ℕ, suc, ◌+◌, ◌<◌, ◌≤◌}
use mathlib.Core.Bool.{Bool, true, false}
use mathlib.Core.List.{List, []}
use mathlib.Core.Option.{Option, none, some}
use mathlib.Core.Path.{◌≡◌, refl, sym, ap, ap₂, ◌∙◌, subst}
use native.Mathlib.Omega.{arith}
use native.Mathlib.Nat.{zero-add}
use lib.Dec.{eqb}
use lib.ListN.{length, get_elem?}
use Rattle.rules.specs.Bytes.{Bytes, maybe, digits}
use Rattle.rules.specs.Order.{differ}
use Rattle.rules.specs.Json.{Json, jnull, jbool, jpos, jneg, jstr, jarr, jobj, Jsons, Map, get_item, as_str, Fits}
use Rattle.rules.specs.Scan.{saying}
use Rattle.rules.specs.Plan.{name_of}
use Rattle.rules.specs.HelperEach.{Turn}
use Rattle.rules.specs.Context.{base_map}
use Rattle.merging.specs.Counting.{Ascends}
use Rattle.merging.proofs.Counting.{fits_ascends}
use Rattle.merging.specs.Order.{above, first_of}
use Rattle.saying.specs.Characters.{Whole}
use Rattle.places.specs.Accepted.{Accepted}
use Rattle.places.specs.Places.{places, tree_at, json_at, name_at, children, member, value_at, next_member}
use Rattle.places.specs.Kinds.{found, found_name, items_of, members_of, kind_of}
use Rattle.places.specs.Nodes.{few_places}
use Rattle.places.specs.Items.{list_item, is_list, is_map as is-object-at}
use Rattle.places.specs.Children.{is_object, is_child, Child, none_some, some_eq}
use Rattle.places.specs.Members.{Latest}
use Rattle.places.proofs.MemberLaws.{member_latest, live_item}
use Rattle.places.proofs.Paths.{item_path, member_path}
use Rattle.places.specs.Ascending.{at_fits, next_is_member}
use Rattle.places.proofs.Texts.{name_says}
use Rattle.places.specs.declared.Kind.{Kind}
use Rattle.places.specs.declared.Kind.TheVariants as kind
use Rattle.value.specs.declared.Value.{Value}
use Rattle.value.specs.declared.Value.TheVariants.{Index, Name, Merged}
use Rattle.meaning.specs.Meaning.{plain_json, merged_of, json_of}
use Rattle.meaning.specs.MeaningLaws.{plain_is}
use Rattle.meaning.specs.Means.{merged_some}
use Rattle.meaning.specs.Standing.{Stands}
use Rattle.lookup.specs.Answers.{Held}
use Rattle.members.specs.Turns.{each_turns}
use Rattle.members.specs.Next.{key_name, KeyHeld, shown, MemberHeld}
use Rattle.members.proofs.Counting.{stands_ascends}
use Rattle.members.proofs.Stepping.{object_first}
use Rattle.turns.proofs.Places.{place_json, inner_place, inner_json, inner_present, inner_stands, inner_leads}
use Rattle.turns.specs.Listed.{is_end, member_nth, list_turn, map_turn, list_got, list_ends, map_got, map_ends, map_was, past_end, first_member, next_nth}
use Rattle.turns.specs.Turning.{place_of, inner, is_map, Placed, PlaceIs, TurnIs, TurnAt, ItemBefore, Behind, PlaceTurn}

end_value : (s : Bytes) (o : Option ℕ) → is_end (value_at s o) ≡ is_end o
end_value s none = refl
end_value s (some c) = refl

end_member : (s : Bytes) (o : Option ℕ) → is_end {A = Bytes × Json} (maybe o none (λ c. some (name_at s c, json_at s c))) ≡ is_end o
end_member s none = refl
end_member s (some c) = refl

no_list : {C : Type 0} {l : Jsons} {m : Map} (j : Json) → j ≡ jarr l → j ≡ jobj m → C
no_list j e f = differ (sym (ap is_map f) ∙ ap is_map e)

-- what is no list and no object
abbrev pub Scalar : Kind → Type 0
Scalar kind.Null = Unit {0}
Scalar kind.False = Unit {0}
Scalar kind.True = Unit {0}
Scalar kind.Unsigned = Unit {0}
Scalar kind.Negative = Unit {0}
Scalar kind.Text = Unit {0}
Scalar kind.List = ⊥
Scalar kind.Object = ⊥

scalar_turns : (j : Json) → Scalar (kind_of j) → each_turns j ≡ []
scalar_turns jnull n = refl
scalar_turns (jbool true) n = refl
scalar_turns (jbool false) n = refl
scalar_turns (jpos m) n = refl
scalar_turns (jneg m) n = refl
scalar_turns (jstr l) n = refl
scalar_turns (jarr l) n = absurd n
scalar_turns (jobj m) n = absurd n

pub none_past : (l : List Turn) (k : ℕ) → l ≡ [] → length l ≤ k
none_past l k e = let n = ap length e in omega arith

module _ (s : Bytes) (tab : List ℕ) (a : Accepted s tab) (i : ℕ) (lt : i < places s) (v : Value) (p : place_of v ≡ some i) (k : ℕ) where
  pub scalar_turn : (r q : Kind) → r ≡ kind_of (json_at s i) → r ≡ q → Scalar q → PlaceTurn s v k None
  scalar_turn r q e f n b ent t st =
      none_past (each_turns (json_of s b ent v)) k (ap each_turns (place_json s b ent i v p) ∙ scalar_turns (json_at s i) (subst Scalar (sym f ∙ e) n))

  module _ (e : json_at s i ≡ jarr (items_of (json_at s i))) where
    list_json : (b : Bytes) (ent : List ℕ) → json_of s b ent v ≡ jarr (items_of (json_at s i))
    list_json b ent = place_json s b ent i v p ∙ e

    item_ends : (b : Bytes) (ent : List ℕ) (n : ℕ) → is_end (get_elem? (each_turns (json_of s b ent v)) n) ≡ is_end (get_elem? (children s i) n)
    item_ends b ent n =
        ap (λ (j : Json). is_end (get_elem? (each_turns j) n)) (list_json b ent) ∙ list_ends 0 (items_of (json_at s i)) n
        ∙ ap is_end (list_item s a.answers i lt (items_of (json_at s i)) e n) ∙ end_value s (get_elem? (children s i) n)

    pub list_past : (at : RustOption ℕ) → found at ≡ get_elem? (children s i) k → at ≡ None → PlaceTurn s v k None
    list_past at f g b ent t st = past_end (each_turns (json_of s b ent v)) k (item_ends b ent k ∙ ap is_end (sym f ∙ ap found g))

    module _ (at : RustOption ℕ) (f : found at ≡ get_elem? (children s i) k) (c : ℕ) (g : at ≡ Some c) where
      pub list_child : Child s i k c
      list_child = is_child s i k c a.answers lt (sym f ∙ ap found g)

      pub list_is : (next : RustOption ℕ) → ((j : ℕ) → get_elem? (children s i) j ≡ some c → found next ≡ get_elem? (children s i) (suc j)) → (last : Bool) → last ≡ is_end (found next)
          → (w : Value) → w ≡ inner v c → PlaceTurn s v k (Some (record { item = w; key = (Index k); object = false; last = last }))
      list_is next h last q w z b ent t st = subst (λ (x : Value). TurnIs s b ent t v k x (Index k) false last) (sym z) (record {
        turn = list_turn k (json_at s c) last;
        is =
            ap (λ (j : Json). get_elem? (each_turns j) k) (list_json b ent) ∙ list_got 0 (items_of (json_at s i)) k (json_at s c) item
            ∙ ap₂ (λ (n : ℕ) (y : Bool). some (list_turn n (json_at s c) y)) (zero-add k) (sym ends);
        ends = q ∙ ap is_end (h k list_child.is) ∙ sym (item_ends b ent (suc k));
        over = sym (ap is_map (list_json b ent));
        means = inner_json s b ent v c;
        keyed = plain_is s b ent (Index k) refl;
        numbered = λ y. refl;
        first = refl;
        locals = λ x. refl;
        leads = inner_leads s b ent i c (digits k) v (item_path s a.answers i lt (items_of (json_at s i)) e k c list_child.is) p;
        present = inner_present s b ent v c;
        stands = inner_stands s b ent t i c v list_child.within (live_item s a.answers i lt k c list_child no_object) p st;
        key_plain = refl;
        key_stands = omega (arith, list_child.behind, list_child.within, few_places s a.answers);
        placed = λ j y. subst (Placed s j k (digits k)) (sym (inner_place s b ent v c)) (placed j (some_eq (sym p ∙ y)));
      })
        where
          item : get_item (items_of (json_at s i)) k ≡ some (json_at s c)
          item = list_item s a.answers i lt (items_of (json_at s i)) e k ∙ ap (value_at s) list_child.is

          ends : last ≡ is_end (get_item (items_of (json_at s i)) (suc k))
          ends = q ∙ ap is_end (h k list_child.is) ∙ sym (ap is_end (list_item s a.answers i lt (items_of (json_at s i)) e (suc k)) ∙ end_value s (get_elem? (children s i) (suc k)))

          no_object : is_object s i ≡ false
          no_object = ap (λ (x : ℕ). eqb x 123) (is_list s i (items_of (json_at s i)) e).opens

          placed : (j : ℕ) → i ≡ j → PlaceIs s j k (digits k) c
          placed j y = subst (λ (x : ℕ). PlaceIs s x k (digits k) c) y (record { within = list_child.within; item = λ l o. list_child.is; name = λ m o. no_list (json_at s i) e o })

  module _ (e : json_at s i ≡ jobj (members_of (json_at s i))) where
    map_json : (b : Bytes) (ent : List ℕ) → json_of s b ent v ≡ jobj (members_of (json_at s i))
    map_json b ent = place_json s b ent i v p ∙ e

    ascends : Ascends (members_of (json_at s i))
    ascends = fits_ascends (members_of (json_at s i)) (subst Fits e (at_fits s a.answers i lt))

    module _ (after : RustOption ℕ) (w : Behind s i k after) (at : RustOption ℕ) (f : found at ≡ next_member s i (found_name s after)) where
      nth_is : (o : Option ℕ) → found at ≡ o → member_nth (members_of (json_at s i)) k ≡ maybe o none (λ c. some (name_at s c, json_at s c))
      nth_is o g = sym (w.name (members_of (json_at s i)) e) ∙ object_first s [] tab a i lt (found_name s after) e o (sym f ∙ g)

      pub object_past : at ≡ None → PlaceTurn s v k None
      object_past g b ent t st =
          past_end (each_turns (json_of s b ent v)) k
          (ap (λ (j : Json). is_end (get_elem? (each_turns j) k)) (map_json b ent) ∙ map_ends 0 (members_of (json_at s i)) k ∙ ap is_end (nth_is none (ap found g)))

      module _ (c : ℕ) (g : at ≡ Some c) where
        pub object_latest : Latest s i (name_at s c) c
        object_latest = member_latest s i (name_at s c) a.answers lt c (next_is_member s i (found_name s after) c (sym f ∙ ap found g))

        pub object_is : (next : RustOption ℕ) → found next ≡ next_member s i (some (name_at s c)) → (last : Bool) → last ≡ is_end (found next)
            → (x : Value) → x ≡ inner v c → (o : ℕ) → o ≡ name_of (tree_at s c) → o < length s → PlaceTurn s v k (Some (record { item = x; key = (Name o); object = true; last = last }))
        unfolding name_at
        object_is next h last q x z o y near b ent t st = subst (λ (u : Value). TurnIs s b ent t v k u (Name o) true last) (sym z) (record {
          turn = map_turn k (name_at s c) (json_at s c) last;
          is =
              ap (λ (j : Json). get_elem? (each_turns j) k) (map_json b ent) ∙ map_got 0 (members_of (json_at s i)) k (name_at s c) (json_at s c) (nth_is (some c) (ap found g))
              ∙ ap₂ (λ (n : ℕ) (u : Bool). some (map_turn n (name_at s c) (json_at s c) u)) (zero-add k) (sym ends);
          ends = ends ∙ sym (ap (λ (j : Json). is_end (get_elem? (each_turns j) (suc k))) (map_json b ent) ∙ map_ends 0 (members_of (json_at s i)) (suc k));
          over = sym (ap is_map (map_json b ent));
          means = inner_json s b ent v c;
          keyed = plain_is s b ent (Name o) refl ∙ ap (λ (n : ℕ). jstr (saying s n)) y;
          numbered = λ u. differ u;
          first = refl;
          locals = λ u. refl;
          leads = inner_leads s b ent i c (name_at s c) v (member_path s a.answers i lt (members_of (json_at s i)) e (name_at s c) c (next_is_member s i (found_name s after) c (sym f ∙ ap found g))) p;
          present = inner_present s b ent v c;
          stands = inner_stands s b ent t i c v object_latest.child.within object_latest.live p st;
          key_plain = refl;
          key_stands = record {
            within = near;
            whole = subst (λ (n : ℕ). Whole s (n + 1)) (sym y)
                (name_says s a.answers i lt object_latest.number c object_latest.child (ap (λ (n : ℕ). eqb n 123) (is-object-at s i (members_of (json_at s i)) e).opens)).whole;
          };
          placed = λ j u. subst (Placed s j k (name_at s c)) (sym (inner_place s b ent v c)) (placed j (some_eq (sym p ∙ u)));
        })
          where
            ends : last ≡ is_end (member_nth (members_of (json_at s i)) (suc k))
            ends =
                q ∙ sym (end_member s (found next))
                ∙ ap is_end (sym (object_first s [] tab a i lt (some (name_at s c)) e (found next) (sym h)) ∙ next_nth (members_of (json_at s i)) ascends k (name_at s c) (json_at s c) (nth_is (some c) (ap found g)))

            placed : (j : ℕ) → i ≡ j → PlaceIs s j k (name_at s c) c
            placed j u = subst (λ (n : ℕ). PlaceIs s n k (name_at s c) c) u (record { within = object_latest.child.within; item = λ l d. no_list (json_at s i) d e; name = λ m d. refl })

-- one step in a list

pub following_next : (s : Bytes) (i k c : ℕ) → ItemBefore s i k (Some c) → (r : RustOption ℕ) → ((j : ℕ) → get_elem? (children s i) j ≡ some c → found r ≡ get_elem? (children s i) (suc j)) → found r ≡ get_elem? (children s i) k
following_next s i k c w r f = f w.0 w.2 ∙ ap (get_elem? (children s i)) (sym w.1)

pub following_first : (s : Bytes) (i k : ℕ) → ItemBefore s i k None → (r : RustOption ℕ) → found r ≡ get_elem? (children s i) 0 → found r ≡ get_elem? (children s i) k
following_first s i k w r f = f ∙ ap (get_elem? (children s i)) (sym w)

-- The first turn

pub first_behind : (s : Bytes) (i : ℕ) → Behind s i 0 None
first_behind s i = record { within = tt; item = λ l e. refl; name = λ m e. first_member m }

-- A merged object

map_base : (j : Json) (m : Map) → j ≡ jobj m → j ≡ jobj (base_map j)
map_base j m e = e ∙ ap (λ (x : Json). jobj (base_map x)) (sym e)

module _ (s b : Bytes) (ent : List ℕ) (tab : List ℕ) (a : Accepted s tab) (v : Value) (h : Held s b ent v) where
  held_ascends : Ascends (base_map (json_of s b ent v))
  held_ascends = stands_ascends s b tab a ent h.used v h.stands

  module _ (g n : ℕ) (e : v ≡ Merged g n) where
    merged_json : json_of s b ent v ≡ jobj (base_map (json_of s b ent v))
    merged_json = let m = merged_some s b ent h.used v g n (ap merged_of e) h.stands in map_base (json_of s b ent v) m.0 m.1

    module _ (k : ℕ) (o : Option (Bytes × Json)) (f : o ≡ member_nth (base_map (json_of s b ent v)) k) where
      merged_ends : (c : ℕ) → is_end (get_elem? (each_turns (json_of s b ent v)) c) ≡ is_end (member_nth (base_map (json_of s b ent v)) c)
      merged_ends c = ap (λ (j : Json). is_end (get_elem? (each_turns j) c)) merged_json ∙ map_ends 0 (base_map (json_of s b ent v)) c

      pub merged_past : (r : RustOption (Value × Value)) → shown s b (json_of s b ent) r ≡ o → r ≡ None → (t : ℕ) → Stands s b ent t v → TurnAt s b ent t v k None
      merged_past r q z t st = past_end (each_turns (json_of s b ent v)) k (merged_ends k ∙ ap is_end (sym f ∙ sym q ∙ ap (shown s b (json_of s b ent)) z))

      module _ (r : RustOption (Value × Value)) (q : shown s b (json_of s b ent) r ≡ o) (m : MemberHeld s b ent v r) (key item : Value) (z : r ≡ Some (key, item)) where
        merged_held : MemberHeld s b ent v (Some (key, item))
        merged_held = subst (MemberHeld s b ent v) z m

        pub merged_key : KeyHeld s b key
        merged_key = merged_held.0

        merged_nth : member_nth (base_map (json_of s b ent v)) k ≡ some (key_name s b key, json_of s b ent item)
        merged_nth = sym f ∙ sym q ∙ ap (shown s b (json_of s b ent)) z

        pub merged_is : (d : RustOption (Value × Value)) → shown s b (json_of s b ent) d ≡ first_of (above (some (key_name s b key)) (base_map (json_of s b ent v))) → (last : Bool)
            → last ≡ is_end (shown s b (json_of s b ent) d) → (t : ℕ) → Stands s b ent t v → TurnAt s b ent t v k (Some (record { item = item; key = key; object = true; last = last }))
        merged_is d y last x t st = record {
          turn = map_turn k (key_name s b key) (json_of s b ent item) last;
          is =
              ap (λ (j : Json). get_elem? (each_turns j) k) merged_json ∙ map_got 0 (base_map (json_of s b ent v)) k (key_name s b key) (json_of s b ent item) merged_nth
              ∙ ap₂ (λ (c : ℕ) (u : Bool). some (map_turn c (key_name s b key) (json_of s b ent item) u)) (zero-add k) (sym ends);
          ends = ends ∙ sym (merged_ends (suc k));
          over = sym (ap is_map merged_json);
          means = refl;
          keyed = plain_is s b ent key merged_key.held.plain ∙ merged_key.says;
          numbered = λ u. differ u;
          first = refl;
          locals = λ u. refl;
          leads = rw e merged_held.1.no_path;
          present = merged_held.1.present;
          stands = merged_held.1.stands t st;
          key_plain = merged_key.held.plain;
          key_stands = merged_key.held.stands;
          placed = λ i u. none_some (ap place_of (sym e) ∙ u);
        }
          where
            ends : last ≡ is_end (member_nth (base_map (json_of s b ent v)) (suc k))
            ends = x ∙ ap is_end (y ∙ next_nth (base_map (json_of s b ent v)) held_ascends k (key_name s b key) (json_of s b ent item) merged_nth)

-- From one turn to the next

module _ (s b : Bytes) (ent : List ℕ) (tab : List ℕ) (a : Accepted s tab) (t : ℕ) (v : Value) (st : Stands s b ent t v) (k j : ℕ) (z : k ≡ suc j) (item key : Value) (object last : Bool) (u : TurnIs s b ent t v j item key object last) where
  next_of : (m : Map) → json_of s b ent v ≡ jobj m → (q : Bytes) → q ≡ u.turn.relative_path → first_of (above (some q) m) ≡ member_nth m k
  next_of m e q f =
      let w = map_was 0 m j u.turn (sym (ap (λ (x : Json). get_elem? (each_turns x) j) e) ∙ u.is) in
      let c : Ascends m = subst Ascends (ap base_map e) (stands_ascends s b tab a ent t v st) in
      ap (λ (x : Bytes). first_of (above (some x) m)) f ∙ next_nth m c j u.turn.relative_path u.turn.item w.0 ∙ ap (member_nth m) (sym z)

  pub next_behind : (i : ℕ) → place_of v ≡ some i → (r : RustOption ℕ) → found r ≡ place_of item → Behind s i k r
  next_behind i p None f = absurd (subst (Placed s i j u.turn.relative_path) (sym f) (u.placed i p))
  next_behind i p (Some c) f =
      let w = subst (Placed s i j u.turn.relative_path) (sym f) (u.placed i p) in
      record { within = w.within; item = λ l e. (j, z, w.item l e); name = λ m e. next_of m (place_json s b ent i v p ∙ e) (name_at s c) (w.name m e) }

  module _ (g n : ℕ) (e : v ≡ Merged g n) where
    key_says : (m : Map) → json_of s b ent v ≡ jobj m → plain_json s b key ≡ jstr u.turn.relative_path
    key_says m f =
        sym (plain_is s b ent key u.key_plain) ∙ u.keyed ∙ (map_was 0 m j u.turn (sym (ap (λ (x : Json). get_elem? (each_turns x) j) f) ∙ u.is)).1

    key_named : (m : Map) → json_of s b ent v ≡ jobj m → key_name s b key ≡ u.turn.relative_path
    key_named m f = ap (λ (x : Json). maybe (as_str x) [] (λ c. c)) (key_says m f)

    pub next_key : KeyHeld s b key
    next_key =
        let m = merged_some s b ent t v g n (ap merged_of e) st in
        record { held = record { plain = u.key_plain; stands = u.key_stands }; says = key_says m.0 m.1 ∙ ap jstr (sym (key_named m.0 m.1)) }

    pub next_merged : first_of (above (some (key_name s b key)) (base_map (json_of s b ent v))) ≡ member_nth (base_map (json_of s b ent v)) k
    next_merged =
        let m = merged_some s b ent t v g n (ap merged_of e) st in
        let f = map_base (json_of s b ent v) m.0 m.1 in
        next_of (base_map (json_of s b ent v)) f (key_name s b key) (key_named (base_map (json_of s b ent v)) f)
