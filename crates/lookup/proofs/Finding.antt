-- What was found, as the answers say it.
use Rattle.std.specs.Prelude.{Option as RustOption, Some, None}
use Prim.Native.Nat.{ℕ, zero, suc, ◌+◌, ◌-◌, ◌*◌, ◌≤◌, ◌<◌}
use mathlib.Core.Bool.{Bool, true, false, ◌||◌}
use mathlib.Core.List.{List, [], ◌∷◌}
use mathlib.Core.Option.{Option, none, some}
use mathlib.Core.Path.{◌≡◌, refl, sym, ap, ◌∙◌, subst}
use native.Mathlib.Omega.{arith}
use lib.Dec.{ltb}
use lib.ListN.{length, get_elem?}
use borrow.Author.Tests.{eqb-true, ltb-true, ltb-false}
use Rattle.rules.specs.Bytes.{Bytes, pick, maybe, same}
use Rattle.rules.specs.Json.{Json, jarr, jobj, Jsons, Map, get_item, get_member}
use Rattle.rules.specs.Bits.{bits}
use Rattle.rules.specs.Context.{base_map}
use Rattle.layout.specs.Text.{text_at}
use Rattle.merging.specs.Lookup.{canonical, find_last}
use Rattle.merging.proofs.Lookup.{find_last_more, get_base_merged, numbered_get}
use Rattle.places.specs.Accepted.{Accepted}
use Rattle.places.specs.Places.{places, json_at, children, member, value_at}
use Rattle.places.specs.Kinds.{found, items_of, members_of}
use Rattle.places.specs.Nodes.{few_places}
use Rattle.places.specs.Children.{is_object, is_child, none_some}
use Rattle.places.specs.Items.{object_at, list_item, list_count}
use Rattle.places.proofs.MemberLaws.{object_member, member_latest}
use Rattle.value.specs.declared.Value.{Value}
use Rattle.value.specs.declared.Value.TheVariants.{Null, Place, Merged}
use Rattle.meaning.specs.Entries.{place, hash_value, hash_base}
use Rattle.meaning.specs.Meaning.{plain_json, pairs, merged_of, rank, json_of}
use Rattle.meaning.specs.MeaningLaws.{plain_is}
use Rattle.meaning.specs.Standing.{Stands, plain, stands_rank, stands_plain, stands_later, MergedStands, stands_merged}
use Rattle.meaning.specs.Kept.{stands_merged_is}
use Rattle.meaning.specs.Forms.{ListForm, ObjectForm, Formed}
use Rattle.meaning.specs.declared.Form.{Form}
use Rattle.meaning.specs.declared.Form.TheVariants as form
use Rattle.lookup.proofs.Told.{pathless_json, pathless_stands, pathless_none, pathless_plain, pathless_held}
use Rattle.lookup.specs.Answers.{Held, PlainHeld, pathless, IsFound, Finds, PlainFinds}
use Rattle.lookup.specs.Keys.{KeyAt, pairs_more}
use Rattle.lookup.specs.Places.{placed_at, placed}
use Rattle.lookup.specs.Telling.{stands_object, has_pair, tells}
use Rattle.lookup.proofs.Telling.{tells_plain, tells_merged}

-- Lists are short

has_item : (l : List ℕ) (n : ℕ) → n < length l → (o : Option ℕ) → get_elem? l n ≡ o → (o ≡ none → ⊥)
has_item [] n lt o e = absurd (omega arith)
has_item (x ∷ l) zero lt o e = λ f. none_some (sym f ∙ sym e)
has_item (x ∷ l) (suc n) lt o e = has_item l n (omega arith) o e

module _ (s : Bytes) (tab : List ℕ) (h : Accepted s tab) (i : ℕ) (lt : i < places s) where
  pub few_children : length (children s i) ≤ 4096
  few_children = go (ltb 4096 (length (children s i))) refl
    where
      at : 4096 < length (children s i) → (o : Option ℕ) → get_elem? (children s i) 4096 ≡ o → length (children s i) ≤ 4096
      at q none e = absurd (has_item (children s i) 4096 q none e refl)
      at q (some c) e =
          let k = is_child s i 4096 c h.answers lt e in
          absurd (omega (arith, k.behind, k.within, few_places s h.answers))

      go : (t : Bool) → ltb 4096 (length (children s i)) ≡ t → length (children s i) ≤ 4096
      go true e = at (ltb-true 4096 (length (children s i)) e) (get_elem? (children s i) 4096) refl
      go false e = ltb-false 4096 (length (children s i)) e

  -- the items of a list that is taken as an object
  pub list_found : (v : Jsons) → json_at s i ≡ jarr v → (k : Bytes)
      → get_member (base_map (json_at s i)) k ≡ value_at s (maybe (canonical k) none (get_elem? (children s i)))
  list_found v e k =
      ap (λ (j : Json). get_member (base_map j) k) e ∙ numbered_get v k (omega (arith, list_count s h.answers i lt v e, few_children)) ∙ go (canonical k)
    where
      go : (o : Option ℕ) → maybe o none (get_item v) ≡ value_at s (maybe o none (get_elem? (children s i)))
      go none = refl
      go (some n) = list_item s h.answers i lt v e n

  pub object_found : (m : Map) → json_at s i ≡ jobj m → (k : Bytes) → get_member (base_map (json_at s i)) k ≡ value_at s (member s i k)
  object_found m e k = ap (λ (j : Json). get_member (base_map j) k) e ∙ object_member s h.answers i lt m e k

  -- a place that was found
  pub child_placed : (b : Bytes) (o : Option Json) (n : ℕ) (at : Option ℕ) → o ≡ value_at s at → at ≡ get_elem? (children s i) n → PlainFinds s b o (placed_at at)
  child_placed b o n none e f = e
  child_placed b o n (some c) e f = record { value = e; plain = refl; stands = (is_child s i n c h.answers lt (sym f)).within; no_path = refl }

  pub list_placed : (b : Bytes) (o : Option Json) (n at : Option ℕ) → o ≡ value_at s at → at ≡ maybe n none (get_elem? (children s i)) → PlainFinds s b o (placed_at at)
  list_placed b o none none e f = e
  list_placed b o none (some c) e f = none_some (sym f)
  list_placed b o (some n) at e f = child_placed b o n at e f

  pub member_placed : (b : Bytes) (o : Option Json) (k : Bytes) (at : Option ℕ) → o ≡ value_at s at → at ≡ member s i k → PlainFinds s b o (placed_at at)
  member_placed b o k none e f = e
  member_placed b o k (some c) e f = record { value = e; plain = refl; stands = (member_latest s i k h.answers lt c (sym f)).child.within; no_path = refl }

-- A value that is the place i of the plan, with its path or without

module _ (s b : Bytes) (v : Value) (h : PlainHeld s b v) (i : ℕ) (e : pathless v ≡ Place i) where
  pub place_held : i < places s
  place_held = (subst (PlainHeld s b) e (pathless_held s b v h)).stands

  pub place_object : (tab : List ℕ) → Accepted s tab → is_object s i ≡ true → (k : Bytes) (at : RustOption ℕ) → found at ≡ member s i k
      → PlainFinds s b (get_member (base_map (plain_json s b v)) k) (placed at)
  place_object tab a o k at f =
      member_placed s tab a i place_held b (get_member (base_map (plain_json s b v)) k) k (found at)
      (ap (λ (j : Json). get_member (base_map j) k) (sym (pathless_plain s b v) ∙ ap (plain_json s b) e)
      ∙ object_found s tab a i place_held (members_of (json_at s i)) (object_at s i (eqb-true _ 123 o)) k
      ∙ ap (value_at s) (sym f))
      f

-- By the form of a value that is not merged

none_told : {A C : Type 0} {a : A} (o : Option A) → o ≡ none → o ≡ some a → C
none_told o e f = none_some (sym e ∙ f)

module _ (s b : Bytes) (v : Value) (k : Bytes) where
  abbrev none_in : Form → Type 0
  none_in form.Null = Unit {0}
  none_in (form.Boolean t) = Unit {0}
  none_in (form.Unsigned n) = Unit {0}
  none_in (form.Negative n) = Unit {0}
  none_in (form.String t) = ⊥
  none_in (form.List i) = ⊥
  none_in (form.Object i) = ⊥
  none_in (form.Merged h n) = Unit {0}

  -- nothing stands in it
  pub plain_none : PlainHeld s b v → (r f : Form) → Formed s b v r → r ≡ f → none_in f → get_member (base_map (plain_json s b v)) k ≡ none
  plain_none p r f h e n = at f (subst (Formed s b v) e h) n
    where
      at : (f : Form) → Formed s b v f → none_in f → get_member (base_map (plain_json s b v)) k ≡ none
      at form.Null h n = ap (λ (j : Json). get_member (base_map j) k) h.is
      at (form.Boolean t) h n = ap (λ (j : Json). get_member (base_map j) k) h.is
      at (form.Unsigned m) h n = ap (λ (j : Json). get_member (base_map j) k) h.is
      at (form.Negative m) h n = ap (λ (j : Json). get_member (base_map j) k) h.is
      at (form.String t) h n = absurd n
      at (form.List i) h n = absurd n
      at (form.Object i) h n = absurd n
      at (form.Merged i m) h n = none_told (merged_of v) p.plain h

  module _ (tab : List ℕ) (a : Accepted s tab) (r : Form) (h : Formed s b v r) (i : ℕ) where
    pub list_within : r ≡ form.List i → ListForm s (plain_json s b v) i
    list_within e = (subst (Formed s b v) e h).is

    pub object_within : r ≡ form.Object i → ObjectForm s (plain_json s b v) i
    object_within e = (subst (Formed s b v) e h).is

    pub plain_list : (e : r ≡ form.List i) (at : RustOption ℕ) → found at ≡ maybe (canonical k) none (get_elem? (children s i))
        → PlainFinds s b (get_member (base_map (plain_json s b v)) k) (placed at)
    plain_list e at f =
        let l = list_within e in
        list_placed s tab a i l.within b (get_member (base_map (plain_json s b v)) k) (canonical k) (found at)
        (ap (λ (j : Json). get_member (base_map j) k) l.at ∙ list_found s tab a i l.within (items_of (plain_json s b v)) (sym l.at ∙ l.is) k ∙ ap (value_at s) (sym f)) f

    pub plain_object : (e : r ≡ form.Object i) (at : RustOption ℕ) → found at ≡ member s i k → PlainFinds s b (get_member (base_map (plain_json s b v)) k) (placed at)
    plain_object e at f =
        let l = object_within e in
        member_placed s tab a i l.within b (get_member (base_map (plain_json s b v)) k) k (found at)
        (ap (λ (j : Json). get_member (base_map j) k) l.at ∙ object_found s tab a i l.within (members_of (plain_json s b v)) (sym l.at ∙ l.is) k ∙ ap (value_at s) (sym f)) f

-- The keys of a merged object, from the last to the first

pub key_same : (b key x : Bytes) (r : Bool) (p q : ℕ) → r ≡ same x key → x ≡ text_at (bits b) p → p ≡ q → r ≡ same (text_at (bits b) q) key
key_same b key x r p q e f g = e ∙ ap (λ (y : Bytes). same y key) (f ∙ ap (text_at (bits b)) g)

module _ (s b : Bytes) (ent : List ℕ) (h n : ℕ) (key : Bytes) (o : Option Json) (k : ℕ) where
  module _ (lt : 0 < k) (e : o ≡ find_last (pairs b ent (json_of s b ent) h k) key) (r : Bool) (f : r ≡ same (text_at (bits b) (place ent (h + (k - 1)))) key) where
    last_step : o ≡ pick r (some (json_of s b ent (hash_value ent (h + (k - 1))))) (find_last (pairs b ent (json_of s b ent) h (k - 1)) key)
    last_step =
        let x : k ≡ suc (k - 1) = omega arith in
        e ∙ ap (λ (m : ℕ). find_last (pairs b ent (json_of s b ent) h m) key) x
        ∙ ap (λ (l : List (Bytes × Json)). find_last l key) (pairs_more b ent (json_of s b ent) h (k - 1))
        ∙ find_last_more (pairs b ent (json_of s b ent) h (k - 1)) (text_at (bits b) (place ent (h + (k - 1))), json_of s b ent (hash_value ent (h + (k - 1)))) key
        ∙ ap (λ (t : Bool). pick t (some (json_of s b ent (hash_value ent (h + (k - 1))))) (find_last (pairs b ent (json_of s b ent) h (k - 1)) key)) (sym f)

    pub last_hit : k ≤ n → r ≡ true → KeyAt s b ent h n o (h + (k - 1))
    last_hit le g = record {
      low = omega arith;
      high = omega arith;
      value = last_step ∙ ap (λ (t : Bool). pick t (some (json_of s b ent (hash_value ent (h + (k - 1))))) (find_last (pairs b ent (json_of s b ent) h (k - 1)) key)) g;
    }

    pub last_miss : r ≡ false → o ≡ find_last (pairs b ent (json_of s b ent) h (k - 1)) key
    last_miss g = last_step ∙ ap (λ (t : Bool). pick t (some (json_of s b ent (hash_value ent (h + (k - 1))))) (find_last (pairs b ent (json_of s b ent) h (k - 1)) key)) g

  pub last_none : (0 < k → ⊥) → o ≡ find_last (pairs b ent (json_of s b ent) h k) key → o ≡ none
  last_none ne e =
      let x : k ≡ 0 = omega arith in
      e ∙ ap (λ (m : ℕ). find_last (pairs b ent (json_of s b ent) h m) key) x

-- From a merged object to its base

module _ (s b : Bytes) (ent : List ℕ) (v : Value) (k : Bytes) where
  -- what is looked for in v stands in u
  pub record Inward (u : Value) : Type 0 where
    pub same : get_member (base_map (json_of s b ent v)) k ≡ get_member (base_map (json_of s b ent u)) k
    pub held : Held s b ent u
    pub stands : (t : ℕ) → Stands s b ent t v → Stands s b ent t u
    pub told : tells s b ent k v ≡ tells s b ent k u

  pub inward_start : Held s b ent v → Inward v
  inward_start h = record { same = refl; held = h; stands = λ t x. x; told = refl }

  module _ (u : Value) (w : Inward u) where
    pub inward_plain : merged_of u ≡ none → PlainHeld s b u
    inward_plain e = record { plain = e; stands = stands_plain s b ent w.held.used u e w.held.stands }

    pub inward_end : merged_of u ≡ none → (r : RustOption Value) → PlainFinds s b (get_member (base_map (plain_json s b u)) k) r → Finds s b ent v (get_member (base_map (json_of s b ent v)) k) r
    inward_end e (Some x) f = record {
      value = w.same ∙ ap (λ (j : Json). get_member (base_map j) k) (plain_is s b ent u e) ∙ f.value ∙ ap some (sym (plain_is s b ent x f.plain));
      stands = λ t z. plain f.plain f.stands;
      no_path = f.no_path;
    }
    inward_end e None f = w.same ∙ ap (λ (j : Json). get_member (base_map j) k) (plain_is s b ent u e) ∙ f

    -- there it is told where an object of the plan stands
    pub inward_told : merged_of u ≡ none → tells s b ent k v ≡ stands_object s u
    inward_told e = w.told ∙ tells_plain s b ent k u e

    module _ (h n : ℕ) (e : u ≡ Merged h n) where
      pub inward_merged : MergedStands s b ent w.held.used h n
      inward_merged = stands_merged s b ent w.held.used u h n (ap merged_of e) w.held.stands

      pub inward_room : 2 * (h + n) ≤ length ent
      inward_room = omega (arith, inward_merged.within, w.held.room)

      in_merged : get_member (base_map (json_of s b ent v)) k
          ≡ maybe (find_last (pairs b ent (json_of s b ent) h n) k) (get_member (base_map (json_of s b ent (hash_base ent h))) k) some
      in_merged =
          w.same ∙ ap (λ (x : Value). get_member (base_map (json_of s b ent x)) k) e
          ∙ ap (λ (j : Json). get_member (base_map j) k) (stands_merged_is s b ent h n inward_merged.base inward_merged.values)
          ∙ get_base_merged (json_of s b ent (hash_base ent h)) (pairs b ent (json_of s b ent) h n) k

      told_merged : tells s b ent k v ≡ (has_pair s b ent h n k || tells s b ent k (hash_base ent h))
      told_merged = w.told ∙ ap (tells s b ent k) e ∙ tells_merged s b ent k h n (stands_rank s b ent h (hash_base ent h) inward_merged.base)

      -- a pair tells it
      pub inward_known : (j : Json) → find_last (pairs b ent (json_of s b ent) h n) k ≡ some j → tells s b ent k v ≡ true
      inward_known j o = told_merged ∙ ap (λ (p : Option Json). maybe p false (λ i. true) || tells s b ent k (hash_base ent h)) o

      value_stands : (t i : ℕ) → h ≤ i → i < h + n → Stands s b ent t v → Stands s b ent t (hash_value ent i)
      value_stands t i ge lt z =
          let m = stands_merged s b ent t u h n (ap merged_of e) (w.stands t z) in
          let x : h + (i - h) ≡ i = omega arith in
          stands_later s b ent h t (hash_value ent i) (omega (arith, m.within)) (subst (λ (y : ℕ). Stands s b ent h (hash_value ent y)) x (m.values (i - h) (omega arith)))

      -- the key was found
      pub inward_found : (i : ℕ) → KeyAt s b ent h n (find_last (pairs b ent (json_of s b ent) h n) k) i → (x : Value) → x ≡ pathless (hash_value ent i)
          → IsFound s b ent v (get_member (base_map (json_of s b ent v)) k) x
      inward_found i a x f =
          subst (IsFound s b ent v (get_member (base_map (json_of s b ent v)) k)) (sym f)
          (record {
            value =
                in_merged ∙ ap (λ (o : Option Json). maybe o (get_member (base_map (json_of s b ent (hash_base ent h))) k) some) a.value
                ∙ ap some (sym (pathless_json s b ent (hash_value ent i)));
            stands = λ t z. pathless_stands s b ent t (hash_value ent i) (value_stands t i a.low a.high z);
            no_path = pathless_none (hash_value ent i);
          })

      -- it was not
      module _ (x : Value) (f : x ≡ hash_base ent h) where
        pub inward_on : find_last (pairs b ent (json_of s b ent) h n) k ≡ none → Inward x
        inward_on o = subst Inward (sym f) (record {
          same = in_merged ∙ ap (λ (p : Option Json). maybe p (get_member (base_map (json_of s b ent (hash_base ent h))) k) some) o;
          held = record { used = h; room = omega (arith, inward_room); stands = inward_merged.base };
          stands = λ t z. let m = stands_merged s b ent t u h n (ap merged_of e) (w.stands t z) in stands_later s b ent h t (hash_base ent h) (omega (arith, m.within)) m.base;
          told = told_merged ∙ ap (λ (p : Option Json). maybe p false (λ i. true) || tells s b ent k (hash_base ent h)) o;
        })

        pub inward_less : rank x < rank u
        inward_less = rw (f, e) (omega (arith, stands_rank s b ent h (hash_base ent h) inward_merged.base))
