-- How many members there are.
use Rattle.std.specs.Prelude.{Option as RustOption, Some, None}
use Prim.Native.Nat.{ℕ, zero, suc, ◌+◌, ◌-◌, ◌*◌, ◌≤◌, ◌<◌}
use mathlib.Core.Bool.{Bool, true, false}
use mathlib.Core.List.{List}
use mathlib.Core.Option.{Option, none}
use mathlib.Core.Path.{◌≡◌, refl, sym, ap, ◌∙◌, subst}
use native.Mathlib.Omega.{arith}
use native.Mathlib.Numerals.{add-one}
use lib.ListN.{length}
use Rattle.rules.specs.Bytes.{Bytes, pick, before, same}
use Rattle.rules.specs.Json.{Json, jnull, jbool, jpos, jneg, jstr, jarr, jobj, Map, mnil, mcons, get_member, insert, count, Fits}
use Rattle.rules.specs.Bits.{bits}
use Rattle.rules.specs.Scan.{saying}
use Rattle.rules.specs.Template as rule
use Rattle.rules.specs.Tree.{Trees, tree_nil, tree_cons}
use Rattle.rules.specs.Plan.{size, name_of, meaning, members_onto}
use Rattle.rules.specs.Context.{chars, base_map}
use Rattle.layout.specs.Text.{text_at}
use Rattle.merging.specs.Counting.{Ascends, one_if_new, lacking, KeysAscend}
use Rattle.merging.proofs.Counting.{fits_ascends, numbered_ascends, numbered_chars_ascends, merged_ascends, lacking_more, count_base_merged, count_numbered, count_numbered_chars}
use Rattle.places.specs.Accepted.{Accepted}
use Rattle.places.specs.Places.{places, inside, tree_at, json_at, children_from, children}
use Rattle.places.specs.Kinds.{items_of, members_of}
use Rattle.places.specs.Items.{is_map, list_count}
use Rattle.places.specs.Ascending.{at_fits}
use Rattle.places.specs.Children.{none_some}
use Rattle.parts.specs.Says.{literal_at}
use Rattle.value.specs.declared.Value.{Value}
use Rattle.value.specs.declared.Value.TheVariants.{Missing, Null, False, True, Empty, Context, Place, Literal, Index, IndexText, Name, Text, SaidChar, PackedChar, Merged}
use Rattle.meaning.specs.Entries.{place, hash_value, hash_base}
use Rattle.meaning.specs.Meaning.{plain_json, pairs, merged_of, rank, json_of}
use Rattle.meaning.specs.MeaningLaws.{plain_is}
use Rattle.meaning.specs.Standing.{PlainStands, KeysStand, Stands, plain, merged, stands_rank, stands_plain, MergedStands, stands_merged}
use Rattle.meaning.specs.Kept.{stands_merged_is}
use Rattle.meaning.specs.Forms.{Formed}
use Rattle.meaning.specs.declared.Form.{Form}
use Rattle.meaning.specs.declared.Form.TheVariants as form
use Rattle.lookup.specs.Answers.{Held, PlainHeld, Finds}
use Rattle.lookup.specs.Keys.{pairs_more}
use Rattle.lookup.proofs.Finding.{few_children}
use Rattle.members.specs.Parts.{Parts}

-- Names ascend

by_object : (j : Json) → ((m : Map) → j ≡ jobj m → Ascends m) → Ascends (base_map j)
by_object jnull f = tt
by_object (jbool t) f = tt
by_object (jpos n) f = tt
by_object (jneg n) f = tt
by_object (jstr l) f = numbered_chars_ascends 0 (chars l) mnil tt
by_object (jarr l) f = numbered_ascends 0 l mnil tt
by_object (jobj m) f = f m refl

-- no object
abbrev Other : Json → Type 0
Other jnull = Unit {0}
Other (jbool t) = Unit {0}
Other (jpos n) = Unit {0}
Other (jneg n) = Unit {0}
Other (jstr l) = Unit {0}
Other (jarr l) = Unit {0}
Other (jobj m) = ⊥

no_object : (j : Json) → Other j → (m : Map) → j ≡ jobj m → Ascends m
no_object j o m e = absurd (subst Other e o)

other_literal : (l : rule.Literal) → Other (rule.literal_json l)
other_literal rule.null = tt
other_literal (rule.boolean t) = tt
other_literal (rule.unsigned n) = tt
other_literal (rule.negative n) = tt
other_literal (rule.string t) = tt

module _ (s b : Bytes) (tab : List ℕ) (a : Accepted s tab) where
  place_ascends : (i : ℕ) → i < places s → (m : Map) → json_at s i ≡ jobj m → Ascends m
  place_ascends i lt m e = fits_ascends m (subst Fits e (at_fits s a.answers i lt))

  plain_ascends : (v : Value) → PlainStands s b v → Ascends (base_map (plain_json s b v))
  plain_ascends Missing h = tt
  plain_ascends Null h = tt
  plain_ascends False h = tt
  plain_ascends True h = tt
  plain_ascends Empty h = tt
  plain_ascends (Context i) h = by_object (json_at s i) (place_ascends i h.0)
  plain_ascends (Place i) h = by_object (json_at s i) (place_ascends i h)
  plain_ascends (Literal p) h = by_object (rule.literal_json (literal_at (bits b) p)) (no_object (rule.literal_json (literal_at (bits b) p)) (other_literal (literal_at (bits b) p)))
  plain_ascends (Index n) h = tt
  plain_ascends (IndexText n) h = by_object (plain_json s b (IndexText n)) (no_object (plain_json s b (IndexText n)) tt)
  plain_ascends (Name o) h = by_object (plain_json s b (Name o)) (no_object (plain_json s b (Name o)) tt)
  plain_ascends (Text p) h = by_object (plain_json s b (Text p)) (no_object (plain_json s b (Text p)) tt)
  plain_ascends (SaidChar o n) h = by_object (plain_json s b (SaidChar o n)) (no_object (plain_json s b (SaidChar o n)) tt)
  plain_ascends (PackedChar p n) h = by_object (plain_json s b (PackedChar p n)) (no_object (plain_json s b (PackedChar p n)) tt)
  plain_ascends (Merged g n) h = absurd h

  pub stands_ascends : (ent : List ℕ) (t : ℕ) (v : Value) → Stands s b ent t v → Ascends (base_map (json_of s b ent v))
  stands_ascends ent t v (plain e p) = subst (λ (j : Json). Ascends (base_map j)) (sym (plain_is s b ent v e)) (plain_ascends v p)
  stands_ascends ent t v (merged h n le k base values few) =
      subst (λ (j : Json). Ascends (base_map j)) (sym (stands_merged_is s b ent h n base values))
      (merged_ascends (json_of s b ent (hash_base ent h)) (pairs b ent (json_of s b ent) h n) (stands_ascends ent h (hash_base ent h) base))

-- the keys of a merged object ascend
keys_from : (b : Bytes) (ent : List ℕ) (f : Value → Json) (e n : ℕ)
    → ((i : ℕ) → suc i < n → before (text_at (bits b) (place ent (e + i))) (text_at (bits b) (place ent (e + suc i))) ≡ true) → KeysAscend (pairs b ent f e n)
keys_from b ent f e zero h = tt
keys_from b ent f e (suc zero) h = tt
keys_from b ent f e (suc (suc n)) h =
    let x : e + 0 ≡ e = omega arith in
    let y : e + 1 ≡ suc e = omega arith in (
      subst (λ (z : ℕ). before (text_at (bits b) (place ent e)) (text_at (bits b) (place ent z)) ≡ true) y
          (subst (λ (z : ℕ). before (text_at (bits b) (place ent z)) (text_at (bits b) (place ent (e + 1))) ≡ true) x (h 0 (omega arith))),
      keys_from b ent f (suc e) (suc n) (λ i lt.
          let p : suc e + i ≡ e + suc i = omega arith in
          let q : suc e + suc i ≡ e + suc (suc i) = omega arith in
          rw (p, q) (h (suc i) (omega arith))),
    )

-- Few members

insert_few : (k : Bytes) (v : Json) (m : Map) → count (insert k v m) ≤ suc (count m)
insert_few k v mnil = omega arith
insert_few k v (mcons n j l) = go (same k n) (before k n) (insert_few k v l)
  where
    go : (p q : Bool) → count (insert k v l) ≤ suc (count l) → count (pick p (mcons k v l) (pick q (mcons k v (mcons n j l)) (mcons n j (insert k v l)))) ≤ suc (suc (count l))
    go true q h = omega arith
    go false true h = omega arith
    go false false h = omega arith

pub members_few : (s : Bytes) (l : Trees) (n : ℕ) (acc : Map) → count (members_onto s acc l) ≤ count acc + length (children_from n l)
members_few s tree_nil n acc = omega arith
members_few s (tree_cons t l) n acc =
    let p = members_few s l (n + size t) (insert (saying s (name_of t)) (meaning s t) acc) in
    let q = insert_few (saying s (name_of t)) (meaning s t) acc in
    omega arith

module _ (s b : Bytes) (tab : List ℕ) (a : Accepted s tab) (v : Value) (r : Form) (h : Formed s b v r) (i : ℕ) where
  pub list_counted : r ≡ form.List i → (n : ℕ) → n ≡ length (children s i) → (n ≡ count (base_map (plain_json s b v))) × (n ≤ 65536)
  list_counted e n f =
      let l = (subst (Formed s b v) e h).is in
      let c = list_count s a.answers i l.within (items_of (plain_json s b v)) (sym l.at ∙ l.is) in
      let w = few_children s tab a i l.within in
      (f ∙ sym c ∙ sym (count_numbered (items_of (plain_json s b v)) (omega arith)) ∙ ap (λ (j : Json). count (base_map j)) (sym l.is), omega arith)

  pub object_counted : r ≡ form.Object i → (n : ℕ) → n ≡ count (members_of (json_at s i)) → (n ≡ count (base_map (plain_json s b v))) × (n ≤ 65536)
  unfolding children
  object_counted e n f =
      let l = (subst (Formed s b v) e h).is in
      let x = f ∙ ap (λ (j : Json). count (members_of j)) (sym l.at) in
      let w = few_children s tab a i l.within in
      let m = members_few s (inside (tree_at s i)) (i + 1) mnil in
      let g = ap count (is_map s i (members_of (plain_json s b v)) (sym l.at ∙ l.is)).means in
      (x ∙ ap (λ (j : Json). count (base_map j)) (sym l.is), omega arith)

-- nothing stands in it
abbrev pub Bare : Form → Type 0
Bare form.Null = Unit {0}
Bare (form.Boolean t) = Unit {0}
Bare (form.Unsigned n) = Unit {0}
Bare (form.Negative n) = Unit {0}
Bare (form.String t) = ⊥
Bare (form.List i) = ⊥
Bare (form.Object i) = ⊥
Bare (form.Merged g n) = Unit {0}

pub bare_counted : (s b : Bytes) (v : Value) → PlainHeld s b v → (r f : Form) → Formed s b v r → r ≡ f → Bare f → (0 ≡ count (base_map (plain_json s b v))) × (0 ≤ 65536)
bare_counted s b v p r f h e n = (at f (subst (Formed s b v) e h) n, omega arith)
  where
    at : (f : Form) → Formed s b v f → Bare f → 0 ≡ count (base_map (plain_json s b v))
    at form.Null h n = ap (λ (j : Json). count (base_map j)) (sym h.is)
    at (form.Boolean t) h n = ap (λ (j : Json). count (base_map j)) (sym h.is)
    at (form.Unsigned m) h n = ap (λ (j : Json). count (base_map j)) (sym h.is)
    at (form.Negative m) h n = ap (λ (j : Json). count (base_map j)) (sym h.is)
    at (form.String t) h n = absurd n
    at (form.List i) h n = absurd n
    at (form.Object i) h n = absurd n
    at (form.Merged g m) h n = none_some (sym p.plain ∙ h)

pub string_counted : (s b : Bytes) (j : Json) (l : Bytes) (n : ℕ) → j ≡ jstr l → n ≡ length (chars l) → n ≤ 65536 → (n ≡ count (base_map j)) × (n ≤ 65536)
string_counted s b j l n e f le =
    let x : length (chars l) ≤ 65536 = subst (λ (k : ℕ). k ≤ 65536) f le in
    (f ∙ sym (count_numbered_chars (chars l) x) ∙ ap (λ (k : Json). count (base_map k)) (sym e), le)

-- One key

module _ (s b : Bytes) (ent : List ℕ) (v : Value) (o p : Option Json) (r : RustOption Value) (h : Finds s b ent v o r) (g : o ≡ p) where
  pub old_one : (w : Value) → r ≡ Some w → (0 ≡ one_if_new p) × (0 ≤ 1)
  old_one w e = let k = subst (Finds s b ent v o) e h in (ap one_if_new (sym k.value ∙ g), omega arith)

  pub new_one : r ≡ None → (1 ≡ one_if_new p) × (1 ≤ 1)
  new_one e = let k = subst (Finds s b ent v o) e h in (ap one_if_new (sym k ∙ g), omega arith)

-- the first k pairs
pub lacking_step : (b : Bytes) (ent : List ℕ) (f : Value → Json) (h k : ℕ) (m : Map)
    → lacking (pairs b ent f h (k + 1)) m ≡ lacking (pairs b ent f h k) m + one_if_new (get_member m (text_at (bits b) (place ent (h + k))))
lacking_step b ent f h k m =
    ap (λ (n : ℕ). lacking (pairs b ent f h n) m) (add-one k) ∙ ap (λ (l : List (Bytes × Json)). lacking l m) (pairs_more b ent f h k)
    ∙ lacking_more (pairs b ent f h k) (text_at (bits b) (place ent (h + k)), f (hash_value ent (h + k))) m

-- a merged object has the members of its base, and those of its pairs whose names the base lacks
module _ (s b : Bytes) (tab : List ℕ) (a : Accepted s tab) (ent : List ℕ) (h n : ℕ) where
  merged_sum : KeysStand b ent h n → Stands s b ent h (hash_base ent h) → ((i : ℕ) → i < n → Stands s b ent h (hash_value ent (h + i)))
      → count (base_map (json_of s b ent (Merged h n))) ≡ count (base_map (json_of s b ent (hash_base ent h))) + lacking (pairs b ent (json_of s b ent) h n) (base_map (json_of s b ent (hash_base ent h)))
  merged_sum k base values =
      ap (λ (j : Json). count (base_map j)) (stands_merged_is s b ent h n base values)
      ∙ count_base_merged (json_of s b ent (hash_base ent h)) (pairs b ent (json_of s b ent) h n) (keys_from b ent (json_of s b ent) h n k.ascend) (stands_ascends s b tab a ent h (hash_base ent h) base)

  module _ (p : Parts s b ent h n) (x : Value) (f : x ≡ hash_base ent h) where
    pub parts_held : Held s b ent x
    parts_held = subst (Held s b ent) (sym f) (record { used = h; room = omega (arith, p.room); stands = p.base })

    pub parts_counted : (r q : ℕ) → r ≡ lacking (pairs b ent (json_of s b ent) h n) (base_map (json_of s b ent x)) → q ≡ count (base_map (json_of s b ent x))
        → r + q ≡ count (base_map (json_of s b ent (Merged h n)))
    parts_counted r q g e =
        let y = ap (λ (z : Value). lacking (pairs b ent (json_of s b ent) h n) (base_map (json_of s b ent z))) f in
        let z = ap (λ (z : Value). count (base_map (json_of s b ent z))) f in
        let w = merged_sum p.keys p.base p.values in
        omega arith

-- From a merged object to its base: n members were met

module _ (s b : Bytes) (tab : List ℕ) (a : Accepted s tab) (ent : List ℕ) (v : Value) where
  pub record Counted (n : ℕ) (u : Value) : Type 0 where
    pub sum : count (base_map (json_of s b ent v)) ≡ n + count (base_map (json_of s b ent u))
    pub bound : count (base_map (json_of s b ent u)) ≤ 65536 → count (base_map (json_of s b ent v)) ≤ 65536
    pub held : Held s b ent u
    pub few : 2 * (n + held.used) ≤ length ent

  pub counted_start : Held s b ent v → Counted 0 v
  counted_start h = record { sum = omega arith; bound = λ z. z; held = h; few = omega (arith, h.room) }

  module _ (n : ℕ) (u : Value) (w : Counted n u) where
    pub counted_plain : merged_of u ≡ none → PlainHeld s b u
    counted_plain e = record { plain = e; stands = stands_plain s b ent w.held.used u e w.held.stands }

    pub counted_end : merged_of u ≡ none → (r : ℕ) → r ≡ count (base_map (plain_json s b u)) → r ≤ 65536 → (n + r ≡ count (base_map (json_of s b ent v))) × (n + r ≤ 65536)
    counted_end e r f le =
        let x = ap (λ (j : Json). count (base_map j)) (plain_is s b ent u e) in
        let y = w.bound (omega arith) in
        (omega (arith, w.sum), omega (arith, w.sum))

    module _ (h m : ℕ) (e : u ≡ Merged h m) where
      pub counted_merged : MergedStands s b ent w.held.used h m
      counted_merged = stands_merged s b ent w.held.used u h m (ap merged_of e) w.held.stands

      pub counted_room : 2 * (n + (h + m)) ≤ length ent
      counted_room = omega (arith, counted_merged.within, w.few)

      module _ (x : Value) (f : x ≡ hash_base ent h) where
        pub counted_held : Held s b ent x
        counted_held = subst (Held s b ent) (sym f) (record { used = h; room = omega (arith, counted_room); stands = counted_merged.base })

        pub counted_less : rank x < rank u
        counted_less = rw (f, e) (omega (arith, stands_rank s b ent h (hash_base ent h) counted_merged.base))

        pub counted_on : (r : ℕ) → r ≡ lacking (pairs b ent (json_of s b ent) h m) (base_map (json_of s b ent x)) → r ≤ m → Counted (n + r) x
        counted_on r g le = subst (Counted (n + r)) (sym f) (record {
          sum =
              let y = ap (λ (z : Value). lacking (pairs b ent (json_of s b ent) h m) (base_map (json_of s b ent z))) f in
              let q = ap (λ (z : Value). count (base_map (json_of s b ent z))) e ∙ merged_sum s b tab a ent h m counted_merged.keys counted_merged.base counted_merged.values in
              omega (arith, w.sum);
          bound = λ z. let q = ap (λ (z : Value). count (base_map (json_of s b ent z))) e in w.bound (omega (arith, counted_merged.few));
          held = record { used = h; room = omega (arith, counted_room); stands = counted_merged.base };
          few = omega (arith, counted_room);
        })
