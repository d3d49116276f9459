-- The scans for the next member, step by step.
use Rattle.std.specs.Prelude.{Option as RustOption, Some, None}
use Prim.Native.Nat.{ℕ, zero, suc, ◌+◌, ◌*◌, ◌≤◌, ◌<◌}
use mathlib.Core.Bool.{Bool, true, false, ◌&&◌, not}
use mathlib.Core.List.{List, [], ◌∷◌, ◌++◌, append_assoc, append-nil}
use mathlib.Core.Option.{Option, none, some}
use mathlib.Core.Path.{◌≡◌, refl, sym, ap, ap₂, ◌∙◌, subst}
use native.Mathlib.Omega.{arith}
use native.Mathlib.Numerals.{add-one}
use lib.Dec.{eqb}
use lib.ListN.{length, get_elem?, length-append}
use Rattle.rules.specs.Bytes.{Bytes, pick, maybe, before, digits}
use Rattle.rules.specs.Bits.{bits}
use Rattle.rules.specs.Bundle.{string}
use Rattle.rules.specs.Json.{Json, jstr, jarr, jobj, Jsons, jnil, jcons, Map, mnil, mcons, get_item}
use Rattle.rules.specs.Plan.{name_of}
use Rattle.rules.specs.Scan.{saying}
use Rattle.rules.specs.Context.{chars, numbered, numbered_chars, base_map}
use Rattle.layout.specs.Text.{text_at}
use Rattle.merging.specs.Order.{is_above, above, first_of, combine, nearer, least, first_items}
use Rattle.merging.proofs.Order.{least_more, combine_assoc, first_base_merged, first_item_at, first_char_more}
use Rattle.parts.specs.Holds.{Holds}
use Rattle.chars.specs.Spelled.{Spelled, First}
use Rattle.chars.proofs.Counts.{count_few}
use Rattle.saying.specs.Characters.{Whole}
use Rattle.text.specs.Rest.{rest}
use Rattle.text.specs.declared.Text.{Text as Spelling}
use Rattle.places.specs.Accepted.{Accepted}
use Rattle.places.specs.Places as places
use Rattle.places.specs.Places.{places, tree_at, json_at, name_at, children, value_at, better, least_onto, next_member, rest_above}
use Rattle.places.specs.Nodes.{few_places}
use Rattle.places.specs.Kinds.{found, items_of, members_of}
use Rattle.places.specs.Items.{list_item, is_map}
use Rattle.places.specs.Children.{is_child, Child, none_some}
use Rattle.places.specs.Ascending.{object_rest}
use Rattle.places.proofs.Texts.{name_says}
use Rattle.value.specs.declared.Value.{Value}
use Rattle.value.specs.declared.Value.TheVariants.{Null, Place, IndexText, Name, Text, Merged}
use Rattle.meaning.specs.Entries.{place, hash_value, hash_base}
use Rattle.meaning.specs.Meaning.{plain_json, pairs, merged_of, rank, json_of}
use Rattle.meaning.specs.MeaningLaws.{plain_is}
use Rattle.meaning.specs.Standing.{NameStands, KeysStand, Stands, plain, stands_plain, stands_rank, stands_later, MergedStands, stands_merged}
use Rattle.meaning.specs.Kept.{stands_merged_is}
use Rattle.meaning.specs.Forms.{ListForm, ObjectForm, Formed}
use Rattle.meaning.specs.declared.Form.{Form}
use Rattle.meaning.specs.declared.Form.TheVariants as form
use Rattle.lookup.specs.Answers.{Held, PlainHeld}
use Rattle.lookup.specs.Keys.{pairs_more}
use Rattle.lookup.proofs.Scanning.{Scans, scan_start, scan_end, scan_on, at_child}
use Rattle.members.proofs.Counting.{Bare}
use Rattle.members.proofs.Nearing.{by_value_no_path, by_value_present, by_value_means, by_value_held, by_value_json, by_value_stands, shown_combined, shown_nearer, has_combined, has_nearer, has_so, shown_plain}
use Rattle.members.specs.Next.{by_value, KeyHeld, shown, ItemHeld, PlainItem, PairItem, PlainNext, MemberHas, MemberHeld, combined, nearer_of}

-- Keys

pub text_key : (s b : Bytes) (p : ℕ) → Holds string (bits b) p → KeyHeld s b (Text p)
text_key s b p h = record { held = record { plain = refl; stands = h }; says = refl }

pub index_key : (s b : Bytes) (n : ℕ) → n < 65536 → KeyHeld s b (IndexText n)
index_key s b n lt = record { held = record { plain = refl; stands = lt }; says = refl }

pub name_key : (s b : Bytes) (o : ℕ) → NameStands s o → KeyHeld s b (Name o)
name_key s b o h = record { held = record { plain = refl; stands = h }; says = refl }

-- Hash pairs

module _ (s b : Bytes) (ent : List ℕ) (h n : ℕ) (after : Option Bytes) where
  -- k of them are passed
  pub record Pairing (k : ℕ) (best : RustOption (Value × Value)) : Type 0 where
    pub is : shown s b (json_of s b ent) best ≡ least after (pairs b ent (json_of s b ent) h k)
    pub holds : MemberHas s b (PairItem ent h n) best

  pub pairing_start : Pairing 0 None
  pairing_start = record { is = refl; holds = tt }

  pub pairing_on : (k : ℕ) (best : RustOption (Value × Value)) → Pairing k best → k < n → KeysStand b ent h n → (p : ℕ) → p ≡ place ent (h + k) → (v : Value) → v ≡ by_value (hash_value ent (h + k))
      → (r : RustOption (Value × Value)) → r ≡ nearer_of s b after (Text p) v best → Pairing (k + 1) r
  pairing_on k best w lt q p e v f r g = record {
    is =
        ap (shown s b (json_of s b ent)) g ∙ shown_nearer s b (json_of s b ent) after (Text p) v best
        ∙ ap₂ (λ (x : Bytes) (j : Json). nearer after x j (shown s b (json_of s b ent) best)) (ap (text_at (bits b)) e) (ap (json_of s b ent) f ∙ by_value_json s b ent (hash_value ent (h + k)))
        ∙ ap (nearer after (text_at (bits b) (place ent (h + k))) (json_of s b ent (hash_value ent (h + k)))) w.is
        ∙ sym (least_more after none (pairs b ent (json_of s b ent) h k) (text_at (bits b) (place ent (h + k)), json_of s b ent (hash_value ent (h + k))))
        ∙ ap (least after) (sym (pairs_more b ent (json_of s b ent) h k))
        ∙ ap (λ (m : ℕ). least after (pairs b ent (json_of s b ent) h m)) (sym (add-one k));
    holds = subst (MemberHas s b (PairItem ent h n)) (sym g)
        (has_nearer s b (PairItem ent h n) after (Text p) v best (text_key s b p (subst (Holds string (bits b)) (sym e) (q.keys k lt))) (record { number = k; within = lt; is = f }) w.holds);
  }

-- The items of a list

items_end : (n : ℕ) (l : Jsons) → get_item l n ≡ none → first_items n l ≡ l
items_end zero jnil h = refl
items_end zero (jcons j l) h = none_some (sym h)
items_end (suc n) jnil h = refl
items_end (suc n) (jcons j l) h = ap (jcons j) (items_end n l h)

place_item : (s b : Bytes) (c : ℕ) → c < places s → PlainItem s b (Place c)
place_item s b c lt = record { held = record { plain = refl; stands = lt }; no_path = refl; present = refl }

module _ (s b : Bytes) (tab : List ℕ) (a : Accepted s tab) (i : ℕ) (lt : i < places s) (after : Option Bytes) where
  module _ (e : json_at s i ≡ jarr (items_of (json_at s i))) where
    -- n of them are passed
    pub record Listing (n : ℕ) (best : RustOption (Value × Value)) (at : RustOption ℕ) : Type 0 where
      pub walks : found at ≡ get_elem? (children s i) n
      pub is : shown s b (plain_json s b) best ≡ first_of (above after (numbered 0 (first_items n (items_of (json_at s i))) mnil))
      pub holds : MemberHas s b (PlainItem s b) best

    pub listing_start : (at : RustOption ℕ) → found at ≡ get_elem? (children s i) 0 → Listing 0 None at
    listing_start at f = record { walks = f; is = refl; holds = tt }

    item_is : (n : ℕ) (o : Option ℕ) → o ≡ get_elem? (children s i) n → get_item (items_of (json_at s i)) n ≡ value_at s o
    item_is n o f = list_item s a.answers i lt (items_of (json_at s i)) e n ∙ ap (value_at s) (sym f)

    module _ (n : ℕ) (best : RustOption (Value × Value)) (at : RustOption ℕ) (w : Listing n best at) where
      pub listing_end : at ≡ None → PlainNext s b (json_at s i) after best
      listing_end f = record {
        is =
            w.is ∙ ap (λ (l : Jsons). first_of (above after (numbered 0 l mnil))) (items_end n (items_of (json_at s i)) (item_is n none (sym (ap found f) ∙ w.walks)))
            ∙ ap (λ (j : Json). first_of (above after (base_map j))) (sym e);
        holds = w.holds;
      }

      module _ (c : ℕ) (f : at ≡ Some c) where
        pub listing_child : Child s i n c
        listing_child = is_child s i n c a.answers lt (sym w.walks ∙ ap found f)

        pub listing_few : n < 4096
        listing_few = omega (arith, listing_child.behind, listing_child.within, few_places s a.answers)

        pub listing_key : KeyHeld s b (IndexText n)
        listing_key = index_key s b n (omega (arith, listing_few))

        pub listing_on : (r : RustOption (Value × Value)) → r ≡ nearer_of s b after (IndexText n) (Place c) best → (next : RustOption ℕ)
            → ((j : ℕ) → get_elem? (children s i) j ≡ some c → found next ≡ get_elem? (children s i) (suc j)) → Listing (n + 1) r next
        listing_on r g next m = subst (λ (k : ℕ). Listing k r next) (sym (add-one n)) (record {
          walks = m n listing_child.is;
          is =
              ap (shown s b (plain_json s b)) g ∙ shown_nearer s b (plain_json s b) after (IndexText n) (Place c) best ∙ ap (nearer after (digits n) (json_at s c)) w.is
              ∙ sym (first_item_at after (items_of (json_at s i)) n (json_at s c) (item_is n (some c) (sym (ap found f) ∙ w.walks)));
          holds = subst (MemberHas s b (PlainItem s b)) (sym g) (has_nearer s b (PlainItem s b) after (IndexText n) (Place c) best listing_key (place_item s b c listing_child.within) w.holds);
        })

  -- The members of an object

  abbrev placed_of : Option ℕ → RustOption (Value × Value)
  placed_of none = None
  placed_of (some c) = Some ((Name (name_of (tree_at s c))), (Place c))

  first_rest : (m : Map) → first_of (above after m) ≡ first_of (rest_above after m)
  first_rest mnil = refl
  first_rest (mcons n j l) = go after (first_rest l)
    where
      by : (t : Bool) → first_of (above after l) ≡ first_of (rest_above after l) → first_of (pick t (mcons n j (above after l)) (above after l)) ≡ first_of (pick t (mcons n j l) (rest_above after l))
      by true h = refl
      by false h = h

      go : (o : Option Bytes) → first_of (above after l) ≡ first_of (rest_above after l)
          → first_of (pick (is_above o n) (mcons n j (above after l)) (above after l)) ≡ first_of (pick (places.above o n) (mcons n j l) (rest_above after l))
      go none h = refl
      go (some k) h = by (before k n) h

  same_above : (o : Option Bytes) (x : Bytes) → is_above o x ≡ places.above o x
  same_above none x = refl
  same_above (some k) x = refl

  module _ (e : json_at s i ≡ jobj (members_of (json_at s i))) where
    -- the next member, by its place
    pub object_first : (o : Option ℕ) → next_member s i after ≡ o → first_of (above after (members_of (json_at s i))) ≡ maybe o none (λ c. some (name_at s c, json_at s c))
    object_first o f =
        first_rest (members_of (json_at s i))
        ∙ ap first_of (object_rest s a.answers i lt (members_of (json_at s i)) e after
        ∙ ap (λ (p : Option ℕ). maybe p mnil (λ c. mcons (name_at s c) (json_at s c) (rest_above (some (name_at s c)) (members_of (json_at s i))))) f)
        ∙ go o
      where
        go : (p : Option ℕ) → first_of (maybe p mnil (λ c. mcons (name_at s c) (json_at s c) (rest_above (some (name_at s c)) (members_of (json_at s i))))) ≡ maybe p none (λ c. some (name_at s c, json_at s c))
        go none = refl
        go (some c) = refl

    shown_placed : (o : Option ℕ) → next_member s i after ≡ o → shown s b (plain_json s b) (placed_of o) ≡ first_of (above after (members_of (json_at s i)))
    unfolding name_at
    shown_placed o f = go o ∙ sym (object_first o f)
      where
        go : (p : Option ℕ) → shown s b (plain_json s b) (placed_of p) ≡ maybe p none (λ c. some (name_at s c, json_at s c))
        go none = refl
        go (some c) = refl

    -- where the scan is
    pub record Choosing (best : RustOption (Value × Value)) (at : RustOption ℕ) : Type 0 where
      pub at_best : Option ℕ
      pub is : best ≡ placed_of at_best
      pub scans : Scans s i (least_onto s after) (λ o p. pick (better s after o p) (some p) o) (λ o. refl) (λ o p l. refl) at_best at
      pub holds : MemberHas s b (PlainItem s b) best

    pub choosing_start : (at : RustOption ℕ) → found at ≡ get_elem? (children s i) 0 → Choosing None at
    choosing_start at f = record { at_best = none; is = refl; scans = scan_start s i _ _ _ _ at f; holds = tt }

    module _ (best : RustOption (Value × Value)) (at : RustOption ℕ) (w : Choosing best at) where
      pub choosing_end : at ≡ None → PlainNext s b (json_at s i) after best
      unfolding next_member
      choosing_end f = record {
        is =
            ap (shown s b (plain_json s b)) w.is ∙ shown_placed w.at_best (sym (scan_end s i _ _ _ _ w.at_best at w.scans f))
            ∙ ap (λ (j : Json). first_of (above after (base_map j))) (sym e);
        holds = w.holds;
      }

      module _ (c : ℕ) (f : at ≡ Some c) where
        pub choosing_child : (k : ℕ) × Child s i k c
        choosing_child = (w.scans.walks.number, at_child s tab a i lt at w.scans.walks c f)

        pub choosing_key : (q : ℕ) → q ≡ name_of (tree_at s c) → q < length s → KeyHeld s b (Name q)
        choosing_key q g near =
            name_key s b q (record {
              within = near;
              whole = subst (λ (x : ℕ). Whole s (x + 1)) (sym g) (name_says s a.answers i lt choosing_child.0 c choosing_child.1 (ap (λ (x : ℕ). eqb x 123) (is_map s i (members_of (json_at s i)) e).opens)).whole;
            })

        choose_one : (o : Option ℕ) → nearer_of s b after (Name (name_of (tree_at s c))) (Place c) (placed_of o) ≡ placed_of (pick (better s after o c) (some c) o)
        unfolding name_at
        choose_one none = ap (λ (t : Bool). pick t (placed_of (some c)) None) (same_above after (saying s (name_of (tree_at s c)))) ∙ go (places.above after (saying s (name_of (tree_at s c))))
          where
            go : (t : Bool) → pick t (placed_of (some c)) None ≡ placed_of (pick t (some c) none)
            go true = refl
            go false = refl
        choose_one (some d) =
            ap (λ (t : Bool). pick t (combined s b (placed_of (some c)) (placed_of (some d))) (placed_of (some d))) (same_above after (saying s (name_of (tree_at s c))))
            ∙ go (places.above after (saying s (name_of (tree_at s c)))) (before (saying s (name_of (tree_at s d))) (saying s (name_of (tree_at s c))))
          where
            go : (t u : Bool) → pick t (pick u (placed_of (some d)) (placed_of (some c))) (placed_of (some d)) ≡ placed_of (pick (t && not u) (some c) (some d))
            go true true = refl
            go true false = refl
            go false u = refl

        pub choosing_on : (q : ℕ) → q ≡ name_of (tree_at s c) → q < length s → (r : RustOption (Value × Value)) → r ≡ nearer_of s b after (Name q) (Place c) best → (next : RustOption ℕ)
            → ((j : ℕ) → get_elem? (children s i) j ≡ some c → found next ≡ get_elem? (children s i) (suc j)) → Choosing r next
        choosing_on q g near r k next m = record {
          at_best = pick (better s after w.at_best c) (some c) w.at_best;
          is = k ∙ ap₂ (λ (x : ℕ) (y : RustOption (Value × Value)). nearer_of s b after (Name x) (Place c) y) g w.is ∙ choose_one w.at_best;
          scans = scan_on s i _ _ _ _ tab a lt w.at_best at w.scans c f _ next refl m;
          holds = subst (MemberHas s b (PlainItem s b)) (sym k)
              (has_nearer s b (PlainItem s b) after (Name q) (Place c) best (choosing_key q g near) (place_item s b c choosing_child.1.within) w.holds);
        }

-- The characters of a text

module _ (s b : Bytes) (t : Spelling) (after : Option Bytes) where
  -- n of them are passed
  pub record SpellingOut (n : ℕ) (best : RustOption (Value × Value)) (u : Spelling) : Type 0 where
    pub done : List Bytes
    pub spelled : Spelled s b u
    pub all : chars (rest s b t) ≡ done ++ chars (rest s b u)
    pub number : length done ≡ n
    pub is : shown s b (plain_json s b) best ≡ first_of (above after (numbered_chars 0 done mnil))
    pub holds : MemberHas s b (PlainItem s b) best

  pub spelling_start : Spelled s b t → SpellingOut 0 None t
  spelling_start h = record { done = []; spelled = h; all = refl; number = refl; is = refl; holds = tt }

  value_item : (v : Value) → PlainHeld s b v → PlainItem s b (by_value v)
  value_item v h = record { held = by_value_held s b v h; no_path = by_value_no_path v; present = by_value_present v }

  module _ (n : ℕ) (best : RustOption (Value × Value)) (u : Spelling) (w : SpellingOut n best u) where
    pub spelling_end : rest s b u ≡ [] → PlainNext s b (jstr (rest s b t)) after best
    spelling_end e = record {
      is =
          w.is ∙ ap (λ (l : List Bytes). first_of (above after (numbered_chars 0 l mnil)))
          (sym (w.all ∙ ap (λ (x : Bytes). w.done ++ chars x) e ∙ append-nil w.done));
      holds = w.holds;
    }

    module _ (v : Value) (x : Spelling) (f : First s b u v x) where
      pub spelling_few : length s ≤ 65536 → length b ≤ 65536 → Spelled s b t → n < 65536
      spelling_few ls lb h =
          let p = ap length (w.all ∙ ap (◌++◌ w.done) f.first) in
          let q = length-append w.done (f.letter ∷ chars (rest s b x)) in
          let r = count_few s b ls lb t h in
          omega (arith, w.number)

      pub spelling_on : n < 65536 → (y : Value) → y ≡ by_value v → (r : RustOption (Value × Value)) → r ≡ nearer_of s b after (IndexText n) y best → SpellingOut (n + 1) r x
      spelling_on lt y g r k = record {
        done = w.done ++ (f.letter ∷ []);
        spelled = f.spelled;
        all = w.all ∙ ap (◌++◌ w.done) f.first ∙ sym (append_assoc w.done (f.letter ∷ []) (chars (rest s b x)));
        number = length-append w.done (f.letter ∷ []) ∙ ap (λ (m : ℕ). m + 1) w.number;
        is =
            ap (shown s b (plain_json s b)) k ∙ shown_nearer s b (plain_json s b) after (IndexText n) y best
            ∙ ap₂ (λ (m : ℕ) (j : Json). nearer after (digits m) j (shown s b (plain_json s b) best)) (sym w.number) (ap (plain_json s b) g ∙ by_value_means s b v ∙ f.value.means)
            ∙ ap (nearer after (digits (length w.done)) (jstr f.letter)) w.is ∙ sym (first_char_more after w.done f.letter);
        holds = subst (MemberHas s b (PlainItem s b)) (sym k)
            (has_nearer s b (PlainItem s b) after (IndexText n) y best (index_key s b n lt)
            (subst (PlainItem s b) (sym g) (value_item v (record { plain = f.value.plain; stands = f.value.stands }))) w.holds);
      }

-- By the form of a value that is not merged

module _ (s b : Bytes) (v : Value) (after : Option Bytes) where
  pub bare_next : PlainHeld s b v → (r f : Form) → Formed s b v r → r ≡ f → Bare f → PlainNext s b (plain_json s b v) after None
  bare_next p r f h e n = record { is = sym (at f (subst (Formed s b v) e h) n); holds = tt }
    where
      at : (f : Form) → Formed s b v f → Bare f → first_of (above after (base_map (plain_json s b v))) ≡ none
      at form.Null h n = ap (λ (j : Json). first_of (above after (base_map j))) h.is
      at (form.Boolean t) h n = ap (λ (j : Json). first_of (above after (base_map j))) h.is
      at (form.Unsigned m) h n = ap (λ (j : Json). first_of (above after (base_map j))) h.is
      at (form.Negative m) h n = ap (λ (j : Json). first_of (above after (base_map j))) h.is
      at (form.String t) h n = absurd n
      at (form.List i) h n = absurd n
      at (form.Object i) h n = absurd n
      at (form.Merged g m) h n = none_some (sym p.plain ∙ h)

  pub next_eq : (j : Json) → plain_json s b v ≡ j → (r : RustOption (Value × Value)) → PlainNext s b j after r → PlainNext s b (plain_json s b v) after r
  next_eq j e r h = subst (λ (x : Json). PlainNext s b x after r) (sym e) h

pub list_at : (s : Bytes) (j : Json) (i : ℕ) → ListForm s j i → json_at s i ≡ jarr (items_of (json_at s i))
list_at s j i f = sym f.at ∙ f.is ∙ ap (λ (x : Json). jarr (items_of x)) f.at

pub object_at : (s : Bytes) (j : Json) (i : ℕ) → ObjectForm s j i → json_at s i ≡ jobj (members_of (json_at s i))
object_at s j i f = sym f.at ∙ f.is ∙ ap (λ (x : Json). jobj (members_of x)) f.at

-- From a merged object to its base

module _ (s b : Bytes) (ent : List ℕ) (v : Value) (after : Option Bytes) where
  -- the best of what is passed, and u is still to come
  pub record Inwards (best : RustOption (Value × Value)) (u : Value) : Type 0 where
    pub is : combine (shown s b (json_of s b ent) best) (first_of (above after (base_map (json_of s b ent u)))) ≡ first_of (above after (base_map (json_of s b ent v)))
    pub held : Held s b ent u
    pub stands : (t : ℕ) → Stands s b ent t v → Stands s b ent t u
    pub holds : MemberHeld s b ent v best

  pub inwards_start : Held s b ent v → Inwards None v
  inwards_start h = record { is = refl; held = h; stands = λ t x. x; holds = tt }

  module _ (best : RustOption (Value × Value)) (u : Value) (w : Inwards best u) where
    pub inwards_plain : merged_of u ≡ none → PlainHeld s b u
    inwards_plain e = record { plain = e; stands = stands_plain s b ent w.held.used u e w.held.stands }

    plain_held : (x : Value) → PlainItem s b x → ItemHeld s b ent v x
    plain_held x h = record { stands = λ t z. plain h.held.plain h.held.stands; no_path = h.no_path; present = h.present }

    module _ (e : merged_of u ≡ none) (r : RustOption (Value × Value)) (h : PlainNext s b (plain_json s b u) after r) (o : RustOption (Value × Value)) (g : o ≡ combined s b best r) where
      pub inwards_end : (shown s b (json_of s b ent) o ≡ first_of (above after (base_map (json_of s b ent v)))) × MemberHeld s b ent v o
      inwards_end = (
        ap (shown s b (json_of s b ent)) g ∙ shown_combined s b (json_of s b ent) best r
            ∙ ap (combine (shown s b (json_of s b ent) best)) (shown_plain s b ent r h.holds ∙ h.is ∙ ap (λ (j : Json). first_of (above after (base_map j))) (sym (plain_is s b ent u e)))
            ∙ w.is,
        subst (MemberHeld s b ent v) (sym g) (has_combined s b (ItemHeld s b ent v) best r w.holds (has_so s b (PlainItem s b) (ItemHeld s b ent v) plain_held r h.holds)),
      )

    module _ (h n : ℕ) (e : u ≡ Merged h n) where
      pub inwards_merged : MergedStands s b ent w.held.used h n
      inwards_merged = stands_merged s b ent w.held.used u h n (ap merged_of e) w.held.stands

      pub inwards_room : 2 * (h + n) ≤ length ent
      inwards_room = omega (arith, inwards_merged.within, w.held.room)

      pair_held : (x : Value) → PairItem ent h n x → ItemHeld s b ent v x
      pair_held x q = subst (ItemHeld s b ent v) (sym q.is) (record {
        stands = λ t z.
            let m = stands_merged s b ent t u h n (ap merged_of e) (w.stands t z) in
            by_value_stands s b ent t (hash_value ent (h + q.number)) (stands_later s b ent h t (hash_value ent (h + q.number)) (omega (arith, m.within)) (m.values q.number q.within));
        no_path = by_value_no_path (hash_value ent (h + q.number));
        present = by_value_present (hash_value ent (h + q.number));
      })

      module _ (x : Value) (f : x ≡ hash_base ent h) where
        pub inwards_less : rank x < rank u
        inwards_less = rw (f, e) (omega (arith, stands_rank s b ent h (hash_base ent h) inwards_merged.base))

        pub inwards_on : (r : RustOption (Value × Value)) → shown s b (json_of s b ent) r ≡ least after (pairs b ent (json_of s b ent) h n) → MemberHas s b (PairItem ent h n) r
            → (o : RustOption (Value × Value)) → o ≡ combined s b best r → Inwards o x
        inwards_on r g k o q = subst (Inwards o) (sym f) (record {
          is =
              ap (λ (p : Option (Bytes × Json)). combine p (first_of (above after (base_map (json_of s b ent (hash_base ent h))))))
              (ap (shown s b (json_of s b ent)) q ∙ shown_combined s b (json_of s b ent) best r ∙ ap (combine (shown s b (json_of s b ent) best)) g)
              ∙ combine_assoc (shown s b (json_of s b ent) best) (least after (pairs b ent (json_of s b ent) h n)) (first_of (above after (base_map (json_of s b ent (hash_base ent h)))))
              ∙ ap (combine (shown s b (json_of s b ent) best))
              (sym (ap (λ (z : Value). first_of (above after (base_map (json_of s b ent z)))) e
              ∙ ap (λ (j : Json). first_of (above after (base_map j))) (stands_merged_is s b ent h n inwards_merged.base inwards_merged.values)
              ∙ first_base_merged after (json_of s b ent (hash_base ent h)) (pairs b ent (json_of s b ent) h n)))
              ∙ w.is;
          held = record { used = h; room = omega (arith, inwards_room); stands = inwards_merged.base };
          stands = λ t z. let m = stands_merged s b ent t u h n (ap merged_of e) (w.stands t z) in stands_later s b ent h t (hash_base ent h) (omega (arith, m.within)) m.base;
          holds = subst (MemberHeld s b ent v) (sym q) (has_combined s b (ItemHeld s b ent v) best r w.holds (has_so s b (PairItem ent h n) (ItemHeld s b ent v) pair_held r k));
        })
