-- Segments of paths and the helper `lookup`, by the form of a value.
use Rattle.std.specs.Prelude.{Option as RustOption, Some, None}
use Prim.Native.Nat.{ℕ, zero, suc, ◌-◌, ◌<◌}
use mathlib.Core.List.{List}
use mathlib.Core.Option.{Option, none, some}
use mathlib.Core.Path.{◌≡◌, refl, sym, ap, ◌∙◌, subst}
use native.Mathlib.Omega.{arith}
use lib.ListN.{get_elem?}
use Rattle.rules.specs.Bytes.{Bytes, maybe}
use Rattle.rules.specs.Json.{Json, jnull, jbool, jpos, jneg, jstr, jarr, jobj, Map, get_item, get_member, as_str, as_u64}
use Rattle.rules.specs.Error.{got, bad, invalid-json-index}
use Rattle.rules.specs.Context.{parse_usize, get_data, base_map, merge_json}
use Rattle.rules.specs.HelperLookup.{looked_up}
use Rattle.places.specs.Accepted.{Accepted}
use Rattle.places.specs.Places.{places, json_at, children, member, value_at}
use Rattle.places.specs.Kinds.{kind_of, items_of, members_of, list_kind, object_kind}
use Rattle.places.specs.Children.{none_some}
use Rattle.places.specs.Items.{list_item}
use Rattle.places.proofs.MemberLaws.{object_member}
use Rattle.places.proofs.Paths.{item_segment, member_segment}
use Rattle.places.specs.declared.Kind.{Kind}
use Rattle.places.specs.declared.Kind.TheVariants as kind
use Rattle.text.specs.Rest.{rest}
use Rattle.value.specs.declared.Value.{Value}
use Rattle.value.specs.declared.Value.TheVariants.{Missing, Null, False, True, Empty, Context, Place, Literal, Index, IndexText, Name, Text, SaidChar, PackedChar, Merged}
use Rattle.meaning.specs.Entries.{hash_base}
use Rattle.meaning.specs.Meaning.{plain_json, pairs, merged_of, context_place, json_of}
use Rattle.meaning.specs.MeaningLaws.{plain_is}
use Rattle.meaning.specs.Standing.{Stands, plain, stands_plain, MergedStands, stands_merged}
use Rattle.meaning.specs.Kept.{stands_merged_is}
use Rattle.meaning.specs.Forms.{Known, ListForm, ObjectForm, StringForm, Formed}
use Rattle.meaning.specs.declared.Form.{Form}
use Rattle.meaning.specs.declared.Form.TheVariants as form
use Rattle.lookup.specs.Answers.{Held, pathless, Finds, PlainFinds, Leads, DataGot}
use Rattle.lookup.specs.Places.{placed_at, reached_at, list_reached, Reaches, with_path, without_path, from_member}
use Rattle.lookup.specs.declared.Reached.{Reached}
use Rattle.lookup.specs.declared.Reached.TheVariants.{At as ReachedAt, Nothing as ReachedNothing, BadIndex as ReachedBad}
use Rattle.lookup.proofs.Told.{pathless_json, pathless_stands}
use Rattle.lookup.proofs.Finding.{list_placed}

-- What a form says of a value's meaning

abbrev pub Means : Bytes → Bytes → Json → Form → Type 0
Means s b j form.Null = j ≡ jnull
Means s b j (form.Boolean t) = j ≡ jbool t
Means s b j (form.Unsigned n) = j ≡ jpos n
Means s b j (form.Negative n) = j ≡ jneg n
Means s b j (form.String t) = StringForm s b j t
Means s b j (form.List i) = ListForm s j i
Means s b j (form.Object i) = ObjectForm s j i
Means s b j (form.Merged h n) = j ≡ jobj (base_map j)

pub merged_value : (v : Value) (h n : ℕ) → merged_of v ≡ some (h, n) → v ≡ Merged h n
merged_value Missing h n e = none_some e
merged_value Null h n e = none_some e
merged_value False h n e = none_some e
merged_value True h n e = none_some e
merged_value Empty h n e = none_some e
merged_value (Context i) h n e = none_some e
merged_value (Place i) h n e = none_some e
merged_value (Literal p) h n e = none_some e
merged_value (Index m) h n e = none_some e
merged_value (IndexText m) h n e = none_some e
merged_value (Name o) h n e = none_some e
merged_value (Text p) h n e = none_some e
merged_value (SaidChar o m) h n e = none_some e
merged_value (PackedChar p m) h n e = none_some e
merged_value (Merged g m) h n e =
    let p : g ≡ h = ap (λ (o : Option (ℕ × ℕ)). maybe o 0 (λ x. x.0)) e in
    let q : m ≡ n = ap (λ (o : Option (ℕ × ℕ)). maybe o 0 (λ x. x.1)) e in
    rw (p, q)

object_again : (j : Json) (m : Map) → j ≡ jobj m → j ≡ jobj (base_map j)
object_again j m e = e ∙ ap (λ (x : Json). jobj (base_map x)) (sym e)

module _ (s b : Bytes) (ent : List ℕ) (v : Value) (h : Held s b ent v) where
  merged_object : (g n : ℕ) → merged_of v ≡ some (g, n) → json_of s b ent v ≡ jobj (base_map (json_of s b ent v))
  merged_object g n e = go n m.keys.some (ap (json_of s b ent) (merged_value v g n e) ∙ stands_merged_is s b ent g n m.base m.values)
    where
      m : MergedStands s b ent h.used g n
      m = stands_merged s b ent h.used v g n e h.stands

      go : (k : ℕ) → 0 < k → json_of s b ent v ≡ merge_json (json_of s b ent (hash_base ent g)) (pairs b ent (json_of s b ent) g k) → json_of s b ent v ≡ jobj (base_map (json_of s b ent v))
      go zero lt q = absurd (omega arith)
      go (suc k) lt q = object_again (json_of s b ent v) _ q

  pub held_known : Known s b v
  held_known e = stands_plain s b ent h.used v e h.stands

  pub means : (r f : Form) → Formed s b v r → r ≡ f → Means s b (json_of s b ent v) f
  means r f k e = at f (subst (Formed s b v) e k)
    where
      at : (f : Form) → Formed s b v f → Means s b (json_of s b ent v) f
      at form.Null k = plain_is s b ent v k.plain ∙ k.is
      at (form.Boolean t) k = plain_is s b ent v k.plain ∙ k.is
      at (form.Unsigned n) k = plain_is s b ent v k.plain ∙ k.is
      at (form.Negative n) k = plain_is s b ent v k.plain ∙ k.is
      at (form.String t) k = subst (λ (j : Json). StringForm s b j t) (sym (plain_is s b ent v k.plain)) k.is
      at (form.List i) k = subst (λ (j : Json). ListForm s j i) (sym (plain_is s b ent v k.plain)) k.is
      at (form.Object i) k = subst (λ (j : Json). ObjectForm s j i) (sym (plain_is s b ent v k.plain)) k.is
      at (form.Merged g n) k = merged_object g n k

-- One segment from a place of the plan

abbrev pub Scalar : Kind → Type 0
Scalar kind.Null = Unit {0}
Scalar kind.False = Unit {0}
Scalar kind.True = Unit {0}
Scalar kind.Unsigned = Unit {0}
Scalar kind.Negative = Unit {0}
Scalar kind.Text = Unit {0}
Scalar kind.List = ⊥
Scalar kind.Object = ⊥

pub scalar_data : (j : Json) (r k : Kind) → r ≡ kind_of j → r ≡ k → Scalar k → (q : Bytes) → get_data (some j) q ≡ got none
scalar_data j r k e f n q = at j (subst Scalar (sym f ∙ e) n)
  where
    at : (j : Json) → Scalar (kind_of j) → get_data (some j) q ≡ got none
    at jnull n = refl
    at (jbool t) n = refl
    at (jpos m) n = refl
    at (jneg m) n = refl
    at (jstr l) n = refl
    at (jarr l) n = absurd n
    at (jobj m) n = absurd n

module _ (s : Bytes) (tab : List ℕ) (a : Accepted s tab) (i : ℕ) (lt : i < places s) (q : Bytes) (r : Kind) (e : r ≡ kind_of (json_at s i)) where
  pub list_reaches : r ≡ kind.List → Reaches s i q (list_reached (children s i) (parse_usize q))
  list_reaches f = at (parse_usize q) refl
    where
      l : json_at s i ≡ jarr (items_of (json_at s i))
      l = list_kind (json_at s i) (sym f ∙ e)

      here : (o : Option ℕ) → parse_usize q ≡ o → get_data (some (json_at s i)) q ≡ maybe o (bad invalid-json-index) (λ n. got (get_item (items_of (json_at s i)) n))
      here o p = ap (λ (j : Json). get_data (some j) q) l ∙ ap (λ (x : Option ℕ). maybe x (bad invalid-json-index) (λ n. got (get_item (items_of (json_at s i)) n))) p

      one : (n : ℕ) → parse_usize q ≡ some n → (c : Option ℕ) → get_elem? (children s i) n ≡ c → Reaches s i q (reached_at c)
      one n p none g = here (some n) p ∙ ap got (list_item s a.answers i lt (items_of (json_at s i)) l n ∙ ap (value_at s) g)
      one n p (some c) g = item_segment s a.answers i lt (items_of (json_at s i)) l q n c p g

      at : (o : Option ℕ) → parse_usize q ≡ o → Reaches s i q (list_reached (children s i) o)
      at none p = here none p
      at (some n) p = one n p (get_elem? (children s i) n) refl

  pub object_reaches : r ≡ kind.Object → (o : Option ℕ) → o ≡ member s i q → Reaches s i q (reached_at o)
  object_reaches f o g = at o g
    where
      l : json_at s i ≡ jobj (members_of (json_at s i))
      l = object_kind (json_at s i) (sym f ∙ e)

      at : (o : Option ℕ) → o ≡ member s i q → Reaches s i q (reached_at o)
      at none g = ap (λ (j : Json). get_data (some j) q) l ∙ ap got (object_member s a.answers i lt (members_of (json_at s i)) l q ∙ ap (value_at s) (sym g))
      at (some c) g = member_segment s a.answers i lt (members_of (json_at s i)) l q c (sym g)

-- From a value

module _ (s b : Bytes) (ent : List ℕ) where
  pub context_data : (i : ℕ) (q : Bytes) (r : Reached) → Reaches s i q r → DataGot s b ent (Context i) q (with_path r)
  context_data i q (ReachedAt c) k = record {
    value = ap (λ (j : Json). get_data (some j) q) (plain_is s b ent (Context i) refl) ∙ k.value ∙ ap (λ (j : Json). got (some j)) (sym (plain_is s b ent (Context c) refl));
    stands = λ t z. plain {v = Context c} refl (k.within, k.live ∙ (stands_plain s b ent t (Context i) refl z).1);
    leads = (c, refl, k);
  }
  context_data i q ReachedNothing k = ap (λ (j : Json). get_data (some j) q) (plain_is s b ent (Context i) refl) ∙ k
  context_data i q ReachedBad k = ap (λ (j : Json). get_data (some j) q) (plain_is s b ent (Context i) refl) ∙ k

  module _ (v : Value) (q : Bytes) (p : context_place v ≡ none) where
    pub derived_place : (i : ℕ) → json_of s b ent v ≡ json_at s i → (r : Reached) → Reaches s i q r → DataGot s b ent v q (without_path r)
    derived_place i e (ReachedAt c) k = record {
      value = ap (λ (j : Json). get_data (some j) q) e ∙ k.value ∙ ap (λ (j : Json). got (some j)) (sym (plain_is s b ent (Place c) refl));
      stands = λ t z. plain refl k.within;
      leads = subst (λ (o : Option ℕ). Leads s o q (Place c)) (sym p) refl;
    }
    derived_place i e ReachedNothing k = ap (λ (j : Json). get_data (some j) q) e ∙ k
    derived_place i e ReachedBad k = ap (λ (j : Json). get_data (some j) q) e ∙ k

    pub derived_member : json_of s b ent v ≡ jobj (base_map (json_of s b ent v)) → (r : RustOption Value) → Finds s b ent v (get_member (base_map (json_of s b ent v)) q) r
        → DataGot s b ent v q (from_member r)
    derived_member e (Some w) k = record {
      value = ap (λ (j : Json). get_data (some j) q) e ∙ ap got k.value;
      stands = k.stands;
      leads = subst (λ (o : Option ℕ). Leads s o q w) (sym p) k.no_path;
    }
    derived_member e None k = ap (λ (j : Json). get_data (some j) q) e ∙ ap got k

-- A value that is the place i of the plan, with its path or without
module _ (s b : Bytes) (ent : List ℕ) (v : Value) (i : ℕ) (e : pathless v ≡ Place i) where
  pub placed_json : json_of s b ent v ≡ json_at s i
  placed_json = sym (pathless_json s b ent v) ∙ ap (json_of s b ent) e ∙ plain_is s b ent (Place i) refl

  pub placed_within : Held s b ent v → i < places s
  placed_within h = stands_plain s b ent h.used (Place i) refl (subst (Stands s b ent h.used) e (pathless_stands s b ent h.used v h.stands))

  pub placed_context : (j : ℕ) → v ≡ Context j → (q : Bytes) (r : Reached) → Reaches s i q r → DataGot s b ent v q (with_path r)
  placed_context j f q r k =
      let x : Place j ≡ Place i = sym (ap pathless f) ∙ e in
      let y : i ≡ j = cc in
      subst (λ (u : Value). DataGot s b ent u q (with_path r)) (sym f) (context_data s b ent j q r (subst (λ (n : ℕ). Reaches s n q r) y k))

abbrev pub Leaf : Form → Type 0
Leaf form.Null = Unit {0}
Leaf (form.Boolean t) = Unit {0}
Leaf (form.Unsigned n) = Unit {0}
Leaf (form.Negative n) = Unit {0}
Leaf (form.String t) = Unit {0}
Leaf (form.List i) = ⊥
Leaf (form.Object i) = ⊥
Leaf (form.Merged h n) = ⊥

pub leaf_data : (s b : Bytes) (j : Json) (f : Form) → Means s b j f → Leaf f → (q : Bytes) → get_data (some j) q ≡ got none
leaf_data s b j form.Null m n q = ap (λ (x : Json). get_data (some x) q) m
leaf_data s b j (form.Boolean t) m n q = ap (λ (x : Json). get_data (some x) q) m
leaf_data s b j (form.Unsigned k) m n q = ap (λ (x : Json). get_data (some x) q) m
leaf_data s b j (form.Negative k) m n q = ap (λ (x : Json). get_data (some x) q) m
leaf_data s b j (form.String t) m n q = ap (λ (x : Json). get_data (some x) q) m.is
leaf_data s b j (form.List i) m n q = absurd n
leaf_data s b j (form.Object i) m n q = absurd n
leaf_data s b j (form.Merged h k) m n q = absurd n

-- The helper `lookup`

pub leaf_lookup : (s b : Bytes) (j : Json) (f : Form) → Means s b j f → Leaf f → (i : Json) → looked_up j i ≡ none
leaf_lookup s b j form.Null m n i = ap (λ (x : Json). looked_up x i) m
leaf_lookup s b j (form.Boolean t) m n i = ap (λ (x : Json). looked_up x i) m
leaf_lookup s b j (form.Unsigned k) m n i = ap (λ (x : Json). looked_up x i) m
leaf_lookup s b j (form.Negative k) m n i = ap (λ (x : Json). looked_up x i) m
leaf_lookup s b j (form.String t) m n i = ap (λ (x : Json). looked_up x i) m.is
leaf_lookup s b j (form.List p) m n i = absurd n
leaf_lookup s b j (form.Object p) m n i = absurd n
leaf_lookup s b j (form.Merged h k) m n i = absurd n

abbrev number_of : Form → Option ℕ
number_of form.Null = none
number_of (form.Boolean t) = none
number_of (form.Unsigned n) = some n
number_of (form.Negative n) = none
number_of (form.String t) = none
number_of (form.List i) = none
number_of (form.Object i) = none
number_of (form.Merged h n) = none

pub means_number : (s b : Bytes) (j : Json) (f : Form) → Means s b j f → as_u64 j ≡ number_of f
means_number s b j form.Null m = ap as_u64 m
means_number s b j (form.Boolean t) m = ap as_u64 m
means_number s b j (form.Unsigned k) m = ap as_u64 m
means_number s b j (form.Negative k) m = ap as_u64 m
means_number s b j (form.String t) m = ap as_u64 m.is
means_number s b j (form.List p) m = ap as_u64 m.is
means_number s b j (form.Object p) m = ap as_u64 m.is
means_number s b j (form.Merged h k) m = ap as_u64 m

abbrev string_of : Bytes → Bytes → Form → Option Bytes
string_of s b form.Null = none
string_of s b (form.Boolean t) = none
string_of s b (form.Unsigned n) = none
string_of s b (form.Negative n) = none
string_of s b (form.String t) = some (rest s b t)
string_of s b (form.List i) = none
string_of s b (form.Object i) = none
string_of s b (form.Merged h n) = none

pub means_string : (s b : Bytes) (j : Json) (f : Form) → Means s b j f → as_str j ≡ string_of s b f
means_string s b j form.Null m = ap as_str m
means_string s b j (form.Boolean t) m = ap as_str m
means_string s b j (form.Unsigned k) m = ap as_str m
means_string s b j (form.Negative k) m = ap as_str m
means_string s b j (form.String t) m = ap as_str m.is
means_string s b j (form.List p) m = ap as_str m.is
means_string s b j (form.Object p) m = ap as_str m.is
means_string s b j (form.Merged h k) m = ap as_str m

module _ (s b : Bytes) (ent : List ℕ) (v : Value) where
  pub finds_eq : (o p : Option Json) (r : RustOption Value) → o ≡ p → Finds s b ent v p r → Finds s b ent v o r
  finds_eq o p r e f = subst (λ (x : Option Json). Finds s b ent v x r) (sym e) f

  pub finds_plain : (o : Option Json) (r : RustOption Value) → PlainFinds s b o r → Finds s b ent v o r
  finds_plain o (Some w) f = record { value = f.value ∙ ap some (sym (plain_is s b ent w f.plain)); stands = λ t z. plain f.plain f.stands; no_path = f.no_path }
  finds_plain o None f = f

  pub list_lookup : (tab : List ℕ) → Accepted s tab → (p : ℕ) → ListForm s (json_of s b ent v) p → (i : Json) (n : Option ℕ) → as_u64 i ≡ n
      → Finds s b ent v (looked_up (json_of s b ent v) i) (placed_at (maybe n none (get_elem? (children s p))))
  list_lookup tab a p l i n e =
      finds_plain (looked_up (json_of s b ent v) i) (placed_at (maybe n none (get_elem? (children s p))))
      (list_placed s tab a p l.within b (looked_up (json_of s b ent v) i) n (maybe n none (get_elem? (children s p)))
      (ap (λ (j : Json). looked_up j i) l.is ∙ ap (λ (o : Option ℕ). maybe o none (get_item (items_of (json_of s b ent v)))) e ∙ go n) refl)
    where
      go : (o : Option ℕ) → maybe o none (get_item (items_of (json_of s b ent v))) ≡ value_at s (maybe o none (get_elem? (children s p)))
      go none = refl
      go (some k) = list_item s a.answers p l.within (items_of (json_of s b ent v)) (sym l.at ∙ l.is) k

  pub object_lookup : (m : Map) → json_of s b ent v ≡ jobj m → (i : Json)
      → looked_up (json_of s b ent v) i ≡ maybe (as_str i) none (get_member (base_map (json_of s b ent v)))
  object_lookup m e i =
      ap (λ (j : Json). looked_up j i) e ∙ ap (λ (x : Map). maybe (as_str i) none (get_member x)) (sym (ap base_map e))

-- the number that a value is, whatever entries there are
pub plain_number : (s b : Bytes) (v : Value) (r f : Form) → Formed s b v r → r ≡ f → as_u64 (plain_json s b v) ≡ number_of f
plain_number s b v r f k e = at f (subst (Formed s b v) e k)
  where
    at : (f : Form) → Formed s b v f → as_u64 (plain_json s b v) ≡ number_of f
    at form.Null k = ap as_u64 k.is
    at (form.Boolean t) k = ap as_u64 k.is
    at (form.Unsigned n) k = ap as_u64 k.is
    at (form.Negative n) k = ap as_u64 k.is
    at (form.String t) k = ap as_u64 k.is.is
    at (form.List i) k = ap as_u64 k.is.is
    at (form.Object i) k = ap as_u64 k.is.is
    at (form.Merged g n) k = ap (λ (w : Value). as_u64 (plain_json s b w)) (merged_value v g n k)

pub item_placed : (s b : Bytes) (i : ℕ) (v : Value) (r f : Form) → Formed s b v r → r ≡ f
    → placed_at (maybe (number_of f) none (get_elem? (children s i))) ≡ placed_at (maybe (as_u64 (plain_json s b v)) none (get_elem? (children s i)))
item_placed s b i v r f k e = ap (λ (o : Option ℕ). placed_at (maybe o none (get_elem? (children s i)))) (sym (plain_number s b v r f k e))

pub held_number : (s b : Bytes) (ent : List ℕ) (v : Value) → Held s b ent v → as_u64 (json_of s b ent v) ≡ as_u64 (plain_json s b v)
held_number s b ent v h = at (merged_of v) refl
  where
    at : (o : Option (ℕ × ℕ)) → merged_of v ≡ o → as_u64 (json_of s b ent v) ≡ as_u64 (plain_json s b v)
    at none e = ap as_u64 (plain_is s b ent v e)
    at (some m) e =
        means_number s b (json_of s b ent v) (form.Merged m.0 m.1) (means s b ent v h (form.Merged m.0 m.1) (form.Merged m.0 m.1) e refl)
        ∙ ap (λ (w : Value). as_u64 (plain_json s b w)) (sym (merged_value v m.0 m.1 e))
