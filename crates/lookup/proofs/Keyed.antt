-- The helper `lookup` by numbers.
use Rattle.std.specs.Prelude.{Option as RustOption}
use Prim.Native.Nat.{ℕ, ◌+◌, ◌-◌, ◌/◌, ◌%◌, ◌≤◌, ◌<◌}
use mathlib.Core.Bool.{Bool, true, false, ◌||◌}
use mathlib.Core.List.{List, [], ◌∷◌}
use mathlib.Core.Option.{Option, none, some}
use mathlib.Core.Path.{◌≡◌, refl, sym, ap, ◌∙◌, subst}
use native.Mathlib.Omega.{arith}
use lib.Dec.{eqb, ltb}
use borrow.Author.Tests.{eqb-true, lt-ltb, le-ltb}
use types.Run.{OneOf, miss}
use denote.Enum.Declared.{tag_of}
use Rattle.rules.specs.Bytes.{Bytes, pick, maybe}
use Rattle.rules.specs.Json.{Json, jstr, jobj, Map, get_member, as_str}
use Rattle.rules.specs.Bits.{Bits, bits}
use Rattle.rules.specs.Layout.{field}
use Rattle.rules.specs.LayoutLaws.{field_lt}
use Rattle.rules.specs.Bundle.{string, literal}
use Rattle.rules.specs.BundleLaws.{bits_binary}
use Rattle.rules.specs.Template.{literal_json}
use Rattle.rules.specs.Context.{base_map}
use Rattle.rules.specs.HelperLookup.{looked_up}
use Rattle.bits.specs.Fields.{field_append}
use Rattle.layout.specs.Text.{text_at}
use Rattle.merging.specs.Lookup.{find_last}
use Rattle.parts.specs.Holds.{Holds}
use Rattle.parts.specs.Parts.{literal_text}
use Rattle.parts.specs.Views.{literal_of}
use Rattle.parts.specs.Says.{literal_at, literal_read}
use Rattle.parts.specs.declared.Literal.TheVariants as form-of-literal
use Rattle.places.specs.Accepted.{Accepted}
use Rattle.places.specs.Places.{places, json_at, value_at}
use Rattle.places.specs.Kinds.{numbered, members_of}
use Rattle.places.specs.Items.{object_at}
use Rattle.value.specs.declared.Value.{Value}
use Rattle.value.specs.contracts.Value.{the_type}
use Rattle.value.specs.declared.Value.TheVariants.{Missing, Null, False, True, Empty, Context, Place, Literal, Index, IndexText, Name, Text, SaidChar, PackedChar, Merged}
use Rattle.value.specs.Numbers.{decoded}
use Rattle.meaning.specs.Entries.{hash_base}
use Rattle.meaning.specs.Meaning.{pairs, merged_of, json_of}
use Rattle.meaning.specs.MeaningLaws.{plain_is}
use Rattle.meaning.specs.Standing.{Stands, stands_plain}
use Rattle.meaning.specs.declared.Form.TheVariants as form
use Rattle.lookup.specs.Answers.{Held, pathless, Finds, PlainFinds}
use Rattle.lookup.specs.Numbers.{MemberNumber, placed_number, numbered_found}
use Rattle.lookup.specs.Keyed.{key_told, KeyNumber, MergedNumber, LookedNumber}
use Rattle.lookup.specs.Telling.{stands_object, has_pair}
use Rattle.places.specs.Children.{is_object}
use Rattle.lookup.proofs.Finding.{object_found, member_placed, Inward, inward_start, inward_on}
use Rattle.lookup.proofs.Leading.{means, placed_json, placed_within, finds_eq, finds_plain, object_lookup}
use Rattle.lookup.proofs.Numbers.{pathless_number, number_object, placed_small, placed_known, placed_told, found_place}

-- a literal that is a string: x is its kind with the string's count
pub record StringLiteral (b : Bits) (l x : ℕ) : Type 0 where
  pub holds : Holds string b (l + 3)
  pub count : x % 65536 ≡ field b 16 (l + 3)
  pub is : literal_json (literal_at b l) ≡ jstr (text_at b (l + 3))

pub string_literal : (b : Bytes) (l x : ℕ) → Holds literal (bits b) l → x ≡ field (bits b) 19 l → 327680 ≤ x → StringLiteral (bits b) l x
string_literal b l x H e le =
    let a = field_append (bits b) 3 16 l in
    let c = field_lt (bits b) (bits_binary b) 16 (l + 3) in
    let k : field (bits b) 3 l ≡ 5 = literal_text (bits b) l H (omega (arith, e)) in
    let r = literal_read (bits b) l H (form-of-literal.String (l + 3)) (ap (literal_of (bits b) (l + 3)) (sym k)) in
    record { holds = r.parts; count = omega (arith, e); is = ap literal_json r.is }

pub literal_held : (s b : Bytes) (ent : List ℕ) (i : Value) (l : ℕ) → i ≡ Literal l → Held s b ent i → Holds literal (bits b) l
literal_held s b ent i l e h = stands_plain s b ent h.used (Literal l) refl (subst (Stands s b ent h.used) e h.stands)

-- what is no object is told of no key
no_key : (s b : Bytes) (ent : List ℕ) (k : Bytes) (v : Value) → OneOf (0 ∷ 1 ∷ 2 ∷ 3 ∷ 4 ∷ 7 ∷ 8 ∷ 9 ∷ 10 ∷ 11 ∷ 12 ∷ 13 ∷ []) (tag_of the_type v) → key_told s b ent k v ≡ false
no_key s b ent k Missing o = refl
no_key s b ent k Null o = refl
no_key s b ent k False o = refl
no_key s b ent k True o = refl
no_key s b ent k Empty o = refl
no_key s b ent k (Context i) o = absurd (miss (0 ∷ 1 ∷ 2 ∷ 3 ∷ 4 ∷ 7 ∷ 8 ∷ 9 ∷ 10 ∷ 11 ∷ 12 ∷ 13 ∷ []) 5 tt o)
no_key s b ent k (Place i) o = absurd (miss (0 ∷ 1 ∷ 2 ∷ 3 ∷ 4 ∷ 7 ∷ 8 ∷ 9 ∷ 10 ∷ 11 ∷ 12 ∷ 13 ∷ []) 6 tt o)
no_key s b ent k (Literal p) o = refl
no_key s b ent k (Index n) o = refl
no_key s b ent k (IndexText n) o = refl
no_key s b ent k (Name p) o = refl
no_key s b ent k (Text p) o = refl
no_key s b ent k (SaidChar p n) o = refl
no_key s b ent k (PackedChar p n) o = refl
no_key s b ent k (Merged h n) o = absurd (miss (0 ∷ 1 ∷ 2 ∷ 3 ∷ 4 ∷ 7 ∷ 8 ∷ 9 ∷ 10 ∷ 11 ∷ 12 ∷ 13 ∷ []) 14 tt o)

-- what an object of the plan has
pub object_key : (s b : Bytes) (tab : List ℕ) (a : Accepted s tab) (i : ℕ) (lt : i < places s) (k : Bytes) (r : ℕ) → MemberNumber s i k r → KeyNumber s b i k (placed_number r 6)
object_key s b tab a i lt k r m = record {
  small = placed_small r 6 m.small (omega arith);
  known = placed_known r 6 ∙ m.known;
  object = λ ne. object_at s i (eqb-true _ 123 (m.told (placed_told r 6 ne)).object);
  told = λ ne.
      let n0 = placed_told r 6 ne in
      let x = m.told n0 in
      subst (PlainFinds s b (get_member (base_map (json_at s i)) k)) (found_place r n0 m.small)
      (member_placed s tab a i lt b (get_member (base_map (json_at s i)) k) k (numbered (r - 1))
      (object_found s tab a i lt (members_of (json_at s i)) (object_at s i (eqb-true _ 123 x.object)) k ∙ ap (value_at s) (sym x.place)) x.place);
}

-- whether that is told of a merged object

pub key_pair : (s b : Bytes) (ent : List ℕ) (h n : ℕ) (k : Bytes) (j : Json) → find_last (pairs b ent (json_of s b ent) h n) k ≡ some j → key_told s b ent k (Merged h n) ≡ true
key_pair s b ent h n k j o = ap (λ (y : Option Json). maybe y false (λ j. true) || stands_object s (hash_base ent h)) o

pub key_base : (s b : Bytes) (ent : List ℕ) (h n : ℕ) (k : Bytes) → find_last (pairs b ent (json_of s b ent) h n) k ≡ none → key_told s b ent k (Merged h n) ≡ stands_object s (hash_base ent h)
key_base s b ent h n k o = ap (λ (y : Option Json). maybe y false (λ j. true) || stands_object s (hash_base ent h)) o

-- what a merged object has whose pairs do not have it: u is the number of its base
module _ (s b : Bytes) (ent : List ℕ) (h n : ℕ) (k : Bytes) (held : Held s b ent (Merged h n)) (u : ℕ) (x : decoded u ≡ hash_base ent h)
    (o : find_last (pairs b ent (json_of s b ent) h n) k ≡ none) (t : (eqb (u % 16) 5 || eqb (u % 16) 6) ≡ true) where
  in_base : Inward s b ent (Merged h n) k (decoded u)
  in_base = inward_on s b ent (Merged h n) k (Merged h n) (inward_start s b ent (Merged h n) k held) h n refl (decoded u) x o

  pub key_within : u / 16 < places s
  key_within = placed_within s b ent (decoded u) (u / 16) (pathless_number u t) in_base.held

  pub key_found : (r : ℕ) → KeyNumber s b (u / 16) k r → MergedNumber s b ent (Merged h n) k r
  key_found r m = record {
    small = m.small;
    known = m.known ∙ sym (key_base s b ent h n k o ∙ sym (ap (stands_object s) x) ∙ number_object u t s);
    told = λ ne.
        finds_eq s b ent (Merged h n) _ _ (numbered_found r)
        (in_base.same ∙ ap (λ (j : Json). get_member (base_map j) k) (placed_json s b ent (decoded u) (u / 16) (pathless_number u t)))
        (finds_plain s b ent (Merged h n) _ (numbered_found r) (m.told ne));
  }

-- what the helper finds under the literal at l

pub not_string : (s b : Bytes) (ent : List ℕ) (v : Value) (l x : ℕ) → x ≡ field (bits b) 19 l → x < 327680 → LookedNumber s b ent v l 0
not_string s b ent v l x hx lt = record {
  small = omega arith;
  known = sym (ap (λ (t : Bool). pick t false (key_told s b ent (text_at (bits b) (l + 3)) v)) (lt-ltb (field (bits b) 19 l) 327680 (omega (arith, hx))));
  told = λ ne. absurd (ne refl);
}

-- it is a string
module _ (s b : Bytes) (ent : List ℕ) (v : Value) (l x : ℕ) (hx : x ≡ field (bits b) 19 l) (le : 327680 ≤ x) (S : StringLiteral (bits b) l x) where
  abbrev k : Bytes
  k = text_at (bits b) (l + 3)

  by_key : key_told s b ent k v ≡ pick (ltb (field (bits b) 19 l) 327680) false (key_told s b ent k v)
  by_key = sym (ap (λ (t : Bool). pick t false (key_told s b ent k v)) (le-ltb (field (bits b) 19 l) 327680 (omega (arith, hx))))

  looked_object : (m : Map) → json_of s b ent v ≡ jobj m → looked_up (json_of s b ent v) (literal_json (literal_at (bits b) l)) ≡ get_member (base_map (json_of s b ent v)) k
  looked_object m f = object_lookup s b ent v m f (literal_json (literal_at (bits b) l)) ∙ ap (λ (j : Json). maybe (as_str j) none (get_member (base_map (json_of s b ent v)))) S.is

  pub looked_place : (p : ℕ) → pathless v ≡ Place p → key_told s b ent k v ≡ is_object s p → (r : ℕ) → KeyNumber s b p k r → LookedNumber s b ent v l r
  looked_place p f g r n =
      let q = placed_json s b ent v p f in
      record {
        small = n.small;
        known = n.known ∙ sym g ∙ by_key;
        told = λ ne.
            finds_eq s b ent v _ _ (numbered_found r) (looked_object _ (q ∙ n.object ne) ∙ ap (λ (j : Json). get_member (base_map j) k) q)
            (finds_plain s b ent v _ (numbered_found r) (n.told ne));
      }

  pub looked_merged : (h n : ℕ) → v ≡ Merged h n → Held s b ent v → (r : ℕ) → MergedNumber s b ent v k r → LookedNumber s b ent v l r
  looked_merged h n f held r m = record {
    small = m.small;
    known = m.known ∙ by_key;
    told = λ ne. finds_eq s b ent v _ _ (numbered_found r) (looked_object _ (means s b ent v held (form.Merged h n) (form.Merged h n) (ap merged_of f) refl)) (m.told ne);
  }

  pub looked_other : OneOf (0 ∷ 1 ∷ 2 ∷ 3 ∷ 4 ∷ 7 ∷ 8 ∷ 9 ∷ 10 ∷ 11 ∷ 12 ∷ 13 ∷ []) (tag_of the_type v) → LookedNumber s b ent v l 0
  looked_other o = record { small = omega arith; known = sym (no_key s b ent k v o) ∙ by_key; told = λ ne. absurd (ne refl) }

pub looked_literal : (s b : Bytes) (ent : List ℕ) (v i : Value) (l : ℕ) → i ≡ Literal l → (r : ℕ) → LookedNumber s b ent v l r → (r ≡ 0 → ⊥) → (f : RustOption Value) → f ≡ numbered_found r
    → Finds s b ent v (looked_up (json_of s b ent v) (json_of s b ent i)) f
looked_literal s b ent v i l e r m ne f g =
    subst (Finds s b ent v (looked_up (json_of s b ent v) (json_of s b ent i))) (sym g)
    (finds_eq s b ent v _ _ (numbered_found r) (ap (looked_up (json_of s b ent v)) (ap (json_of s b ent) e ∙ plain_is s b ent (Literal l) refl)) (m.told ne))
