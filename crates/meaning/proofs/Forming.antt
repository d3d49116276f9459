-- What a kind, a string and a literal say of a form.
use Prim.Native.Nat.{ℕ, ◌+◌, ◌*◌, ◌≤◌, ◌<◌}
use mathlib.Core.Bool.{true, false}
use mathlib.Core.List.{[]}
use mathlib.Core.Option.{Option, none, some}
use mathlib.Core.Path.{◌≡◌, refl, sym, ap, ap₂, ◌∙◌, subst}
use native.Mathlib.Omega.{arith}
use lib.ListN.{length}
use Rattle.rules.specs.Bytes.{Bytes}
use Rattle.rules.specs.Json.{Json, jnull, jbool, jpos, jneg, jstr, jarr, jobj}
use Rattle.rules.specs.Bits.{bits}
use Rattle.rules.specs.Layout.{field}
use Rattle.rules.specs.Bundle.{string}
use Rattle.rules.specs.BundleLaws.{bits_size}
use Rattle.rules.specs.Plan.{answer}
use Rattle.bits.specs.Packed.{bytes_at}
use Rattle.layout.specs.Text.{text_at}
use Rattle.parts.specs.Holds.{Holds}
use Rattle.parts.specs.HoldsLaws.{string_in}
use Rattle.places.specs.Places.{places, start_of, tree_at, json_at}
use Rattle.places.specs.Kinds.{kind_of}
use Rattle.places.proofs.Texts.{text_says}
use Rattle.places.specs.declared.Kind.TheVariants as kind
use Rattle.text.specs.declared.Text.TheVariants.{Said, Packed}
use Rattle.text.specs.Rest.{rest}
use Rattle.text.specs.Laws.{said_rest, said_stands}
use Rattle.value.specs.declared.Value.{Value}
use Rattle.meaning.specs.declared.Form.{Form}
use Rattle.meaning.specs.declared.Form.TheVariants.{Null, Boolean, Unsigned, Negative, String, List, Object, Merged}
use Rattle.meaning.specs.Meaning.{plain_json, merged_of}
use Rattle.meaning.specs.Standing.{PackedStands, PlainStands}
use Rattle.meaning.specs.Forms.{Known, StringForm, FormOf, PlainForm, Formed}

-- Kinds

pub null_kind : (j : Json) → kind.Null ≡ kind_of j → j ≡ jnull
null_kind jnull h = refl
null_kind (jbool true) h = cc
null_kind (jbool false) h = cc
null_kind (jpos n) h = cc
null_kind (jneg n) h = cc
null_kind (jstr s) h = cc
null_kind (jarr l) h = cc
null_kind (jobj m) h = cc

pub false_kind : (j : Json) → kind.False ≡ kind_of j → j ≡ jbool false
false_kind jnull h = cc
false_kind (jbool true) h = cc
false_kind (jbool false) h = refl
false_kind (jpos n) h = cc
false_kind (jneg n) h = cc
false_kind (jstr s) h = cc
false_kind (jarr l) h = cc
false_kind (jobj m) h = cc

pub true_kind : (j : Json) → kind.True ≡ kind_of j → j ≡ jbool true
true_kind jnull h = cc
true_kind (jbool true) h = refl
true_kind (jbool false) h = cc
true_kind (jpos n) h = cc
true_kind (jneg n) h = cc
true_kind (jstr s) h = cc
true_kind (jarr l) h = cc
true_kind (jobj m) h = cc

abbrev text_of : Json → Bytes
text_of jnull = []
text_of (jbool b) = []
text_of (jpos n) = []
text_of (jneg n) = []
text_of (jstr s) = s
text_of (jarr l) = []
text_of (jobj m) = []

text_kind : (j : Json) → kind.Text ≡ kind_of j → j ≡ jstr (text_of j)
text_kind jnull h = cc
text_kind (jbool true) h = cc
text_kind (jbool false) h = cc
text_kind (jpos n) h = cc
text_kind (jneg n) h = cc
text_kind (jstr s) h = refl
text_kind (jarr l) h = cc
text_kind (jobj m) h = cc

-- Strings

-- the string at the place i of the plan, whose first quote stands at q
pub place_text : (s b : Bytes) → answer s ≡ 0 → (i : ℕ) → i < places s → kind.Text ≡ kind_of (json_at s i) → (q : ℕ) → q ≡ start_of (tree_at s i) → q ≤ 65536
    → StringForm s b (json_at s i) (Said (q + 1) 0)
place_text s b h i lt k q e le =
    let t = text_says s h i lt (text_of (json_at s i)) (text_kind (json_at s i) k) in
    record {
      is = text_kind (json_at s i) k ∙ ap jstr (sym t.says ∙ sym (said_rest s b (start_of (tree_at s i))) ∙ ap (λ (x : ℕ). rest s b (Said (x + 1) 0)) (sym e));
      stands = said_stands s b q le;
    }

-- the string at the bit place p of the bundle
pub held_text : (s b : Bytes) (p : ℕ) → length b ≤ 65536 → Holds string (bits b) p → (f n : ℕ) → f ≡ p + 16 → n ≡ field (bits b) 16 p
    → StringForm s b (jstr (text_at (bits b) p)) (Packed f n)
held_text s b p le H f n e k =
    let i = string_in (bits b) p H in
    let z = bits_size b in
    record { is = ap jstr (ap₂ (bytes_at (bits b)) (sym e) (sym k)); stands = omega arith }

pub string_near : (b : Bytes) (p : ℕ) → length b ≤ 65536 → Holds string (bits b) p → p ≤ 524288
string_near b p le H =
    let i = string_in (bits b) p H in
    let z = bits_size b in
    omega arith

-- a character, packed in the bundle
pub packed_char : (s b : Bytes) (p n : ℕ) → length b ≤ 65536 → PackedStands b p n → StringForm s b (jstr (bytes_at (bits b) p n)) (Packed p n)
packed_char s b p n le k = record { is = refl; stands = omega (arith, k.within, bits_size b) }

-- Values

pub formed : (s b : Bytes) (v w : Value) (f : Form) → v ≡ w → merged_of w ≡ none → FormOf s b (plain_json s b w) f → Formed s b v f
formed s b v w f e n h = at f (sym e) h
  where
    at : (f : Form) → w ≡ v → FormOf s b (plain_json s b w) f → Formed s b v f
    at Null e h = subst (λ x. PlainForm s b x Null) e (record { plain = n; is = h })
    at (Boolean t) e h = subst (λ x. PlainForm s b x (Boolean t)) e (record { plain = n; is = h })
    at (Unsigned k) e h = subst (λ x. PlainForm s b x (Unsigned k)) e (record { plain = n; is = h })
    at (Negative k) e h = subst (λ x. PlainForm s b x (Negative k)) e (record { plain = n; is = h })
    at (String t) e h = subst (λ x. PlainForm s b x (String t)) e (record { plain = n; is = h })
    at (List i) e h = subst (λ x. PlainForm s b x (List i)) e (record { plain = n; is = h })
    at (Object i) e h = subst (λ x. PlainForm s b x (Object i)) e (record { plain = n; is = h })
    at (Merged i k) e h = absurd h

-- what is known of a value of one kind
pub known : (s b : Bytes) (v w : Value) → v ≡ w → merged_of w ≡ none → Known s b v → PlainStands s b w
known s b v w e n k = subst (Known s b) e k n
