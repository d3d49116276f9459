-- The name of an inline partial, and whether a value is a string.
use Prim.Native.Nat.{ℕ, zero, suc, ◌+◌, ◌/◌, ◌%◌}
use mathlib.Core.Bool.{Bool, true, false}
use mathlib.Core.List.{List, [], ◌∷◌}
use mathlib.Core.Option.{Option, none, some}
use mathlib.Core.Path.{◌≡◌, refl, sym, ap, ◌∙◌, subst}
use native.Mathlib.Omega.{arith}
use types.Run.{OneOf, miss}
use denote.Enum.Declared.{tag_of}
use Rattle.meaning.specs.contracts.Form.{the_type}
use lib.Dec.{eqb}
use borrow.Author.Tests.{eqb-true, eqb-false}
use Rattle.rules.specs.Bytes.{Bytes, same}
use Rattle.rules.specs.Json.{Json, jnull, jbool, jpos, jneg, jstr, jarr, jobj, as_str}
use Rattle.rules.specs.Order.{differ}
use Rattle.rules.specs.Value.{render}
use Rattle.rules.specs.Template.{literal_json}
use Rattle.rules.specs.Bits.{Bits, bits}
use Rattle.rules.specs.Layout.{field}
use Rattle.rules.specs.Bundle.{string}
use Rattle.layout.specs.Text.{text_at}
use Rattle.parts.specs.Holds.{Holds}
use Rattle.parts.specs.Views.{literal_of}
use Rattle.parts.specs.Says.{literal_at, LiteralStands, literal_stands}
use Rattle.text.specs.declared.Text.{Text}
use Rattle.text.specs.Rest as text
use Rattle.text.specs.Rest.{rest}
use Rattle.value.specs.declared.Value.{Value}
use Rattle.value.specs.declared.Value.TheVariants as value
use Rattle.value.specs.Numbers.{decoded, place_of}
use Rattle.meaning.specs.declared.Form.{Form}
use Rattle.meaning.specs.declared.Form.TheVariants.{Null, Boolean, Unsigned, Negative, String, List as Row, Object, Merged}
use Rattle.meaning.specs.Entries.{low}
use Rattle.meaning.specs.Meaning.{plain_json, merged_of, json_of}
use Rattle.meaning.specs.MeaningLaws.{plain_is}
use Rattle.meaning.specs.Forms.{Known, Formed}
use Rattle.meaning.specs.Means.{stands_known}
use Rattle.expand.specs.Answers.{name_of}
use Rattle.scope.specs.Scopes.{inline_name}
use Rattle.scope.specs.Standing.{InlineStands}
use Rattle.scope.proofs.InlineLaws.{name_plain}
use Rattle.decorators.specs.Inlined.{is_string, Unnamed, same_swap}

pub string_name : (j : Json) → true ≡ is_string j → as_str j ≡ some (render j)
string_name jnull h = differ h
string_name (jbool b) h = differ h
string_name (jpos n) h = differ h
string_name (jneg n) h = differ h
string_name (jstr s) h = refl
string_name (jarr l) h = differ h
string_name (jobj m) h = differ h

pub string_none : (j : Json) → false ≡ is_string j → as_str j ≡ none
string_none jnull h = refl
string_none (jbool b) h = refl
string_none (jpos n) h = refl
string_none (jneg n) h = refl
string_none (jstr s) h = differ (sym h)
string_none (jarr l) h = refl
string_none (jobj m) h = refl

string_was : (j : Json) (x : Bytes) → as_str j ≡ some x → j ≡ jstr x
string_was jnull x h = cc
string_was (jbool b) x h = cc
string_was (jpos n) x h = cc
string_was (jneg n) x h = cc
string_was (jstr s) x h = cc
string_was (jarr l) x h = cc
string_was (jobj m) x h = cc

-- the value v of the entry e
module _ (s b : Bytes) (ent : List ℕ) (e : ℕ) (st : InlineStands s b ent e) (v : Value) (q : v ≡ decoded (low ent e)) where
  plain_v : merged_of v ≡ none
  plain_v = ap merged_of q ∙ name_plain s b ent ent e (decoded (low ent e)) (inline_name s b ent e) st.name st.is_name

  says : plain_json s b v ≡ jstr (inline_name s b ent e)
  says = sym (plain_is s b ent v plain_v) ∙ ap (json_of s b ent) q ∙ string_was (json_of s b ent (decoded (low ent e))) (inline_name s b ent e) st.is_name

  pub name_known : Known s b v
  name_known = subst (Known s b) (sym q) (stands_known s b ent e (decoded (low ent e)) st.name)

  pub name_text : (t : Text) → Formed s b v (String t) → (rest s b t ≡ inline_name s b ent e) × text.Stands s b t
  name_text t f =
      let h : jstr (rest s b t) ≡ jstr (inline_name s b ent e) = sym f.is.is ∙ says in
      (cc, f.is.stands)

  pub no_other : (f : Form) → OneOf (0 ∷ 1 ∷ 2 ∷ 3 ∷ 5 ∷ 6 ∷ 7 ∷ []) (tag_of the_type f) → Formed s b v f → ⊥
  no_other Null k f = let h : jnull ≡ jstr (inline_name s b ent e) = sym f.is ∙ says in let z : ◌≡◌ {A = ℕ} 0 1 = cc in omega arith
  no_other (Boolean t) k f = let h : jbool t ≡ jstr (inline_name s b ent e) = sym f.is ∙ says in let z : ◌≡◌ {A = ℕ} 0 1 = cc in omega arith
  no_other (Unsigned n) k f = let h : jpos n ≡ jstr (inline_name s b ent e) = sym f.is ∙ says in let z : ◌≡◌ {A = ℕ} 0 1 = cc in omega arith
  no_other (Negative n) k f = let h : jneg n ≡ jstr (inline_name s b ent e) = sym f.is ∙ says in let z : ◌≡◌ {A = ℕ} 0 1 = cc in omega arith
  no_other (String t) k f = absurd (miss (0 ∷ 1 ∷ 2 ∷ 3 ∷ 5 ∷ 6 ∷ 7 ∷ []) 4 tt k)
  no_other (Row i) k f = let h : jarr _ ≡ jstr (inline_name s b ent e) = sym f.is.is ∙ says in let z : ◌≡◌ {A = ℕ} 0 1 = cc in omega arith
  no_other (Object i) k f = let h : jobj _ ≡ jstr (inline_name s b ent e) = sym f.is.is ∙ says in let z : ◌≡◌ {A = ℕ} 0 1 = cc in omega arith
  no_other (Merged h n) k f = let g : ◌≡◌ {A = Option (ℕ × ℕ)} (some (h, n)) none = sym f ∙ plain_v in let z : ◌≡◌ {A = ℕ} 0 1 = cc in omega arith

-- A name that stands in the bundle

string_literal : (b : Bits) (p : ℕ) (n : Bytes) (k : ℕ) → LiteralStands b p (literal_of b (p + 3) k) → literal_json (literal_at b p) ≡ jstr n → Holds string b (p + 3) × (text_at b (p + 3) ≡ n)
string_literal b p n zero h e = let j : jnull ≡ jstr n = sym (ap literal_json h.is) ∙ e in let z : ◌≡◌ {A = ℕ} 0 1 = cc in absurd (omega arith)
string_literal b p n (suc zero) h e = let j : jbool false ≡ jstr n = sym (ap literal_json h.is) ∙ e in let z : ◌≡◌ {A = ℕ} 0 1 = cc in absurd (omega arith)
string_literal b p n (suc (suc zero)) h e = let j : jbool true ≡ jstr n = sym (ap literal_json h.is) ∙ e in let z : ◌≡◌ {A = ℕ} 0 1 = cc in absurd (omega arith)
string_literal b p n (suc (suc (suc zero))) h e = let j : jpos _ ≡ jstr n = sym (ap literal_json h.is) ∙ e in let z : ◌≡◌ {A = ℕ} 0 1 = cc in absurd (omega arith)
string_literal b p n (suc (suc (suc (suc zero)))) h e = let j : jneg _ ≡ jstr n = sym (ap literal_json h.is) ∙ e in let z : ◌≡◌ {A = ℕ} 0 1 = cc in absurd (omega arith)
string_literal b p n (suc (suc (suc (suc (suc k))))) h e = let j : jstr (text_at b (p + 3)) ≡ jstr n = sym (ap literal_json h.is) ∙ e in (h.parts, cc)

-- the value of a number, by its last four bits
decoded_literal : (n : ℕ) → n % 16 ≡ 7 → decoded n ≡ value.Literal (n / 16)
unfolding decoded place_of
decoded_literal n e = rw e

decoded_text : (n : ℕ) → n % 16 ≡ 11 → decoded n ≡ value.Text (n / 16)
unfolding decoded place_of
decoded_text n e = rw e

module _ (s b : Bytes) (ent : List ℕ) (e : ℕ) (st : InlineStands s b ent e) (n : ℕ) (q : n ≡ low ent e) where
  pub literal_name : n % 16 ≡ 7 → Holds string (bits b) (n / 16 + 3) × (text_at (bits b) (n / 16 + 3) ≡ inline_name s b ent e)
  literal_name h =
      let v = sym (decoded_literal n h) ∙ ap decoded q in
      string_literal (bits b) (n / 16) (inline_name s b ent e) (field (bits b) 3 (n / 16)) (literal_stands (bits b) (n / 16) (name_known s b ent e st _ v refl)) (says s b ent e st _ v)

  pub string_named : n % 16 ≡ 11 → Holds string (bits b) (n / 16) × (text_at (bits b) (n / 16) ≡ inline_name s b ent e)
  string_named h =
      let v = sym (decoded_text n h) ∙ ap decoded q in
      let j : jstr (text_at (bits b) (n / 16)) ≡ jstr (inline_name s b ent e) = says s b ent e st _ v in
      (name_known s b ent e st _ v refl, cc)

-- what a string of the bundle prints, and that it is there
pub text_name : (s b : Bytes) (ent : List ℕ) (v : Value) (q : ℕ) → v ≡ value.Text q → name_of s b ent v ≡ text_at (bits b) q
text_name s b ent v q e = ap (name_of s b ent) e ∙ ap render (plain_is s b ent (value.Text q) refl)

pub text_held : (s b : Bytes) (v : Value) (q : ℕ) → v ≡ value.Text q → Known s b v → Holds string (bits b) q
text_held s b v q e k = subst (Known s b) e k refl

-- what a comparison of the entry e says
pub one_compared : (s b : Bytes) (ent : List ℕ) (e : ℕ) (v : Value) (x : Bool) (l : Bytes) → x ≡ same (name_of s b ent v) l → l ≡ inline_name s b ent e → (y : Bool) → x ≡ y
    → same (inline_name s b ent e) (name_of s b ent v) ≡ y
one_compared s b ent e v x l h q y z = same_swap (inline_name s b ent e) (name_of s b ent v) ∙ sym (h ∙ ap (same (name_of s b ent v)) q) ∙ z

pub one_more_unnamed : (s b : Bytes) (ent : List ℕ) (e n : ℕ) (m : Bytes) → Unnamed s b ent e n m → same (inline_name s b ent (e + n)) m ≡ false → Unnamed s b ent e (n + 1) m
one_more_unnamed s b ent e n m u h i lt = go (eqb i n) refl
  where
    go : (y : Bool) → eqb i n ≡ y → same (inline_name s b ent (e + i)) m ≡ false
    go true q = ap (λ (j : ℕ). same (inline_name s b ent (e + j)) m) (eqb-true i n q) ∙ h
    go false q = let ne : i ≡ n → ⊥ = eqb-false i n q in u i (omega arith)
