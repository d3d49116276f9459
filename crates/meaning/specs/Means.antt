-- What holds of a value's meaning, whatever entries there are: code that is handed no entries says it so.
use Rattle.std.specs.Prelude.{ℕ, zero, suc, ◌<◌, Bool, true, false, List, [], ◌∷◌, ◌≡◌, refl}
use Rattle.std.proofs.Math.Option.{Option, none, some}
use Rattle.std.proofs.Common.{sym, ap, ap₂, ◌∙◌, subst, arith}
use Rattle.rules.specs.Bytes.{Bytes, pick, maybe, same, before}
use Rattle.rules.specs.Json.{Json, jnull, jbool, jpos, jneg, jstr, jarr, jobj, Jsons, Map, mnil, mcons, insert, no_members}
use Rattle.rules.specs.Context.{merge_json, base_map, insert_all}
use Rattle.places.specs.Places.{places, json_at}
use Rattle.places.specs.Kinds.{items_of, members_of}
use Rattle.text.specs.Rest as text
use Rattle.value.specs.declared.Value.{Value}
use Rattle.value.specs.declared.Value.TheVariants as value
use Rattle.meaning.specs.declared.Form.{Form}
use Rattle.meaning.specs.declared.Form.TheVariants.{Null, Boolean, Unsigned, Negative, String, List as Row, Object, Merged}
use Rattle.meaning.specs.Entries.{hash_base}
use Rattle.meaning.specs.Meaning.{plain_json, pairs, merged_of, json_of}
use Rattle.meaning.specs.MeaningLaws.{plain_is}
use Rattle.meaning.specs.Standing.{Stands, stands_plain, stands_merged}
use Rattle.meaning.specs.Kept.{stands_merged_is}
use Rattle.meaning.specs.Forms.{Known, FormOf, PlainForm, Formed}

pub record Means (s b : Bytes) (v : Value) (P : Json → Type 0) : Type 0 where
  pub at : (ent : List ℕ) (t : ℕ) → Stands s b ent t v → P (json_of s b ent v)

pub stands_known : (s b : Bytes) (ent : List ℕ) (t : ℕ) (v : Value) → Stands s b ent t v → Known s b v
stands_known s b ent t v st e = stands_plain s b ent t v e st

-- Merged objects

merged_value : (v : Value) (h n : ℕ) → merged_of v ≡ some (h, n) → v ≡ value.Merged h n
merged_value value.Missing h n e = cc
merged_value value.Null h n e = cc
merged_value value.False h n e = cc
merged_value value.True h n e = cc
merged_value value.Empty h n e = cc
merged_value (value.Context i) h n e = cc
merged_value (value.Place i) h n e = cc
merged_value (value.Literal p) h n e = cc
merged_value (value.Index k) h n e = cc
merged_value (value.IndexText k) h n e = cc
merged_value (value.Name o) h n e = cc
merged_value (value.Text p) h n e = cc
merged_value (value.SaidChar o k) h n e = cc
merged_value (value.PackedChar p k) h n e = cc
merged_value (value.Merged g k) h n e =
    ap₂ value.Merged (ap (λ (o : Option (ℕ × ℕ)). maybe o 0 (λ m. m.0)) e) (ap (λ (o : Option (ℕ × ℕ)). maybe o 0 (λ m. m.1)) e)

insert_some : (k : Bytes) (v : Json) (m : Map) → no_members (insert k v m) ≡ false
insert_some k v mnil = refl
insert_some k v (mcons n j l) = go (same k n) (before k n)
  where
    go : (x y : Bool) → no_members (pick x (mcons k v l) (pick y (mcons k v (mcons n j l)) (mcons n j (insert k v l)))) ≡ false
    go true y = refl
    go false true = refl
    go false false = refl

insert_all_some : (l : List (Bytes × Json)) (m : Map) → no_members m ≡ false → no_members (insert_all l m) ≡ false
insert_all_some [] m h = h
insert_all_some (e ∷ l) m h = insert_all_some l (insert e.0 e.1 m) (insert_some e.0 e.1 m)

-- by what its parts mean
pub merged_json : (s b : Bytes) (ent : List ℕ) (t : ℕ) (v : Value) (h n : ℕ) → merged_of v ≡ some (h, n) → Stands s b ent t v
    → json_of s b ent v ≡ merge_json (json_of s b ent (hash_base ent h)) (pairs b ent (json_of s b ent) h n)
merged_json s b ent t v h n e st =
    let m = stands_merged s b ent t v h n e st in
    ap (json_of s b ent) (merged_value v h n e) ∙ stands_merged_is s b ent h n m.base m.values

-- it is an object that has a member
pub merged_some : (s b : Bytes) (ent : List ℕ) (t : ℕ) (v : Value) (h n : ℕ) → merged_of v ≡ some (h, n) → Stands s b ent t v
    → (m : Map) × (json_of s b ent v ≡ jobj m) × (no_members m ≡ false)
merged_some s b ent t v h n e st = go n (stands_merged s b ent t v h n e st).keys.some (merged_json s b ent t v h n e st)
  where
    base : Json
    base = json_of s b ent (hash_base ent h)

    go : (k : ℕ) → 0 < k → json_of s b ent v ≡ merge_json base (pairs b ent (json_of s b ent) h k)
        → (m : Map) × (json_of s b ent v ≡ jobj m) × (no_members m ≡ false)
    go zero lt q = absurd (omega arith)
    go (suc k) lt q =
        let l = pairs b ent (json_of s b ent) h (suc k) in
        (insert_all l (base_map base), q, insert_all_some (pairs b ent (json_of s b ent) (suc h) k) _ (insert_some _ _ (base_map base)))

-- What is to be shown where the form is known

abbrev pub Gives : Bytes → Bytes → (Json → Type 0) → Form → Type 0
Gives s b P Null = P jnull
Gives s b P (Boolean t) = P (jbool t)
Gives s b P (Unsigned n) = P (jpos n)
Gives s b P (Negative n) = P (jneg n)
Gives s b P (String t) = text.Stands s b t → P (jstr (text.rest s b t))
Gives s b P (Row i) = (l : Jsons) → i < places s → json_at s i ≡ jarr l → P (jarr l)
Gives s b P (Object i) = (m : Map) → i < places s → json_at s i ≡ jobj m → P (jobj m)
Gives s b P (Merged h n) = (m : Map) → no_members m ≡ false → P (jobj m)

module _ (s b : Bytes) (P : Json → Type 0) where
  by_form : (j : Json) (f : Form) → FormOf s b j f → Gives s b P f → P j
  by_form j Null h g = subst P (sym h) g
  by_form j (Boolean t) h g = subst P (sym h) g
  by_form j (Unsigned n) h g = subst P (sym h) g
  by_form j (Negative n) h g = subst P (sym h) g
  by_form j (String t) h g = subst P (sym h.is) (g h.stands)
  by_form j (Row i) h g = subst P (sym h.is) (g (items_of j) h.within (sym h.at ∙ h.is))
  by_form j (Object i) h g = subst P (sym h.is) (g (members_of j) h.within (sym h.at ∙ h.is))
  by_form j (Merged k n) h g = absurd h

  plain_means : (v : Value) (f : Form) → PlainForm s b v f → Gives s b P f → Means s b v P
  plain_means v f p g = record { at = λ ent t st. subst P (sym (plain_is s b ent v p.plain)) (by_form (plain_json s b v) f p.is g) }

  pub means : (v : Value) (f : Form) → Formed s b v f → Gives s b P f → Means s b v P
  means v Null h g = plain_means v Null h g
  means v (Boolean t) h g = plain_means v (Boolean t) h g
  means v (Unsigned n) h g = plain_means v (Unsigned n) h g
  means v (Negative n) h g = plain_means v (Negative n) h g
  means v (String t) h g = plain_means v (String t) h g
  means v (Row i) h g = plain_means v (Row i) h g
  means v (Object i) h g = plain_means v (Object i) h g
  means v (Merged i n) h g =
      record { at = λ ent t st. let m = merged_some s b ent t v i n h st in subst P (sym m.1) (g m.0 m.2) }

-- one fact for another
pub means_so : (s b : Bytes) (v : Value) (P Q : Json → Type 0) → ((j : Json) → P j → Q j) → Means s b v P → Means s b v Q
means_so s b v P Q f m = record { at = λ ent t st. f (json_of s b ent v) (m.at ent t st) }
