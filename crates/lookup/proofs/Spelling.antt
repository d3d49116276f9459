-- Strings, and their characters as members.
use Prim.Native.Nat.{ℕ, zero, suc, ◌+◌, ◌≤◌, ◌<◌}
use mathlib.Core.List.{List, [], ◌∷◌}
use mathlib.Core.Option.{Option, none, some}
use mathlib.Core.Path.{◌≡◌, refl, sym, ap, ◌∙◌, subst}
use native.Mathlib.Omega.{arith}
use lib.ListN.{length, get_elem?}
use Rattle.rules.specs.Bytes.{Bytes, maybe}
use Rattle.rules.specs.Json.{Json, jnull, jbool, jpos, jneg, jstr, jarr, jobj, get_member}
use Rattle.rules.specs.Context.{chars, base_map}
use Rattle.rules.specs.Scan.{saying}
use Rattle.merging.specs.Lookup.{canonical}
use Rattle.merging.proofs.Lookup.{numbered_chars_get}
use Rattle.places.specs.Accepted.{Accepted}
use Rattle.places.specs.Places.{places, start_of, tree_at, json_at}
use Rattle.places.proofs.Texts.{text_says}
use Rattle.saying.specs.Characters.{Whole}
use Rattle.text.specs.Rest.{rest}
use Rattle.text.specs.declared.Text.{Text}
use Rattle.text.specs.declared.Text.TheVariants.{Said}
use Rattle.chars.specs.Spelled.{Spelled, Found as Character}
use Rattle.value.specs.declared.Value.{Value}
use Rattle.value.specs.declared.Value.TheVariants.{Missing, Null, False, True, Empty, Context, Place, Literal, Index, IndexText, Name, SaidChar, PackedChar, Merged, Text as TextValue}
use Rattle.meaning.specs.Meaning.{plain_json, merged_of}
use Rattle.meaning.specs.Standing.{PlainStands}
use Rattle.lookup.specs.Answers.{Spells, pathless, PlainFound}
use Rattle.lookup.proofs.Told.{pathless_none}

abbrev pub Stringless : Json → Type 0
Stringless jnull = Unit {0}
Stringless (jbool t) = Unit {0}
Stringless (jpos n) = Unit {0}
Stringless (jneg n) = Unit {0}
Stringless (jstr l) = ⊥
Stringless (jarr l) = Unit {0}
Stringless (jobj m) = Unit {0}

text_eq : {a b : Bytes} → jstr a ≡ jstr b → a ≡ b
text_eq h = cc

module _ (s b : Bytes) (r : Text) where
  pub spells_none : (j k : Json) → j ≡ k → Stringless k → Spells s b j r
  spells_none j k e n l f = absurd (subst Stringless (sym e ∙ f) n)

  pub spells_same : (j : Json) (x : Bytes) → j ≡ jstr x → rest s b r ≡ x → Spelled s b r → Spells s b j r
  spells_same j x e p q l f = record { is = p ∙ text_eq (sym e ∙ f); spelled = q }

  pub spells_eq : (j k : Json) → j ≡ k → Spells s b k r → Spells s b j r
  spells_eq j k e f = subst (λ (x : Json). Spells s b x r) (sym e) f

-- the string at a place of the plan
pub place_spells : (s b : Bytes) (tab : List ℕ) → Accepted s tab → (i : ℕ) → i < places s → (o : ℕ) → o ≡ start_of (tree_at s i) → o ≤ 65536 → Spells s b (json_at s i) (Said (o + 1) 0)
place_spells s b tab a i lt o e le l f =
    let t = text_says s a.answers i lt l f in
    record { is = ap (saying s) e ∙ t.says; spelled = (refl, subst (λ (x : ℕ). Whole s (x + 1)) (sym e) t.whole, omega arith) }

-- what stands under a number in a string
pathless_plain : (s b : Bytes) (v : Value) → plain_json s b (pathless v) ≡ plain_json s b v
pathless_plain s b Missing = refl
pathless_plain s b Null = refl
pathless_plain s b False = refl
pathless_plain s b True = refl
pathless_plain s b Empty = refl
pathless_plain s b (Context i) = refl
pathless_plain s b (Place i) = refl
pathless_plain s b (Literal p) = refl
pathless_plain s b (Index n) = refl
pathless_plain s b (IndexText n) = refl
pathless_plain s b (Name o) = refl
pathless_plain s b (TextValue p) = refl
pathless_plain s b (SaidChar o n) = refl
pathless_plain s b (PackedChar p n) = refl
pathless_plain s b (Merged h n) = refl

pathless_held : (s b : Bytes) (v : Value) → PlainStands s b v → PlainStands s b (pathless v)
pathless_held s b Missing h = h
pathless_held s b Null h = h
pathless_held s b False h = h
pathless_held s b True h = h
pathless_held s b Empty h = h
pathless_held s b (Context i) h = h.0
pathless_held s b (Place i) h = h
pathless_held s b (Literal p) h = h
pathless_held s b (Index n) h = h
pathless_held s b (IndexText n) h = h
pathless_held s b (Name o) h = h
pathless_held s b (TextValue p) h = h
pathless_held s b (SaidChar o n) h = h
pathless_held s b (PackedChar p n) h = h
pathless_held s b (Merged g n) h = h

pathless_merged : (v : Value) → merged_of v ≡ none → merged_of (pathless v) ≡ none
pathless_merged Missing h = h
pathless_merged Null h = h
pathless_merged False h = h
pathless_merged True h = h
pathless_merged Empty h = h
pathless_merged (Context i) h = h
pathless_merged (Place i) h = h
pathless_merged (Literal p) h = h
pathless_merged (Index n) h = h
pathless_merged (IndexText n) h = h
pathless_merged (Name o) h = h
pathless_merged (TextValue p) h = h
pathless_merged (SaidChar o n) h = h
pathless_merged (PackedChar p n) h = h
pathless_merged (Merged g n) h = h

module _ (s b : Bytes) (x : Text) (k : Bytes) (few : length (chars (rest s b x)) ≤ 65536) where
  by_number : (o : Option ℕ) → canonical k ≡ o
      → get_member (base_map (jstr (rest s b x))) k ≡ maybe o none (λ n. maybe (get_elem? (chars (rest s b x)) n) none (λ c. some (jstr c)))
  by_number o e = numbered_chars_get (chars (rest s b x)) k few ∙ ap (λ (p : Option ℕ). maybe p none (λ n. maybe (get_elem? (chars (rest s b x)) n) none (λ c. some (jstr c)))) e

  pub no_number : canonical k ≡ none → get_member (base_map (jstr (rest s b x))) k ≡ none
  no_number e = by_number none e

  module _ (n : ℕ) (e : canonical k ≡ some n) where
    pub no_character : get_elem? (chars (rest s b x)) n ≡ none → get_member (base_map (jstr (rest s b x))) k ≡ none
    no_character f = by_number (some n) e ∙ ap (λ (o : Option Bytes). maybe o none (λ c. some (jstr c))) f

    pub character : (w v : Value) → Character s b (get_elem? (chars (rest s b x)) n) w → v ≡ pathless w → PlainFound s b (get_member (base_map (jstr (rest s b x))) k) v
    character w v c f = subst (PlainFound s b (get_member (base_map (jstr (rest s b x))) k)) (sym f) (record {
      value = by_number (some n) e ∙ ap (λ (o : Option Bytes). maybe o none (λ l. some (jstr l))) c.is ∙ ap some (sym (pathless_plain s b w ∙ c.value.means));
      plain = pathless_merged w c.value.plain;
      stands = pathless_held s b w c.value.stands;
      no_path = pathless_none w;
    })
