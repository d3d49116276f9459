-- What the arm of the other variants knows of a value.
use Prim.Native.Nat.{ℕ}
use mathlib.Core.List.{List, [], ◌∷◌}
use mathlib.Core.Option.{none}
use mathlib.Core.Path.{◌≡◌, refl, sym, ◌∙◌, subst}
use types.Run.{OneOf, miss}
use denote.Enum.Declared.{tag_of}
use Rattle.value.specs.contracts.Value.{the_type}
use Rattle.value.specs.declared.Value.{Value}
use Rattle.value.specs.declared.Value.TheVariants.{Missing, Null, False, True, Empty, Context, Place, Literal, Index, IndexText, Name, Text, SaidChar, PackedChar, Merged}
use Rattle.rules.specs.Bytes.{Bytes}
use Rattle.meaning.specs.Meaning.{plain_json, merged_of, context_place, json_of}
use Rattle.meaning.specs.MeaningLaws.{plain_is}
use Rattle.meaning.specs.Standing.{Stands, plain, stands_plain}
use Rattle.lookup.specs.Answers.{PlainHeld, pathless}

pub no_context : (v : Value) → OneOf (0 ∷ 1 ∷ 2 ∷ 3 ∷ 4 ∷ 6 ∷ 7 ∷ 8 ∷ 9 ∷ 10 ∷ 11 ∷ 12 ∷ 13 ∷ 14 ∷ []) (tag_of the_type v) → (context_place v ≡ none) × (v ≡ pathless v)
no_context Missing k = (refl, refl)
no_context Null k = (refl, refl)
no_context False k = (refl, refl)
no_context True k = (refl, refl)
no_context Empty k = (refl, refl)
no_context (Context i) k = absurd (miss (0 ∷ 1 ∷ 2 ∷ 3 ∷ 4 ∷ 6 ∷ 7 ∷ 8 ∷ 9 ∷ 10 ∷ 11 ∷ 12 ∷ 13 ∷ 14 ∷ []) 5 tt k)
no_context (Place i) k = (refl, refl)
no_context (Literal p) k = (refl, refl)
no_context (Index n) k = (refl, refl)
no_context (IndexText n) k = (refl, refl)
no_context (Name o) k = (refl, refl)
no_context (Text p) k = (refl, refl)
no_context (SaidChar o n) k = (refl, refl)
no_context (PackedChar p n) k = (refl, refl)
no_context (Merged h n) k = (refl, refl)

pub no_merged : (v : Value) → OneOf (0 ∷ 1 ∷ 2 ∷ 3 ∷ 4 ∷ 5 ∷ 6 ∷ 7 ∷ 8 ∷ 9 ∷ 10 ∷ 11 ∷ 12 ∷ 13 ∷ []) (tag_of the_type v) → merged_of v ≡ none
no_merged Missing k = refl
no_merged Null k = refl
no_merged False k = refl
no_merged True k = refl
no_merged Empty k = refl
no_merged (Context i) k = refl
no_merged (Place i) k = refl
no_merged (Literal p) k = refl
no_merged (Index n) k = refl
no_merged (IndexText n) k = refl
no_merged (Name o) k = refl
no_merged (Text p) k = refl
no_merged (SaidChar o n) k = refl
no_merged (PackedChar p n) k = refl
no_merged (Merged h n) k = absurd (miss (0 ∷ 1 ∷ 2 ∷ 3 ∷ 4 ∷ 5 ∷ 6 ∷ 7 ∷ 8 ∷ 9 ∷ 10 ∷ 11 ∷ 12 ∷ 13 ∷ []) 14 tt k)

-- of what is no place without its path, which r is
pub no_place : (v r : Value) → r ≡ pathless v → OneOf (0 ∷ 1 ∷ 2 ∷ 3 ∷ 4 ∷ 5 ∷ 7 ∷ 8 ∷ 9 ∷ 10 ∷ 11 ∷ 12 ∷ 13 ∷ 14 ∷ []) (tag_of the_type r) → context_place v ≡ none
no_place v r e k = go v (subst (λ (x : Value). OneOf (0 ∷ 1 ∷ 2 ∷ 3 ∷ 4 ∷ 5 ∷ 7 ∷ 8 ∷ 9 ∷ 10 ∷ 11 ∷ 12 ∷ 13 ∷ 14 ∷ []) (tag_of the_type x)) e k)
  where
    go : (v : Value) → OneOf (0 ∷ 1 ∷ 2 ∷ 3 ∷ 4 ∷ 5 ∷ 7 ∷ 8 ∷ 9 ∷ 10 ∷ 11 ∷ 12 ∷ 13 ∷ 14 ∷ []) (tag_of the_type (pathless v)) → context_place v ≡ none
    go Missing k = refl
    go Null k = refl
    go False k = refl
    go True k = refl
    go Empty k = refl
    go (Context i) k = absurd (miss (0 ∷ 1 ∷ 2 ∷ 3 ∷ 4 ∷ 5 ∷ 7 ∷ 8 ∷ 9 ∷ 10 ∷ 11 ∷ 12 ∷ 13 ∷ 14 ∷ []) 6 tt k)
    go (Place i) k = refl
    go (Literal p) k = refl
    go (Index n) k = refl
    go (IndexText n) k = refl
    go (Name o) k = refl
    go (Text p) k = refl
    go (SaidChar o n) k = refl
    go (PackedChar p n) k = refl
    go (Merged h n) k = refl

-- the same without its path

module _ (s b : Bytes) (ent : List ℕ) where
  pub pathless_json : (v : Value) → json_of s b ent (pathless v) ≡ json_of s b ent v
  pathless_json Missing = refl
  pathless_json Null = refl
  pathless_json False = refl
  pathless_json True = refl
  pathless_json Empty = refl
  pathless_json (Context i) = plain_is s b ent (Place i) refl ∙ sym (plain_is s b ent (Context i) refl)
  pathless_json (Place i) = refl
  pathless_json (Literal p) = refl
  pathless_json (Index n) = refl
  pathless_json (IndexText n) = refl
  pathless_json (Name o) = refl
  pathless_json (Text p) = refl
  pathless_json (SaidChar o n) = refl
  pathless_json (PackedChar p n) = refl
  pathless_json (Merged h n) = refl

  pub pathless_stands : (t : ℕ) (v : Value) → Stands s b ent t v → Stands s b ent t (pathless v)
  pathless_stands t Missing h = h
  pathless_stands t Null h = h
  pathless_stands t False h = h
  pathless_stands t True h = h
  pathless_stands t Empty h = h
  pathless_stands t (Context i) h = plain refl (stands_plain s b ent t (Context i) refl h).0
  pathless_stands t (Place i) h = h
  pathless_stands t (Literal p) h = h
  pathless_stands t (Index n) h = h
  pathless_stands t (IndexText n) h = h
  pathless_stands t (Name o) h = h
  pathless_stands t (Text p) h = h
  pathless_stands t (SaidChar o n) h = h
  pathless_stands t (PackedChar p n) h = h
  pathless_stands t (Merged g n) h = h

pub pathless_none : (v : Value) → context_place (pathless v) ≡ none
pathless_none Missing = refl
pathless_none Null = refl
pathless_none False = refl
pathless_none True = refl
pathless_none Empty = refl
pathless_none (Context i) = refl
pathless_none (Place i) = refl
pathless_none (Literal p) = refl
pathless_none (Index n) = refl
pathless_none (IndexText n) = refl
pathless_none (Name o) = refl
pathless_none (Text p) = refl
pathless_none (SaidChar o n) = refl
pathless_none (PackedChar p n) = refl
pathless_none (Merged h n) = refl

pub pathless_plain : (s b : Bytes) (v : Value) → plain_json s b (pathless v) ≡ plain_json s b v
pathless_plain s b Missing = refl
pathless_plain s b Null = refl
pathless_plain s b False = refl
pathless_plain s b True = refl
pathless_plain s b Empty = refl
pathless_plain s b (Context i) = refl
pathless_plain s b (Place i) = refl
pathless_plain s b (Literal p) = refl
pathless_plain s b (Index n) = refl
pathless_plain s b (IndexText n) = refl
pathless_plain s b (Name o) = refl
pathless_plain s b (Text p) = refl
pathless_plain s b (SaidChar o n) = refl
pathless_plain s b (PackedChar p n) = refl
pathless_plain s b (Merged h n) = refl

pub pathless_held : (s b : Bytes) (v : Value) → PlainHeld s b v → PlainHeld s b (pathless v)
pathless_held s b Missing x = x
pathless_held s b Null x = x
pathless_held s b False x = x
pathless_held s b True x = x
pathless_held s b Empty x = x
pathless_held s b (Context i) x = record { plain = refl; stands = x.stands.0 }
pathless_held s b (Place i) x = x
pathless_held s b (Literal p) x = x
pathless_held s b (Index n) x = x
pathless_held s b (IndexText n) x = x
pathless_held s b (Name o) x = x
pathless_held s b (Text p) x = x
pathless_held s b (SaidChar o n) x = x
pathless_held s b (PackedChar p n) x = x
pathless_held s b (Merged h n) x = x
