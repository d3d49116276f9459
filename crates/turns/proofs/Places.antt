-- Values that are places of the plan, and merged objects.
use Prim.Native.Nat.{ℕ, ◌<◌}
use mathlib.Core.Bool.{false}
use mathlib.Core.List.{List, [], ◌∷◌, ◌++◌}
use mathlib.Core.Option.{Option, none, some}
use mathlib.Core.Path.{◌≡◌, refl, sym, ap, ◌∙◌, subst}
use types.Run.{OneOf, miss}
use denote.Enum.Declared.{tag_of}
use Rattle.value.specs.contracts.Value.{the_type}
use Rattle.rules.specs.Bytes.{Bytes, maybe}
use Rattle.rules.specs.Bits.{bits}
use Rattle.rules.specs.Template as rule
use Rattle.parts.specs.Says.{literal_at}
use Rattle.places.specs.Places.{places, path_at, live_at, json_at}
use Rattle.places.specs.Children.{none_some, some_eq}
use Rattle.value.specs.declared.Value.{Value}
use Rattle.value.specs.declared.Value.TheVariants.{Missing, Null, False, True, Empty, Context, Place, Literal, Index, IndexText, Name, Text, SaidChar, PackedChar, Merged}
use Rattle.meaning.specs.Meaning.{plain_json, merged_of, context_place, is_missing, json_of}
use Rattle.meaning.specs.MeaningLaws.{plain_is}
use Rattle.meaning.specs.Standing.{Stands, plain, stands_plain}
use Rattle.members.specs.Turns.{each_turns}
use Rattle.turns.specs.Turning.{place_of, inner, Leads}

-- a value of the plan has a path or not
by_place : (P : Value → Type 0) (i : ℕ) → P (Context i) → P (Place i) → (v : Value) → place_of v ≡ some i → P v
by_place P i x y Missing e = none_some e
by_place P i x y Null e = none_some e
by_place P i x y False e = none_some e
by_place P i x y True e = none_some e
by_place P i x y Empty e = none_some e
by_place P i x y (Context j) e = subst (λ (k : ℕ). P (Context k)) (sym (some_eq e)) x
by_place P i x y (Place j) e = subst (λ (k : ℕ). P (Place k)) (sym (some_eq e)) y
by_place P i x y (Literal p) e = none_some e
by_place P i x y (Index n) e = none_some e
by_place P i x y (IndexText n) e = none_some e
by_place P i x y (Name o) e = none_some e
by_place P i x y (Text p) e = none_some e
by_place P i x y (SaidChar o n) e = none_some e
by_place P i x y (PackedChar p n) e = none_some e
by_place P i x y (Merged h n) e = none_some e

pub no_place : (v : Value) → OneOf (0 ∷ 1 ∷ 2 ∷ 3 ∷ 4 ∷ 7 ∷ 8 ∷ 9 ∷ 10 ∷ 11 ∷ 12 ∷ 13 ∷ 14 ∷ []) (tag_of the_type v) → none ≡ place_of v
no_place Missing k = refl
no_place Null k = refl
no_place False k = refl
no_place True k = refl
no_place Empty k = refl
no_place (Context i) k = absurd (miss (0 ∷ 1 ∷ 2 ∷ 3 ∷ 4 ∷ 7 ∷ 8 ∷ 9 ∷ 10 ∷ 11 ∷ 12 ∷ 13 ∷ 14 ∷ []) 5 tt k)
no_place (Place i) k = absurd (miss (0 ∷ 1 ∷ 2 ∷ 3 ∷ 4 ∷ 7 ∷ 8 ∷ 9 ∷ 10 ∷ 11 ∷ 12 ∷ 13 ∷ 14 ∷ []) 6 tt k)
no_place (Literal p) k = refl
no_place (Index n) k = refl
no_place (IndexText n) k = refl
no_place (Name o) k = refl
no_place (Text p) k = refl
no_place (SaidChar o n) k = refl
no_place (PackedChar p n) k = refl
no_place (Merged h n) k = refl

pub is_merged : (v : Value) → (merged_of v ≡ none → ⊥) → (h : ℕ) × (n : ℕ) × (v ≡ Merged h n)
is_merged Missing f = absurd (f refl)
is_merged Null f = absurd (f refl)
is_merged False f = absurd (f refl)
is_merged True f = absurd (f refl)
is_merged Empty f = absurd (f refl)
is_merged (Context i) f = absurd (f refl)
is_merged (Place i) f = absurd (f refl)
is_merged (Literal p) f = absurd (f refl)
is_merged (Index n) f = absurd (f refl)
is_merged (IndexText n) f = absurd (f refl)
is_merged (Name o) f = absurd (f refl)
is_merged (Text p) f = absurd (f refl)
is_merged (SaidChar o n) f = absurd (f refl)
is_merged (PackedChar p n) f = absurd (f refl)
is_merged (Merged h n) f = (h, n, refl)

pub place_plain : (i : ℕ) (v : Value) → place_of v ≡ some i → merged_of v ≡ none
place_plain i = by_place (λ v. merged_of v ≡ none) i refl refl

module _ (s b : Bytes) (ent : List ℕ) where
  pub place_json : (i : ℕ) (v : Value) → place_of v ≡ some i → json_of s b ent v ≡ json_at s i
  place_json i = by_place (λ v. json_of s b ent v ≡ json_at s i) i (plain_is s b ent (Context i) refl) (plain_is s b ent (Place i) refl)

  pub place_within : (t i : ℕ) (v : Value) → place_of v ≡ some i → Stands s b ent t v → i < places s
  place_within t i =
      by_place (λ v. Stands s b ent t v → i < places s) i (λ h. (stands_plain s b ent t (Context i) refl h).0) (λ h. stands_plain s b ent t (Place i) refl h)

  -- the place c inside v
  inner_by : (P : Value → Type 0) (c : ℕ) → P (Context c) → P (Place c) → (o : Option ℕ) → P (maybe o (Place c) (λ i. Context c))
  inner_by P c x y none = y
  inner_by P c x y (some i) = x

  pub inner_place : (v : Value) (c : ℕ) → place_of (inner v c) ≡ some c
  inner_place v c = inner_by (λ w. place_of w ≡ some c) c refl refl (context_place v)

  pub inner_json : (v : Value) (c : ℕ) → json_of s b ent (inner v c) ≡ json_at s c
  inner_json v c = place_json c (inner v c) (inner_place v c)

  pub inner_present : (v : Value) (c : ℕ) → is_missing (inner v c) ≡ false
  inner_present v c = inner_by (λ w. is_missing w ≡ false) c refl refl (context_place v)

  pub inner_stands : (t i c : ℕ) (v : Value) → c < places s → live_at s c ≡ live_at s i → place_of v ≡ some i → Stands s b ent t v → Stands s b ent t (inner v c)
  inner_stands t i c v lt e =
      by_place (λ w. Stands s b ent t w → Stands s b ent t (inner w c)) i
      (λ h. plain {v = Context c} refl (lt, e ∙ (stands_plain s b ent t (Context i) refl h).1))
      (λ h. plain {v = Place c} refl lt) v

  pub inner_leads : (i c : ℕ) (q : Bytes) (v : Value) → path_at s c ≡ path_at s i ++ (q ∷ []) → place_of v ≡ some i → Leads s (context_place v) q (inner v c)
  inner_leads i c q v e = by_place (λ w. Leads s (context_place w) q (inner w c)) i (c, refl, e) refl v

-- no turns
literal_turns : (l : rule.Literal) → each_turns (rule.literal_json l) ≡ []
literal_turns rule.null = refl
literal_turns (rule.boolean t) = refl
literal_turns (rule.unsigned n) = refl
literal_turns (rule.negative n) = refl
literal_turns (rule.string t) = refl

pub no_turns : (s b : Bytes) (ent : List ℕ) (v : Value) → none ≡ place_of v → merged_of v ≡ none → each_turns (json_of s b ent v) ≡ []
no_turns s b ent v e f = ap each_turns (plain_is s b ent v f) ∙ at v e f
  where
    at : (v : Value) → none ≡ place_of v → merged_of v ≡ none → each_turns (plain_json s b v) ≡ []
    at Missing e f = refl
    at Null e f = refl
    at False e f = refl
    at True e f = refl
    at Empty e f = refl
    at (Context i) e f = none_some e
    at (Place i) e f = none_some e
    at (Literal p) e f = literal_turns (literal_at (bits b) p)
    at (Index n) e f = refl
    at (IndexText n) e f = refl
    at (Name o) e f = refl
    at (Text p) e f = refl
    at (SaidChar o n) e f = refl
    at (PackedChar p n) e f = refl
    at (Merged h n) e f = none_some (sym f)
