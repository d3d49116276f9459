-- The context of a partial: its first parameter, or the current value. s is the plan, b the bundle, ent the entries of open partials.
use Rattle.std.specs.Prelude.{ℕ, zero, suc, ◌+◌, ◌-◌, ◌≤◌, ◌<◌, Bool, true, false, ◌&&◌, List, [], ◌∷◌, ◌++◌, ◌≡◌, refl, length, get_or}
use Rattle.std.proofs.Math.Option.{Option, none, some}
use Rattle.std.proofs.Common.{sym, ap, ap₂, ◌∙◌, subst, arith}
use Rattle.rules.specs.Bytes.{Bytes, maybe}
use Rattle.rules.specs.Json.{Json}
use Rattle.rules.specs.Plan.{answer}
use Rattle.rules.specs.Error as rule
use Rattle.rules.specs.Error.{got, wth}
use Rattle.rules.specs.Value.{ScopedJson, as_json}
use Rattle.rules.specs.Block.{BlockContext}
use Rattle.rules.specs.Context.{absolute_path, local_value, from_block, follow}
use Rattle.rules.specs.State.{RenderContext, first_context}
use Rattle.rules.specs.Registry.{Registry}
use Rattle.rules.specs.Partial.{partial_context}
use Rattle.places.specs.Places.{json_at, path_at}
use Rattle.value.specs.declared.Value.{Value}
use Rattle.value.specs.declared.Value.TheVariants.{Context}
use Rattle.meaning.specs.Meaning.{context_place, json_of}
use Rattle.meaning.specs.MeaningLaws.{plain_is}
use Rattle.meaning.specs.Standing.{Stands, stands_plain, stands_later}
use Rattle.scope.specs.declared.Scope.{Scope}
use Rattle.scope.specs.Scopes.{blank, base_of, context_of, blocks_of}
use Rattle.scope.specs.Standing.{ScopeStands}
use Rattle.scope.specs.Names.{without_path, ValueIs}
use Rattle.scope.proofs.NamesLaws.{value_is}
use Rattle.context.specs.Walk.{walk_end, follow_place}
use Rattle.context.proofs.Walking.{context_is}
use Rattle.expand.specs.declared.Options.{Options}
use Rattle.expand.specs.Answers.{Setting, Begins, Front}
use Rattle.expand.proofs.Calling.{as_json_of}

-- v is the value that x gives, without its path
pub record GivesContext (s b : Bytes) (ent : List ℕ) (t : ℕ) (x : rule.Got Json) (v : Value) : Type 0 where
  pub json : Json
  pub is : x ≡ got json
  pub value : ValueIs s b ent t json v

-- with n parameters, of which v is the first: in every setting whose newest scope is the front
abbrev pub StartsPartial : Scope → ℕ → Value → Value → Type 0
StartsPartial front n v r =
    (s b : Bytes) (ent : List ℕ) (l : List Scope) (used : ℕ) (o : Options) (g : Registry) (st : RenderContext) (t : ℕ) (w : Value) (ps : List ScopedJson)
    → answer s ≡ 0 → 0 < used → front ≡ get_or l (used - 1) blank → Setting s b ent l used o g st t → Front s b ent t n v w ps
    → GivesContext s b ent t (partial_context g st ps) r

-- Laws

and_false : (x : Bool) → (x && false) ≡ false
and_false true = refl
and_false false = refl

module _ (s b : Bytes) (ent : List ℕ) (l : List Scope) (used : ℕ) (o : Options) (g : Registry) (st : RenderContext) (t : ℕ) (S : Setting s b ent l used o g st t) (lt : 0 < used) where
  -- the newest scope
  pub front_is : st.kept.block ≡ context_of s b ent (get_or l (used - 1) blank)
  front_is = ap (first_context st.kept.block) S.open_scopes ∙ go used lt
    where
      go : (n : ℕ) → 0 < n → first_context st.kept.block (blocks_of s b ent l n) ≡ context_of s b ent (get_or l (n - 1) blank)
      go zero h = absurd (omega arith)
      go (suc n) h = let e : n ≡ suc n - 1 = omega arith in ap (λ (k : ℕ). context_of s b ent (get_or l k blank)) e

  pub front_stands : ScopeStands s b ent (get_or l (used - 1) blank)
  front_stands = S.stand.each (used - 1) (omega arith)

  pub front_ends : (get_or l (used - 1) blank).inline + (get_or l (used - 1) blank).count ≤ t
  front_ends = S.stand.within (used - 1) (omega arith)

  -- the current value
  module _ (h : answer s ≡ 0) where
    abbrev base : Value
    base = base_of (get_or l (used - 1) blank)

    base_stands : Stands s b ent t base
    base_stands = stands_later s b ent _ t base (omega (arith, front_ends)) front_stands.base

    abbrev led : Option ℕ → rule.Got ScopedJson
    led x = follow (json_at s 0) false (maybe (maybe x (some (json_of s b ent base)) (λ i. none)) (absolute_path (maybe x [] (path_at s) ++ [])) (λ v. local_value [] v))

    leads : (x : Option ℕ) → context_place base ≡ x → wth (led x) (λ v. got (as_json v)) ≡ got (json_of s b ent base)
    leads none e = refl
    leads (some i) e =
        let c = context_is base i e in
        let p = stands_plain s b ent t (Context i) refl (subst (Stands s b ent t) c base_stands) in
        ap (λ (y : rule.Got ScopedJson). wth y (λ v. got (as_json v))) (follow_place s h i [] p.0 p.1 ∙ walk_end (some (path_at s i)) (json_at s i))
        ∙ ap got (sym (ap (json_of s b ent) c ∙ plain_is s b ent (Context i) refl))

    pub current_given : GivesContext s b ent t (partial_context g st []) (without_path base)
    current_given = record {
      json = json_of s b ent base;
      is =
          ap₂ (λ (plan : Json) (x : BlockContext). wth (follow plan (g.options.recursive_lookup && false) (from_block (some x) [])) (λ v. got (as_json v))) S.plan front_is
          ∙ ap (λ (y : Bool). wth (follow (json_at s 0) y (from_block (some (context_of s b ent (get_or l (used - 1) blank))) [])) (λ v. got (as_json v))) (and_false g.options.recursive_lookup)
          ∙ leads (context_place base) refl;
      value = value_is s b ent t base base_stands;
    }

-- a parameter
module _ (s b : Bytes) (ent : List ℕ) (t n : ℕ) (v w : Value) (ps : List ScopedJson) (F : Front s b ent t n v w ps) (g : Registry) (st : RenderContext) where
  pub param_given : (n ≡ 0 → ⊥) → GivesContext s b ent t (partial_context g st ps) (without_path v)
  param_given z = record {
    json = json_of s b ent v;
    is = go ps F.count F.begins;
    value = value_is s b ent t v F.first;
  }
    where
      go : (l : List ScopedJson) → n ≡ length l → Begins s b ent l v w → partial_context g st l ≡ got (json_of s b ent v)
      go [] e q = absurd (z e)
      go (x ∷ []) e q = ap (λ (x : ScopedJson). got (as_json x)) q ∙ ap got (as_json_of s b ent v)
      go (x ∷ u ∷ l) e q = ap (λ (x : ScopedJson). got (as_json x)) q.0 ∙ ap got (as_json_of s b ent v)

  pub no_param : n ≡ 0 → ps ≡ []
  no_param z = go ps (sym z ∙ F.count)
    where
      go : (l : List ScopedJson) → 0 ≡ length l → l ≡ []
      go [] e = refl
      go (x ∷ l) e = absurd (omega arith)
