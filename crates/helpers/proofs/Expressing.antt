-- What an expression is about to do.
use Rattle.std.specs.Prelude.{Result, Ok, Err, Option as RustOption, Some}
use Prim.Native.Nat.{ℕ, zero, suc, ◌<◌}
use native.Mathlib.Omega.{arith}
use mathlib.Core.Bool.{Bool, true, false}
use mathlib.Core.List.{List, [], ◌∷◌}
use mathlib.Core.Option.{Option, none, some}
use mathlib.Core.Path.{◌≡◌, refl, sym, ap, ◌∙◌, subst}
use lib.Dec.{eqb}
use lib.ListN.{length, get_or}
use borrow.Author.Tests.{ne_eqb}
use types.Run.{OneOf, miss}
use denote.Enum.Declared.{tag_of}
use Rattle.value.specs.contracts.Value.{the_type as value-type}
use Rattle.rules.specs.Bytes.{Bytes, pick, maybe}
use Rattle.rules.specs.Json.{Json}
use Rattle.rules.specs.Bits.{Bits}
use Rattle.rules.specs.Layout.{field, ◌then◌}
use Rattle.rules.specs.Bundle.{string, param, call_of}
use Rattle.rules.specs.Template as template
use Rattle.rules.specs.Template.{no_names, name_only}
use Rattle.rules.specs.Error as rule
use Rattle.rules.specs.Error.{got, missing-variable}
use Rattle.rules.specs.Value as scoped
use Rattle.rules.specs.Value.{ScopedJson, derived, context, missing, render}
use Rattle.rules.specs.State.{RenderContext, Res, choose, either, or_fail, page}
use Rattle.rules.specs.Registry as registry
use Rattle.rules.specs.Registry.{Registry, get_helper, paper_limits}
use Rattle.rules.specs.Output.{do_escape, indent_aware_write}
use Rattle.rules.specs.Expand as rules
use Rattle.rules.specs.Render.{render_helper, render_value, render_name, render_expression}
use Rattle.parts.specs.Holds.{Holds, row}
use Rattle.calls.specs.Calls.{param_at, call_at, params_at, hash_at, name_end, call_view, CallStands, call_stands, bare_call, full_call, no_params, params_more, no_hash, hash_more}
use Rattle.calls.specs.declared.Call.{Call}
use Rattle.places.specs.Places.{json_at, path_at}
use Rattle.value.specs.declared.Value.{Value}
use Rattle.value.specs.declared.Value.TheVariants.{Missing, Null, False, True, Empty, Context, Place, Literal, Index, IndexText, Name, Text, SaidChar, PackedChar, Merged}
use Rattle.meaning.specs.Meaning.{context_place, is_missing, json_of, scoped_of}
use Rattle.meaning.specs.Standing.{Stands}
use Rattle.scope.specs.declared.Scope.{Scope}
use Rattle.scope.specs.Scopes.{blank, context_of, partials_of, blocks_of}
use Rattle.context.specs.Near.{NearScopes}
use Rattle.expand.specs.declared.Options.{Options}
use Rattle.expand.specs.declared.HelperDef.{HelperDef}
use Rattle.expand.specs.Answers.{Setting, Refuses, Expands, helper_of}
use Rattle.helpers.specs.declared.Shows.{Shows}
use Rattle.helpers.specs.declared.Shows.TheVariants as shows
use Rattle.helpers.specs.Does.{has, is_known, Fails, Expresses, shown, rendered}
use Rattle.helpers.proofs.Deciding.{as_json_of, fails, has_none, has_some}
use Rattle.error.specs.declared.RenderErrorReason.TheVariants.{MissingVariable}
use Rattle.error.specs.declared.RenderErrorReason.{RenderErrorReason as Reason}

-- A call that is its name alone

module _ (d : ℕ) (b : Bits) (p : ℕ) (v : Call) (S : CallStands d b p v) where
  pub params_name : (v.params ≡ 0 → ⊥) → name_only (call_at d b p) ≡ none
  params_name z = ap name_only S.is ∙ go v.params S.params z
    where
      go : (n : ℕ) → Holds (row (param d) n) b v.param → (n ≡ 0 → ⊥) → name_only (template.call (param_at d b p) (params_at d n b v.param) (hash_at d v.pairs b v.pair)) ≡ none
      go zero H z = absurd (z refl)
      go (suc n) H z = ap (λ (ps : template.Params). name_only (template.call (param_at d b p) ps (hash_at d v.pairs b v.pair))) (params_more d n b v.param H)

  bare : v.params ≡ 0 → name_only (call_at d b p) ≡ name_only (template.call (param_at d b p) template.pnil (hash_at d v.pairs b v.pair))
  bare z =
      ap name_only S.is
      ∙ ap (λ (ps : template.Params). name_only (template.call (param_at d b p) ps (hash_at d v.pairs b v.pair))) (ap (λ (n : ℕ). params_at d n b v.param) z ∙ no_params d b v.param)

  pub pairs_name : v.params ≡ 0 → name_only (call_at d b p) ≡ pick (eqb v.pairs 0) (some (param_at d b p)) none
  pairs_name z = bare z ∙ go v.pairs S.pairs
    where
      go : (n : ℕ) → Holds (row (string then param d) n) b v.pair
          → name_only (template.call (param_at d b p) template.pnil (hash_at d n b v.pair)) ≡ pick (eqb n 0) (some (param_at d b p)) none
      go zero H = ap (λ (hs : template.Hash). name_only (template.call (param_at d b p) template.pnil hs)) (no_hash d b v.pair)
      go (suc n) H = rw (ne_eqb (suc n) 0 (λ q. absurd (omega (arith, q)))) (ap (λ (hs : template.Hash). name_only (template.call (param_at d b p) template.pnil hs)) (hash_more d n b v.pair H))

-- x is the 8 bits behind its name
pub bare_name : (d : ℕ) (b : Bits) (p : ℕ) → Holds (call_of (param d)) b p → (x : ℕ) → x ≡ field b 8 (name_end d b p) → name_only (call_at d b p) ≡ pick (eqb x 0) (some (param_at d b p)) none
bare_name d b p H zero e =
    let c = bare_call d b p H (sym e) in
    pairs_name d b p (call_view d b p) (call_stands d b p H) c.0 ∙ ap (λ (n : ℕ). pick (eqb n 0) (some (param_at d b p)) none) c.1
bare_name d b p H (suc k) e = go (call_view d b p).params refl ∙ sym (chosen (suc k) (λ q. absurd (omega (arith, q))))
  where
    chosen : (n : ℕ) → (n ≡ 0 → ⊥) → pick (eqb n 0) (some (param_at d b p)) none ≡ none
    chosen n h = rw (ne_eqb n 0 h)

    full : field b 8 (name_end d b p) ≡ 0 → ⊥
    full q = absurd (omega (arith, e, q))

    go : (n : ℕ) → (call_view d b p).params ≡ n → name_only (call_at d b p) ≡ none
    go zero z = pairs_name d b p (call_view d b p) (call_stands d b p H) z ∙ chosen (call_view d b p).pairs (full_call d b p H full z)
    go (suc n) z = params_name d b p (call_view d b p) (call_stands d b p H) (λ q. absurd (omega (arith, z, q)))

-- A name that is a helper's

pub known_helper : (n : Bytes) (h : HelperDef) → h ≡ helper_of (get_helper n) → is_known h ≡ has (get_helper n)
known_helper n h e = ap is_known e ∙ go (get_helper n)
  where
    go : (o : Option registry.HelperDef) → is_known (helper_of o) ≡ has o
    go none = refl
    go (some registry.HelperDef.each) = refl
    go (some registry.HelperDef.with) = refl
    go (some registry.HelperDef.if) = refl
    go (some registry.HelperDef.unless) = refl
    go (some registry.HelperDef.lookup) = refl

-- Values

-- all but a missing one are there
pub not_missing : (strict : Bool) (v : Value) → OneOf (1 ∷ 2 ∷ 3 ∷ 4 ∷ 5 ∷ 6 ∷ 7 ∷ 8 ∷ 9 ∷ 10 ∷ 11 ∷ 12 ∷ 13 ∷ 14 ∷ []) (tag_of value-type v) → shows.Value v ≡ shown strict v
not_missing strict Missing k = absurd (miss (1 ∷ 2 ∷ 3 ∷ 4 ∷ 5 ∷ 6 ∷ 7 ∷ 8 ∷ 9 ∷ 10 ∷ 11 ∷ 12 ∷ 13 ∷ 14 ∷ []) 0 tt k)
not_missing strict Null k = refl
not_missing strict False k = refl
not_missing strict True k = refl
not_missing strict Empty k = refl
not_missing strict (Context j) k = refl
not_missing strict (Place j) k = refl
not_missing strict (Literal p) k = refl
not_missing strict (Index n) k = refl
not_missing strict (IndexText n) k = refl
not_missing strict (Name o) k = refl
not_missing strict (Text p) k = refl
not_missing strict (SaidChar o n) k = refl
not_missing strict (PackedChar p n) k = refl
not_missing strict (Merged h n) k = refl

missing_is : (s b : Bytes) (ent : List ℕ) (v : Value) → scoped.is_missing (scoped_of s b ent v) ≡ is_missing v
missing_is s b ent v = go (is_missing v) (context_place v)
  where
    go : (c : Bool) (o : Option ℕ) → scoped.is_missing (pick c missing (maybe o (derived (json_of s b ent v)) (λ i. context (json_of s b ent v) (path_at s i)))) ≡ c
    go true o = refl
    go false none = refl
    go false (some i) = refl

-- What the rules give, against the code

failing : {A : Type 0} (x : rule.Got A) (f : A → Res) (n : RustOption Reason) → Refuses x n → Fails (or_fail x f) n
unfolding or_fail
failing x f n r = record { reason = r.reason; is = ap (λ y. or_fail y f) r.is; by_reason = r.by_reason }

module _ (s b : Bytes) (ent : List ℕ) (t : ℕ) (g : Registry) (st : RenderContext) (c : template.Call) (ibw : Bool) where
  abbrev Draws : Res → Shows → Type 0
  Draws x r = Expresses s b ent t g c ibw st x r

  abbrev whole : Res
  whole = render_expression g c ibw st

  pub called : name_only c ≡ none → Draws whole shows.Helper
  unfolding render_expression either
  called q = ap (λ (o : Option template.Parameter). either o (λ _. render_helper g c ibw no_names none none st) (λ n. render_name g c ibw n st)) q

  module _ (n : template.Parameter) (N : name_only c ≡ some n) where
    by_name : whole ≡ render_name g c ibw n st
    unfolding render_expression either
    by_name = ap (λ (o : Option template.Parameter). either o (λ _. render_helper g c ibw no_names none none st) (λ n. render_name g c ibw n st)) N

    pub bad_name : (m : Reason) → Refuses (rules.expand_as_name g st n) (Some m) → Draws whole (shows.Bad m)
    unfolding render_name
    bad_name m r = subst (λ (x : Res). Fails x (Some m)) (sym by_name) (failing (rules.expand_as_name g st n) _ (Some m) r)

    abbrev named : Option registry.HelperDef → Res
    named o = either o (λ _. or_fail (rules.expand g st n) (λ v. render_value g v st)) (λ h. render_helper g c ibw no_names none none st)

    found : (w : Bytes) → rules.expand_as_name g st n ≡ got w → whole ≡ named (get_helper w)
    unfolding render_name or_fail
    found w q = by_name ∙ ap (λ (x : rule.Got Bytes). or_fail x (λ w. named (get_helper w))) q

    pub named_helper : (w : Bytes) → rules.expand_as_name g st n ≡ got w → has (get_helper w) ≡ true → Draws whole shows.Helper
    unfolding either
    named_helper w q h = let k = has_some (get_helper w) h in found w q ∙ ap named k.1

    module _ (strict : Bool) (A : g.options.strict_mode ≡ strict) where
      written : (v : Value) → Stands s b ent t v → (x : Res) → x ≡ render_value g (scoped_of s b ent v) st → Draws x (shown strict v)
      unfolding render_value choose
      written v h x q = go (is_missing v) (missing_is s b ent v) strict A
        where
          go : (c : Bool) → scoped.is_missing (scoped_of s b ent v) ≡ c → (d : Bool) → g.options.strict_mode ≡ d → Draws x (pick c (pick d (shows.Bad MissingVariable) shows.Nothing) (shows.Value v))
          go true p true f = fails missing-variable x (q ∙ rw (p, f))
          go true p false f = q ∙ rw (p, f)
          go false p d f = record { is = q ∙ rw p (ap (λ (j : Json). indent_aware_write (do_escape st (render j)) st) (as_json_of s b ent v)); stands = h }

      pub named_value : (w : Bytes) → rules.expand_as_name g st n ≡ got w → has (get_helper w) ≡ false → (y : Result Value Reason) → Expands s b ent t (rules.expand g st n) y → (r : Shows) → r ≡ rendered strict y
          → Draws whole r
      unfolding either or_fail
      named_value w q h y x r f = subst (Draws whole) (sym f) (go y x)
        where
          valued : whole ≡ or_fail (rules.expand g st n) (λ v. render_value g v st)
          valued = found w q ∙ ap named (has_none (get_helper w) h)

          go : (y : Result Value Reason) → Expands s b ent t (rules.expand g st n) y → Draws whole (rendered strict y)
          go (Err m) x = subst (λ (z : Res). Fails z (Some m)) (sym valued) (failing (rules.expand g st n) _ (Some m) x)
          go (Ok v) x = written v x.1 whole (valued ∙ ap (λ (z : rule.Got ScopedJson). or_fail z (λ v. render_value g v st)) x.0)

-- There is such a registry and such a state

blocks_length : (s b : Bytes) (ent : List ℕ) (l : List Scope) (n : ℕ) → length (blocks_of s b ent l n) ≡ n
blocks_length s b ent l zero = refl
blocks_length s b ent l (suc n) = ap suc (blocks_length s b ent l n)

pub record SomeSetting (s b : Bytes) (ent : List ℕ) (l : List Scope) (used : ℕ) (o : Options) : Type 0 where
  pub g : Registry
  pub st : RenderContext
  pub t : ℕ
  pub setting : Setting s b ent l used o g st t

pub some_setting : (s b : Bytes) (ent : List ℕ) (l : List Scope) (used : ℕ) (o : Options) → 0 < used → NearScopes s b ent l used → SomeSetting s b ent l used o
some_setting s b ent l zero o lt h = absurd (omega arith)
some_setting s b ent l (suc n) o lt h = record {
  g = record {
    templates = [];
    plan = json_at s 0;
    options = record { strict_mode = o.strict; recursive_lookup = o.recursive_lookup; guide_truth = o.guide_truth };
    limits = paper_limits 0;
  };
  st = record {
    kept = record { block = context_of s b ent (get_or l n blank); blocks_beneath = blocks_of s b ent l n; partial_block_stack = []; indent_string = none; disable_escape = false; out = page };
    seen = record {
      block_partials = partials_of s b ent (get_or l n blank).inline (get_or l n blank).count;
      current_template = none;
      marks = record { trailing_newline = false; content_produced = false; indent_before_write = false };
      room = record { page_room = 0; texts_room = 0 };
    };
  };
  t = h.top;
  setting = record {
    alike = record { strict = refl; scopes = refl; deep = ap suc (blocks_length s b ent l n) };
    plan = refl;
    recursive = refl;
    open_scopes = refl;
    stand = h.stand;
  };
}
