-- Helpers that are called for their value.
use Rattle.std.specs.Prelude.{Result, Ok, Err}
use Prim.Native.Nat.{ℕ, zero, suc, ◌<◌}
use native.Mathlib.Omega.{arith}
use mathlib.Core.Bool.{Bool, true, false}
use mathlib.Core.List.{List, [], ◌∷◌}
use mathlib.Core.Option.{Option, none, some}
use mathlib.Core.Path.{◌≡◌, refl, sym, ap, ◌∙◌, subst}
use lib.Dec.{ltb}
use lib.ListN.{length}
use borrow.Author.Tests.{ne_eqb}
use types.Run.{OneOf, miss}
use denote.Enum.Declared.{tag_of}
use Rattle.value.specs.contracts.Value.{the_type as value-type}
use Rattle.rules.specs.Bytes.{Bytes, pick, maybe}
use Rattle.rules.specs.Json.{Json, jnull, jstr}
use Rattle.rules.specs.Error as rule
use Rattle.rules.specs.Error.{RenderErrorReason, got, bad, missing-variable, helper-not-found, param-not-found-for-index, scopes-limit}
use Rattle.rules.specs.Template.{no_names}
use Rattle.rules.specs.Value.{ScopedJson, derived, as_json, is_truthy}
use Rattle.rules.specs.State.{RenderContext, ok, choose, fail, depth, push_block, pop_block, set_disable_escape, ◌after◌}
use Rattle.rules.specs.Registry as registry
use Rattle.rules.specs.Registry.{Registry, get_helper}
use Rattle.rules.specs.BlockUtil as block-util
use Rattle.rules.specs.BlockUtil.{in_block, render_inverse}
use Rattle.rules.specs.HelperEach.{each_helper}
use Rattle.rules.specs.HelperWith.{with_block, with_helper}
use Rattle.rules.specs.HelperIf.{truth, if_helper}
use Rattle.rules.specs.HelperLookup.{looked_up, lookup_inner}
use Rattle.rules.specs.Helpers.{call_helper}
use Rattle.rules.specs.Expand as rules
use Rattle.rules.specs.Expand.{text_of}
use Rattle.value.specs.declared.Value.{Value}
use Rattle.value.specs.declared.Value.TheVariants.{Missing, Null, False, True, Empty, Context, Place, Literal, Index, IndexText, Name, Text, SaidChar, PackedChar, Merged}
use Rattle.meaning.specs.Meaning.{json_of, scoped_of, context_place}
use Rattle.meaning.specs.MeaningLaws.{plain_is}
use Rattle.meaning.specs.Standing.{Stands, plain}
use Rattle.lookup.specs.Answers.{IsFound}
use Rattle.context.specs.contracts.Evaluated.{the_type as evaluated-type}
use Rattle.context.specs.declared.Evaluated.{Evaluated}
use Rattle.context.specs.declared.Evaluated.TheVariants as evaluated
use Rattle.context.specs.Evaluated.{Evaluates, evaluates_led, present}
use Rattle.expand.specs.declared.Options.{Options}
use Rattle.expand.specs.declared.HelperDef.{HelperDef}
use Rattle.expand.specs.declared.HelperDef.TheVariants.{Each, With, If, Unless, Lookup, Unknown}
use Rattle.expand.specs.declared.Expanded.{Expanded}
use Rattle.expand.specs.Answers.{Alike, Refuses, Expands, Begins, IsExpanded, helper_of, written, in_scope, unless_strict}
use Rattle.error.specs.declared.RenderErrorReason.TheVariants.{ParamNotFoundForIndex, ScopesLimit}
use Rattle.error.specs.declared.RenderErrorReason.{RenderErrorReason as Reason}
use Rattle.error.specs.Reasons.{refusal}

-- Values

pub as_json_of : (s b : Bytes) (ent : List ℕ) (v : Value) → as_json (scoped_of s b ent v) ≡ json_of s b ent v
as_json_of s b ent Missing = sym (plain_is s b ent Missing refl)
as_json_of s b ent Null = refl
as_json_of s b ent False = refl
as_json_of s b ent True = refl
as_json_of s b ent Empty = refl
as_json_of s b ent (Context i) = refl
as_json_of s b ent (Place i) = refl
as_json_of s b ent (Literal p) = refl
as_json_of s b ent (Index n) = refl
as_json_of s b ent (IndexText n) = refl
as_json_of s b ent (Name o) = refl
as_json_of s b ent (Text p) = refl
as_json_of s b ent (SaidChar o n) = refl
as_json_of s b ent (PackedChar p n) = refl
as_json_of s b ent (Merged h n) = refl

no_place : {C : Type 0} {i : ℕ} → some i ≡ none → C
no_place e = let z : ◌≡◌ {A = ℕ} 0 1 = cc in absurd (omega arith)

-- what is found is held without its path
pub present_is : (s b : Bytes) (ent : List ℕ) (v : Value) → context_place v ≡ none → derived (json_of s b ent v) ≡ scoped_of s b ent (present v)
present_is s b ent Missing e = ap derived (plain_is s b ent Missing refl ∙ sym (plain_is s b ent Null refl))
present_is s b ent Null e = refl
present_is s b ent False e = refl
present_is s b ent True e = refl
present_is s b ent Empty e = refl
present_is s b ent (Context i) e = no_place e
present_is s b ent (Place i) e = refl
present_is s b ent (Literal p) e = refl
present_is s b ent (Index n) e = refl
present_is s b ent (IndexText n) e = refl
present_is s b ent (Name o) e = refl
present_is s b ent (Text p) e = refl
present_is s b ent (SaidChar o n) e = refl
present_is s b ent (PackedChar p n) e = refl
present_is s b ent (Merged h n) e = refl

-- all but a missing one are as they are
pub present_same : (v : Value) → OneOf (1 ∷ 2 ∷ 3 ∷ 4 ∷ 5 ∷ 6 ∷ 7 ∷ 8 ∷ 9 ∷ 10 ∷ 11 ∷ 12 ∷ 13 ∷ 14 ∷ []) (tag_of value-type v) → v ≡ present v
present_same Missing k = absurd (miss (1 ∷ 2 ∷ 3 ∷ 4 ∷ 5 ∷ 6 ∷ 7 ∷ 8 ∷ 9 ∷ 10 ∷ 11 ∷ 12 ∷ 13 ∷ 14 ∷ []) 0 tt k)
present_same Null k = refl
present_same False k = refl
present_same True k = refl
present_same Empty k = refl
present_same (Context j) k = refl
present_same (Place j) k = refl
present_same (Literal p) k = refl
present_same (Index n) k = refl
present_same (IndexText n) k = refl
present_same (Name o) k = refl
present_same (Text p) k = refl
present_same (SaidChar o n) k = refl
present_same (PackedChar p n) k = refl
present_same (Merged h n) k = refl

pub refuse_is : {A : Type 0} (r : RenderErrorReason) (x : rule.Got A) → x ≡ bad r → Refuses x (refusal r)
refuse_is r x e = record { reason = r; is = e; by_reason = refl }

present_stands : (s b : Bytes) (ent : List ℕ) (t : ℕ) (v : Value) → Stands s b ent t v → Stands s b ent t (present v)
present_stands s b ent t Missing h = plain refl tt
present_stands s b ent t Null h = h
present_stands s b ent t False h = h
present_stands s b ent t True h = h
present_stands s b ent t Empty h = h
present_stands s b ent t (Context i) h = h
present_stands s b ent t (Place i) h = h
present_stands s b ent t (Literal p) h = h
present_stands s b ent t (Index n) h = h
present_stands s b ent t (IndexText n) h = h
present_stands s b ent t (Name o) h = h
present_stands s b ent t (Text p) h = h
present_stands s b ent t (SaidChar o n) h = h
present_stands s b ent t (PackedChar p n) h = h
present_stands s b ent t (Merged k n) h = h

-- a path that leads nowhere gives the missing value
pub nothing_given : (s b : Bytes) (ent : List ℕ) (t : ℕ) (x : rule.Got ScopedJson) (e : Evaluated) → OneOf (0 ∷ 1 ∷ []) (tag_of evaluated-type e) → OneOf (1 ∷ 2 ∷ []) (tag_of evaluated-type e)
    → Evaluates s b ent t x e → Expands s b ent t x (Ok Missing)
nothing_given s b ent t x (evaluated.Is v) k l h = absurd (miss (1 ∷ 2 ∷ []) 0 tt l)
nothing_given s b ent t x evaluated.Nothing k l h = evaluates_led s b ent t x evaluated.Nothing h refl
nothing_given s b ent t x evaluated.BadIndex k l h = absurd (miss (0 ∷ 1 ∷ []) 2 tt k)

-- What the rules give

abbrev nothing_written : rule.Got ScopedJson
nothing_written = got (derived (jstr []))

abbrev with_one : List ScopedJson → rule.Got ScopedJson → rule.Got ScopedJson
with_one [] x = bad param-not-found-for-index
with_one (v ∷ l) x = x

pub each_is : (g : Registry) (st : RenderContext) (e : block-util.Expanded) → rules.call_helper_for_value g st registry.HelperDef.each e ≡ with_one e.params nothing_written
unfolding call_helper each_helper
each_is g st e = go e.params
  where
    go : (l : List ScopedJson) → text_of (each_helper g l no_names none none (set_disable_escape true st)) ≡ with_one l nothing_written
    go [] = refl
    go (v ∷ l) = refl

if_given : (g : Registry) (positive : Bool) (l : List ScopedJson) (h : List (Bytes × ScopedJson)) (st : RenderContext) → text_of (if_helper g positive l h none none st) ≡ with_one l nothing_written
unfolding if_helper choose
if_given g positive [] h st = refl
if_given g true (v ∷ l) h st = go (truth g h (as_json v))
  where
    go : (c : Bool) → text_of (choose c (λ _. ok st []) (λ _. ok st [])) ≡ nothing_written
    go true = refl
    go false = refl
if_given g false (v ∷ l) h st = go (truth g h (as_json v))
  where
    go : (c : Bool) → text_of (choose c (λ _. ok st []) (λ _. ok st [])) ≡ nothing_written
    go true = refl
    go false = refl

pub if_is : (g : Registry) (st : RenderContext) (e : block-util.Expanded) → rules.call_helper_for_value g st registry.HelperDef.if e ≡ with_one e.params nothing_written
unfolding call_helper
if_is g st e = if_given g true e.params e.hash (set_disable_escape true st)

pub unless_is : (g : Registry) (st : RenderContext) (e : block-util.Expanded) → rules.call_helper_for_value g st registry.HelperDef.unless e ≡ with_one e.params nothing_written
unfolding call_helper
unless_is g st e = if_given g false e.params e.hash (set_disable_escape true st)

abbrev with_given : Registry → RenderContext → List ScopedJson → rule.Got ScopedJson
with_given g st [] = bad param-not-found-for-index
with_given g st (v ∷ l) =
    pick (is_truthy false (as_json v)) (pick (ltb (depth st) g.limits.scopes) nothing_written (bad scopes-limit)) (pick g.options.strict_mode (bad missing-variable) nothing_written)

with_told : (g : Registry) (l : List ScopedJson) (st : RenderContext) → text_of (with_helper g l no_names none none st) ≡ with_given g st l
unfolding with_helper in_block render_inverse ◌after◌ choose
with_told g [] st = refl
with_told g (v ∷ l) st = go (is_truthy false (as_json v)) (ltb (depth st) g.limits.scopes) g.options.strict_mode
  where
    go : (c d e : Bool)
        → text_of (choose c (λ _. choose d (λ _. pop_block after ok (push_block (with_block st no_names v) st) []) (λ _. fail scopes-limit)) (λ _. choose e (λ _. fail missing-variable) (λ _. ok st [])))
        ≡ pick c (pick d nothing_written (bad scopes-limit)) (pick e (bad missing-variable) nothing_written)
    go true true e = refl
    go true false e = refl
    go false d true = refl
    go false d false = refl

pub with_is : (g : Registry) (st : RenderContext) (e : block-util.Expanded) → rules.call_helper_for_value g st registry.HelperDef.with e ≡ with_given g st e.params
unfolding call_helper
with_is g st e = with_told g e.params (set_disable_escape true st) ∙ go e.params
  where
    go : (l : List ScopedJson) → with_given g (set_disable_escape true st) l ≡ with_given g st l
    go [] = refl
    go (v ∷ l) = refl

-- Against the code

refuse : {A : Type 0} (r : RenderErrorReason) → Refuses {A = A} (bad r) (refusal r)
refuse r = record { reason = r; is = refl; by_reason = refl }

-- a test of the number of parameters
none_counted : (l : List ScopedJson) (n : ℕ) → n ≡ length l → n ≡ 0 → l ≡ []
none_counted [] n e z = refl
none_counted (v ∷ l) n e z = absurd (omega arith)

module _ (s b : Bytes) (ent : List ℕ) (t : ℕ) where
  empty_given : Expands s b ent t nothing_written (Ok Empty)
  empty_given = (ap (λ (j : Json). got (derived j)) (sym (plain_is s b ent Empty refl)), plain refl tt)

  null_given : Expands s b ent t (got (derived jnull)) (Ok Null)
  null_given = (ap (λ (j : Json). got (derived j)) (sym (plain_is s b ent Null refl)), plain refl tt)

  strict_given : (c : Bool) (v : Value) (x : rule.Got ScopedJson) → Expands s b ent t x (Ok v) → Expands s b ent t (pick c (bad missing-variable) x) (unless_strict c v)
  strict_given true v x h = refuse missing-variable
  strict_given false v x h = h

  written_counted : (l : List ScopedJson) (n : ℕ) → n ≡ length l → Expands s b ent t (with_one l nothing_written) (written n)
  written_counted l zero e = subst (λ (k : List ScopedJson). Expands s b ent t (with_one k nothing_written) (Err ParamNotFoundForIndex)) (sym (none_counted l 0 e refl)) (refuse param-not-found-for-index)
  written_counted [] (suc n) e = absurd (omega arith)
  written_counted (v ∷ l) (suc n) e =
      subst (λ (c : Bool). Expands s b ent t nothing_written (pick c (Err ParamNotFoundForIndex) (Ok Empty))) (sym (ne_eqb (suc n) 0 (λ q. absurd (omega (arith, q))))) empty_given

  module _ (used : ℕ) (o : Options) (w : Expanded) (g : Registry) (st : RenderContext) (e : block-util.Expanded) (A : Alike used o g st) (E : IsExpanded s b ent t w e) where
    pub written_given : (x : rule.Got ScopedJson) (r : Result Value Reason) → x ≡ with_one e.params nothing_written → r ≡ written w.count → Expands s b ent t x r
    written_given x r q p =
        subst (Expands s b ent t x) (sym p) (subst (λ (y : rule.Got ScopedJson). Expands s b ent t y (written w.count)) (sym q) (written_counted e.params w.count E.params.count))

    pub with_none : w.count ≡ 0 → Expands s b ent t (rules.call_helper_for_value g st registry.HelperDef.with e) (Err ParamNotFoundForIndex)
    with_none z =
        subst (λ (y : rule.Got ScopedJson). Expands s b ent t y (Err ParamNotFoundForIndex)) (sym (with_is g st e ∙ ap (with_given g st) (none_counted e.params w.count E.params.count z))) (refuse param-not-found-for-index)

    abbrev with_outcome : Bool → rule.Got ScopedJson
    with_outcome c = pick c (pick (ltb used 32) nothing_written (bad scopes-limit)) (pick o.strict (bad missing-variable) nothing_written)

    with_some : (w.count ≡ 0 → ⊥) → rules.call_helper_for_value g st registry.HelperDef.with e ≡ with_outcome (is_truthy false (json_of s b ent w.first))
    with_some z = with_is g st e ∙ go e.params E.params.count E.params.begins
      where
        one : (v : ScopedJson) (l : List ScopedJson) → v ≡ scoped_of s b ent w.first → with_given g st (v ∷ l) ≡ with_outcome (is_truthy false (json_of s b ent w.first))
        one v l q = rw (ap as_json q ∙ as_json_of s b ent w.first, A.deep, A.scopes, A.strict)

        go : (l : List ScopedJson) → w.count ≡ length l → Begins s b ent l w.first w.second → with_given g st l ≡ with_outcome (is_truthy false (json_of s b ent w.first))
        go [] n h = absurd (z n)
        go (v ∷ []) n h = one v [] h
        go (v ∷ u ∷ l) n h = one v (u ∷ l) h.0

    with_so : (z : w.count ≡ 0 → ⊥) (c : Bool) → c ≡ is_truthy false (json_of s b ent w.first) → (r : Result Value Reason) → Expands s b ent t (with_outcome c) r
        → Expands s b ent t (rules.call_helper_for_value g st registry.HelperDef.with e) r
    with_so z c q r h = subst (λ (y : rule.Got ScopedJson). Expands s b ent t y r) (sym (with_some z ∙ ap with_outcome (sym q))) h

    pub with_false : (w.count ≡ 0 → ⊥) → false ≡ is_truthy false (json_of s b ent w.first) → (r : Result Value Reason) → r ≡ unless_strict o.strict Empty
        → Expands s b ent t (rules.call_helper_for_value g st registry.HelperDef.with e) r
    with_false z q r p = with_so z false q r (subst (Expands s b ent t _) (sym p) (strict_given o.strict Empty nothing_written empty_given))

    pub with_true : (w.count ≡ 0 → ⊥) → true ≡ is_truthy false (json_of s b ent w.first) → (r : Result Value Reason) → r ≡ in_scope used
        → Expands s b ent t (rules.call_helper_for_value g st registry.HelperDef.with e) r
    with_true z q r p = with_so z true q r (subst (Expands s b ent t _) (sym p) (go (ltb used 32)))
      where
        go : (c : Bool) → Expands s b ent t (pick c nothing_written (bad scopes-limit)) (pick c (Ok Empty) (Err ScopesLimit))
        go true = empty_given
        go false = refuse scopes-limit

    pub lookup_few : w.count < 2 → Expands s b ent t (lookup_inner g e.params) (Err ParamNotFoundForIndex)
    lookup_few lt = go e.params E.params.count
      where
        go : (l : List ScopedJson) → w.count ≡ length l → Expands s b ent t (lookup_inner g l) (Err ParamNotFoundForIndex)
        go [] n = refuse param-not-found-for-index
        go (v ∷ []) n = refuse param-not-found-for-index
        go (v ∷ u ∷ l) n = absurd (omega arith)

    abbrev lookup_outcome : Option Json → rule.Got ScopedJson
    lookup_outcome x = maybe x (pick o.strict (bad missing-variable) (got (derived jnull))) (λ j. got (derived j))

    lookup_two : (w.count < 2 → ⊥) → lookup_inner g e.params ≡ lookup_outcome (looked_up (json_of s b ent w.first) (json_of s b ent w.second))
    lookup_two ge = go e.params E.params.count E.params.begins
      where
        go : (l : List ScopedJson) → w.count ≡ length l → Begins s b ent l w.first w.second
            → lookup_inner g l ≡ lookup_outcome (looked_up (json_of s b ent w.first) (json_of s b ent w.second))
        go [] n h = absurd (ge (omega arith))
        go (v ∷ []) n h = absurd (ge (omega arith))
        go (v ∷ u ∷ l) n h =
            rw (ap as_json h.0 ∙ as_json_of s b ent w.first, ap as_json h.1 ∙ as_json_of s b ent w.second, A.strict)

    lookup_so : (ge : w.count < 2 → ⊥) (x : Option Json) → looked_up (json_of s b ent w.first) (json_of s b ent w.second) ≡ x → (r : Result Value Reason) → Expands s b ent t (lookup_outcome x) r
        → Expands s b ent t (lookup_inner g e.params) r
    lookup_so ge x q r h = subst (λ (y : rule.Got ScopedJson). Expands s b ent t y r) (sym (lookup_two ge ∙ ap lookup_outcome q)) h

    pub lookup_found : (w.count < 2 → ⊥) → (x : Value) → IsFound s b ent w.first (looked_up (json_of s b ent w.first) (json_of s b ent w.second)) x
        → (y : Value) → y ≡ present x → Expands s b ent t (lookup_inner g e.params) (Ok y)
    lookup_found ge x f y q =
        lookup_so ge (some (json_of s b ent x)) f.value (Ok y)
        (subst (λ (z : Value). Expands s b ent t (got (derived (json_of s b ent x))) (Ok z)) (sym q)
        (ap got (present_is s b ent x f.no_path), present_stands s b ent t x (f.stands t E.params.first)))

    pub lookup_nothing : (w.count < 2 → ⊥) → looked_up (json_of s b ent w.first) (json_of s b ent w.second) ≡ none → (r : Result Value Reason) → r ≡ unless_strict o.strict Null
        → Expands s b ent t (lookup_inner g e.params) r
    lookup_nothing ge q r p = lookup_so ge none q r (subst (Expands s b ent t _) (sym p) (strict_given o.strict Null (got (derived jnull)) null_given))

-- By the helper's name

abbrev pub helper_back : HelperDef → Option registry.HelperDef
helper_back Each = some registry.HelperDef.each
helper_back With = some registry.HelperDef.with
helper_back If = some registry.HelperDef.if
helper_back Unless = some registry.HelperDef.unless
helper_back Lookup = some registry.HelperDef.lookup
helper_back Unknown = none

back : (o : Option registry.HelperDef) → helper_back (helper_of o) ≡ o
back none = refl
back (some registry.HelperDef.each) = refl
back (some registry.HelperDef.with) = refl
back (some registry.HelperDef.if) = refl
back (some registry.HelperDef.unless) = refl
back (some registry.HelperDef.lookup) = refl

pub chosen : (g : Registry) (st : RenderContext) (e : block-util.Expanded) (n : Bytes) (h k : HelperDef) → e.name ≡ n → h ≡ helper_of (get_helper n) → h ≡ k
    → rules.called g st e ≡ maybe (helper_back k) (bad helper-not-found) (λ d. rules.call_helper_for_value g st d e)
chosen g st e n h k p q r =
    ap (λ (x : Option registry.HelperDef). maybe x (bad helper-not-found) (λ d. rules.call_helper_for_value g st d e))
    (ap get_helper p ∙ sym (back (get_helper n)) ∙ ap helper_back (sym q ∙ r))
