-- What a call with few parameters works out, and what its helper does: s is the plan, b the bundle, ent the entries of open partials, l the open scopes.
use Rattle.std.specs.Prelude.{None, Result, Ok, Err, Some}
use Prim.Native.Nat.{ℕ, ◌+◌, ◌-◌, ◌<◌}
use mathlib.Core.Bool.{Bool, false}
use mathlib.Core.List.{List}
use mathlib.Core.Path.{◌≡◌, refl, sym, ap, ◌∙◌, subst}
use Rattle.rules.specs.Bytes.{Bytes}
use Rattle.rules.specs.Json.{Json}
use Rattle.rules.specs.Bits.{bits}
use Rattle.rules.specs.Error as rule
use Rattle.rules.specs.Error.{got, invalid-json-index}
use Rattle.rules.specs.Template as template
use Rattle.rules.specs.Bundle.{literal}
use Rattle.rules.specs.Value.{ScopedJson, derived, render}
use Rattle.rules.specs.State as rules
use Rattle.rules.specs.Registry.{Registry, get_helper}
use Rattle.rules.specs.BlockUtil as block-util
use Rattle.rules.specs.Expand.{evaluate2, try_from_template}
use Rattle.layout.specs.Text.{text_at}
use Rattle.parts.specs.Holds.{Holds}
use Rattle.parts.specs.Says.{path_at}
use Rattle.value.specs.declared.Value.{Value}
use Rattle.value.specs.declared.Value.TheVariants.{Missing, Null, False, True, Empty, Context, Place, Literal, Index, IndexText, Name, Text, SaidChar, PackedChar, Merged}
use Rattle.value.specs.Numbers.{decoded}
use Rattle.meaning.specs.Meaning.{json_of}
use Rattle.meaning.specs.MeaningLaws.{plain_is}
use Rattle.meaning.specs.Standing.{plain}
use Rattle.scope.specs.declared.Scope.{Scope}
use Rattle.lookup.specs.Answers.{Held}
use Rattle.context.specs.Near.{NearScopes}
use Rattle.context.specs.Evaluated.{Evaluates, evaluated_of, some_evaluated, found_of}
use Rattle.expand.specs.declared.Options.{Options}
use Rattle.expand.specs.declared.Expanded.{Expanded}
use Rattle.expand.specs.declared.HelperDef.{HelperDef}
use Rattle.expand.specs.Answers.{Setting, Expands, IsExpanded, IsTemplate, helper_of, joined, gathered, with_one}
use Rattle.expand.proofs.Calling.{refuse_is}
use Rattle.expand.proofs.Parts.{no_params_given, joined_given, no_hash_given, gathered_given, string_given, one_given, some_setting}
use Rattle.helpers.specs.declared.Does.{Does}
use Rattle.helpers.specs.declared.Does.TheVariants as does
use Rattle.helpers.specs.Does.{Decides}
use Rattle.state.specs.Context.{RenderContext}
use Rattle.inlining.specs.Decorated.{is_at}
use Rattle.helping.specs.declared.Few.TheVariants.{One, Two}
use Rattle.helping.specs.Few.{FewIs}
use Rattle.helping.specs.Decided.{Leads, CallWorked, DecidedBy}
use Rattle.helping.specs.Laws.{decided_refused, decided_fine}
use Rattle.error.specs.declared.RenderErrorReason.TheVariants.{InvalidJsonIndex}
use Rattle.error.specs.declared.RenderErrorReason.{RenderErrorReason as Reason}
use Rattle.error.specs.Reasons.{refusal}

-- what is found: a value, or nothing
found_expands : (s b : Bytes) (ent : List ℕ) (t : ℕ) (x : rule.Got ScopedJson) (v : Value) → Evaluates s b ent t x (found_of v) → Expands s b ent t x (Ok v)
found_expands s b ent t x Missing e = (e, plain refl tt)
found_expands s b ent t x Null e = (e.0, e.1)
found_expands s b ent t x False e = (e.0, e.1)
found_expands s b ent t x True e = (e.0, e.1)
found_expands s b ent t x Empty e = (e.0, e.1)
found_expands s b ent t x (Context i) e = (e.0, e.1)
found_expands s b ent t x (Place i) e = (e.0, e.1)
found_expands s b ent t x (Literal p) e = (e.0, e.1)
found_expands s b ent t x (Index n) e = (e.0, e.1)
found_expands s b ent t x (IndexText n) e = (e.0, e.1)
found_expands s b ent t x (Name o) e = (e.0, e.1)
found_expands s b ent t x (Text p) e = (e.0, e.1)
found_expands s b ent t x (SaidChar o n) e = (e.0, e.1)
found_expands s b ent t x (PackedChar p n) e = (e.0, e.1)
found_expands s b ent t x (Merged h n) e = (e.0, e.1)

-- the string at q as the name, and a value or a refusal and the literal at k
abbrev pub with_two : ℕ → Result Value Reason → ℕ → Expanded
with_two q r k = gathered (Ok (Text q)) 2 (joined r (joined (Ok (Literal k)) (record { first = Missing; second = Missing; bad = None }))) (record { zero = false; bad = None })

module _ (s b : Bytes) (ent : List ℕ) (l : List Scope) (used : ℕ) (o : Options) where
  -- the path at v gives y
  abbrev pub Gets : ℕ → Result Value Reason → Type 0
  Gets v y = (g : Registry) (st : rules.RenderContext) (t : ℕ) → Setting s b ent l used o g st t → Expands s b ent t (evaluate2 g st (path_at (bits b) v)) y

  pub gets_bad : (v n : ℕ) → n ≡ 0 → Leads s b ent l used o v (evaluated_of n) → Gets v (Err InvalidJsonIndex)
  gets_bad v n z h g st t S = refuse_is invalid-json-index _ (subst (Evaluates s b ent t _) (ap evaluated_of z) (h g st t S))

  pub gets_value : (v n : ℕ) → (n ≡ 0 → ⊥) → (w : Value) → w ≡ decoded (n - 1) → Leads s b ent l used o v (evaluated_of n) → Gets v (Ok w)
  gets_value v n z w e h g st t S = found_expands s b ent t _ w (subst (Evaluates s b ent t _) (some_evaluated n z ∙ ap found_of (sym e)) (h g st t S))

  -- its value stands, and so does a literal
  module _ (lt : 0 < used) (h : NearScopes s b ent l used) where
    pub value_held : (v : ℕ) (w : Value) → Gets v (Ok w) → Held s b ent w
    value_held v w f =
        let z = some_setting s b ent l used o lt h in
        record { used = z.t; room = z.setting.stand.entries; stands = (f z.g z.st z.t z.setting).1 }

    pub literal_held : (k : ℕ) → Holds literal (bits b) k → Held s b ent (Literal k)
    literal_held k H = record { used = h.top; room = h.stand.entries; stands = plain refl H }

  module _ (d p : ℕ) where
    pub worked_one : (v : ℕ) → FewIs d (bits b) p (One v) → (y : Result Value Reason) → Gets v y → CallWorked s b ent l used o d p (with_one (p + 2) y)
    worked_one v F y h g st t S =
        subst (λ (z : template.Call). IsTemplate s b ent t (try_from_template g st z) (with_one (p + 2) y)) (sym F.0) (one_given s b ent t (p + 2) F.1 g st v y (h g st t S))

    pub worked_two : (v k : ℕ) → FewIs d (bits b) p (Two v k) → (y : Result Value Reason) → Gets v y → CallWorked s b ent l used o d p (with_two (p + 2) y k)
    worked_two v k F y h g st t S =
        subst (λ (z : template.Call). IsTemplate s b ent t (try_from_template g st z) (with_two (p + 2) y k)) (sym F.0)
        (gathered_given s b ent t _ _ _ (Ok (Text (p + 2))) 2 _ _ (string_given s b ent t (p + 2) F.1 g st _ refl)
        (joined_given s b ent t _ _ y _ 1 (h g st t S)
        (joined_given s b ent t _ _ (Ok (Literal k)) _ 0 (ap (λ (j : Json). got (derived j)) (sym (plain_is s b ent (Literal k) refl)), plain refl F.3) (no_params_given s b ent t)))
        (no_hash_given s b ent t))

    in_setting : (c : RenderContext) → c.scopes ≡ l → c.used ≡ used → (g : Registry) (st : rules.RenderContext) (t : ℕ) → Setting s b ent c.scopes c.used o g st t → Setting s b ent l used o g st t
    in_setting c el eu g st t S = subst (λ (n : ℕ). Setting s b ent l n o g st t) eu (subst (λ (k : List Scope). Setting s b ent k c.used o g st t) el S)

    module _ (ht hi : Bool) (x : Expanded) (worked : CallWorked s b ent l used o d p x) where
      pub by_refused : (n : Reason) → x.bad ≡ Some n → DecidedBy s b ent l used o d p ht hi (does.Bad n)
      by_refused n q c tm im el eu et ei = decided_refused s b ent o c d p tm im x (λ g st t S. worked g st t (in_setting c el eu g st t S)) n q

      pub by_fine : x.bad ≡ None → (h : HelperDef) (a : Does) → ((t : ℕ) (e : block-util.Expanded) → IsExpanded s b ent t x e → h ≡ helper_of (get_helper e.name))
          → Decides s b ent used o h x ht hi a → DecidedBy s b ent l used o d p ht hi a
      by_fine z h a named decides c tm im el eu et ei =
          decided_fine s b ent o c d p tm im x (λ g st t S. worked g st t (in_setting c el eu g st t S)) z h a named
          (subst (λ (n : ℕ). Decides s b ent n o h x (is_at tm) (is_at im) a) (sym eu)
          (subst (λ (y : Bool). Decides s b ent used o h x y (is_at im) a) et (subst (λ (y : Bool). Decides s b ent used o h x ht y a) ei decides)))

      -- its name is the string at q
      pub by_text : (q : ℕ) → x.name ≡ Text q → x.bad ≡ None → (h : HelperDef) (a : Does) → h ≡ helper_of (get_helper (text_at (bits b) q)) → Decides s b ent used o h x ht hi a
          → DecidedBy s b ent l used o d p ht hi a
      by_text q n z h a k decides =
          by_fine z h a
          (λ t e i. k ∙ ap (λ (m : Bytes). helper_of (get_helper m)) (sym (i.name ∙ ap (λ (v : Value). render (json_of s b ent v)) n ∙ ap render (plain_is s b ent (Text q) refl))))
          decides
