-- The newest scope, as it is handed beside the array.
use Prim.Native.Nat.{ℕ, ◌+◌, ◌-◌, ◌≤◌}
use mathlib.Core.Bool.{Bool}
use mathlib.Core.List.{List}
use mathlib.Core.Path.{◌≡◌, sym, ap, ◌∙◌, subst}
use lib.ListN.{length, set}
use Rattle.rules.specs.Bytes.{Bytes}
use Rattle.rules.specs.Template.{Call}
use Rattle.rules.specs.Registry.{Registry}
use Rattle.rules.specs.State as rules
use Rattle.rules.specs.Expand.{try_from_template}
use Rattle.scope.specs.declared.Scope.{Scope}
use Rattle.scope.specs.Made.{with_count}
use Rattle.expand.specs.declared.Options.{Options}
use Rattle.expand.specs.declared.Expanded.{Expanded}
use Rattle.expand.specs.Answers.{Setting, IsTemplate}
use Rattle.decorators.specs.declared.Inlined.{Inlined}
use Rattle.decorators.specs.Inlined.{newest, Inlines}
use Rattle.state.specs.declared.RenderContext as code
use Rattle.state.specs.Context.{gained, whole, Front}
use Rattle.state.specs.Current.{gained_current}

module _ (l : List Scope) (rc : code.RenderContext) (f : Scope) (sized : length l ≡ 32) (most : rc.used ≤ 32) (h : Front l rc f) where
  -- the array says the scopes as they are
  pub scopes_same : (whole rc l).scopes ≡ l
  scopes_same = gained_current l rc.used rc.count sized most (ap (λ (c : Scope). c.count) (sym h.is) ∙ h.current)

  pub front_same : newest (whole rc l).scopes rc.used ≡ f
  front_same = ap (λ (k : List Scope). newest k rc.used) scopes_same ∙ sym h.is

  -- one inline partial more, as the context counts it
  pub gained_one : gained l rc.used (f.count + 1)
      ≡ set (whole rc l).scopes (rc.used - 1) (with_count (newest (whole rc l).scopes rc.used) ((newest (whole rc l).scopes rc.used).count + 1))
  gained_one =
      ap (λ (c : Scope). gained l rc.used (c.count + 1)) h.is
      ∙ ap (λ (k : List Scope). set k (rc.used - 1) (with_count (newest k rc.used) ((newest k rc.used).count + 1))) (sym scopes_same)

  -- what was worked out over the array
  pub worked_so : (s b : Bytes) (ent : List ℕ) (o : Options) (C : Call) (x : Expanded)
      → ((g : Registry) (st : rules.RenderContext) (t : ℕ) → Setting s b ent l rc.used o g st t → IsTemplate s b ent t (try_from_template g st C) x)
      → (g : Registry) (st : rules.RenderContext) (t : ℕ) → Setting s b ent (whole rc l).scopes rc.used o g st t → IsTemplate s b ent t (try_from_template g st C) x
  worked_so s b ent o C x E g st t S = E g st t (subst (λ (k : List Scope). Setting s b ent k rc.used o g st t) scopes_same S)

  -- and what `inline` answers to the newest scope
  pub inlines_so : (s b : Bytes) (ent : List ℕ) (x : Expanded) (y : Inlined) (h₁ h₂ : Bool) → h₁ ≡ h₂ → Inlines s b ent f rc.total x h₁ y
      → Inlines s b ent (newest (whole rc l).scopes rc.used) rc.total x h₂ y
  inlines_so s b ent x y h₁ h₂ e Y =
      subst (λ (k : Bool). Inlines s b ent (newest (whole rc l).scopes rc.used) rc.total x k y) e
      (subst (λ (c : Scope). Inlines s b ent c rc.total x h₁ y) (sym front_same) Y)
