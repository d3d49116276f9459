-- The loop of `each` by the code's context a and its array: x is the scope of the turn before, which knows of the inline partials up to its start.
use Rattle.std.specs.Prelude.{ℕ, ◌+◌, ◌-◌, ◌≤◌, Bool, List, ◌≡◌, eqb, length, set, None, Option as RustOption, Some}
use Rattle.std.proofs.Common.{sym, ap, ◌∙◌, subst, arith}
use Rattle.rules.specs.Bytes.{Bytes}
use Rattle.rules.specs.Bits.{bits}
use Rattle.rules.specs.Bundle.{block_names}
use Rattle.rules.specs.Plan.{answer}
use Rattle.parts.specs.Holds.{Holds}
use Rattle.parts.specs.Views.{names_view}
use Rattle.value.specs.declared.Value.{Value}
use Rattle.value.specs.Numbers.{encoded}
use Rattle.meaning.specs.Standing.{Stands}
use Rattle.scope.specs.declared.Scope.{Scope}
use Rattle.scope.specs.Made as made
use Rattle.scope.specs.NameBits.{Covers}
use Rattle.turns.specs.Turning.{TurnAt, TurnBefore}
use Rattle.turns.specs.declared.Turn.{Turn as Told}
use Rattle.expand.specs.declared.Options.{Options}
use Rattle.state.specs.declared.RenderContext as code
use Rattle.state.specs.Context.{RenderContext, whole, topped}
use Rattle.state.specs.Setters as set
use Rattle.state.specs.World.{World, world, over, front, top, Ready}
use Rattle.blocks.specs.Opened.{each_scope}
use Rattle.drawing.specs.Renders.{Renders, Openable, body_rule}
use Rattle.drawing.specs.Arrays.{topped_newest, topped_turned, pushed_topped, refused_any}
use Rattle.drawing.specs.EachLoop.{EachGoing, each_rule, each_begun, each_turn_ready, each_stopped, each_before, each_again}

module _ (s b : Bytes) (o : Options) (w : World) (d at p : ℕ) (v : Value) (r : Ready s b w) (q : Openable s b w v) (ok : answer s ≡ 0) (small : length b ≤ 65536) (held : Holds block_names (bits b) at) (scopes : List Scope) (sized : length scopes ≡ 32) where
  abbrev Going : World → ℕ → RustOption Told → Type 0
  Going = EachGoing s b o w d at p v r q ok small held

  -- the scope is opened, and the array beside the context is still that of w
  pub array_begun : (a a' : code.RenderContext) (first : Scope) (m : ℕ) → w.rc ≡ whole a scopes → first ≡ each_scope v (names_view (bits b) at) (front w) → Covers m b w.ent first → whole a' (set scopes a.used first) ≡ set.pushed (whole a scopes) first m
      → (turn : RustOption Told) → TurnAt s b w.ent (top w) v 0 turn → Going (over (topped a' scopes first) w) 0 turn
  array_begun a a' first m same is covers e turn u =
      let f : topped a' scopes first ≡ set.pushed w.rc (each_scope v (names_view (bits b) at) (front w)) m =
      pushed_topped a' a scopes first m e ∙ ap (λ (c : RenderContext). set.pushed c first m) (sym same) ∙ ap (λ (c : Scope). set.pushed w.rc c m) is in
      subst (λ (c : RenderContext). Going (over c w) 0 turn) (sym f)
      (each_begun s b o w d at p v r q ok small held m (subst (Covers m b w.ent) is covers) turn u)

  module _ (a : code.RenderContext) (x : Scope) (page texts indent : Bytes) (ent : List ℕ) (k : ℕ) where
    abbrev l : World
    l = world (topped a scopes x) page texts indent ent

    module _ (item key : Value) (object last : Bool) (E : Going l k (Some (record { item = item; key = key; object = object; last = last }))) (c : Scope)
        (is : c ≡ made.turned (made.with_count x a.count) (encoded item) (encoded key) k (eqb k 0) last object) where
      one : 1 ≤ a.used
      one = E.going.within.ready.one

      most : a.used ≤ 32
      most = E.going.within.ready.most

      c_is : c ≡ made.turned (front l) (encoded item) (encoded key) k (eqb k 0) last object
      c_is = is ∙ ap (λ (y : Scope). made.turned y (encoded item) (encoded key) k (eqb k 0) last object) (sym (topped_newest a scopes sized one most x))

      starts : topped a scopes c ≡ set.turned l.rc (made.turned (front l) (encoded item) (encoded key) k (eqb k 0) last object)
      starts = topped_turned a scopes sized one most x c (ap (λ (y : Scope). y.count) is) ∙ ap (set.turned l.rc) c_is

      -- what its body is drawn from
      abbrev l₁ : World
      l₁ = over (set.with_template (topped a scopes c) 0) l

      pub array_ready : Ready s b l₁
      array_ready = subst (λ (y : RenderContext). Ready s b (over (set.with_template y 0) l)) (sym starts) (each_turn_ready s b o w d at p v r q ok small held l k item key object last E)

      -- a₂ is left
      module _ (a₂ : code.RenderContext) (page₂ texts₂ indent₂ : Bytes) (ent₂ : List ℕ) where
        abbrev l₂ : World
        l₂ = world (whole a₂ (set scopes (a.used - 1) c)) page₂ texts₂ indent₂ ent₂

        module _ (D : Renders s b o l₁ l₂ (body_rule b d p 0)) where
          D' : Renders s b o (over (set.with_template (set.turned l.rc (made.turned (front l) (encoded item) (encoded key) k (eqb k 0) last object)) 0) l) l₂ (body_rule b d p 0)
          D' = subst (λ (y : RenderContext). Renders s b o (over (set.with_template y 0) l) l₂ (body_rule b d p 0)) starts D

          pub array_stopped : (a₂.bad ≡ None → ⊥) → Renders s b o w (world (whole a₂ scopes) page₂ texts₂ indent₂ ent₂) (each_rule s b w d at p v)
          array_stopped n =
              refused_any s b o w a₂ scopes (set scopes (a.used - 1) c) page₂ texts₂ indent₂ ent₂ (each_rule s b w d at p v) n
              (each_stopped s b o w d at p v r q ok small held l k item key object last E l₂ D' n)

          module _ (e : a₂.bad ≡ None) where
            used : a₂.used ≡ a.used
            used = ((D.at 32 (omega arith)).fine e).goes.used

            pub array_before : TurnBefore s b ent₂ v (k + 1) (Some (record { item = item; key = key; object = object; last = last }))
            array_before = each_before s b o w d at p v r q ok small held l k item key object last E l₂ D' e

            pub array_again : (turn' : RustOption Told) → ((t : ℕ) → Stands s b ent₂ t v → TurnAt s b ent₂ t v (k + 1) turn') → Going (world (topped a₂ scopes c) page₂ texts₂ indent₂ ent₂) (k + 1) turn'
            array_again turn' u =
                subst (λ (n : ℕ). Going (world (whole a₂ (set scopes (n - 1) c)) page₂ texts₂ indent₂ ent₂) (k + 1) turn') (sym used)
                (each_again s b o w d at p v r q ok small held l k item key object last E l₂ D' e turn' u)
