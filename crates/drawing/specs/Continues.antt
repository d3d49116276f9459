-- The beginning of a block or a partial leaves a body to be drawn, and something to be done behind it: w is in front of the element, w₁ in front of the body.
use Rattle.std.specs.Prelude.{ℕ, ◌+◌, ◌≤◌, Bool, true, false, ◌≡◌, refl, eqb, None, Option as RustOption, Some}
use Rattle.std.specs.Option.{is_some}
use Rattle.error.specs.Reasons.{not_none}
use Rattle.std.proofs.Common.{ap, ◌∙◌, subst, eqb-true, eq-eqb, ne_eqb}
use Rattle.std.proofs.lemmas.Bool.{eqb-false}
use Rattle.rules.specs.Bytes.{Bytes, pick}
use Rattle.rules.specs.State.{Draw}
use Rattle.rules.specs.Registry.{Registry}
use Rattle.rules.specs.Partial.{Rendering}
use Rattle.expand.specs.declared.Options.{Options}
use Rattle.state.specs.Context.{RenderContext}
use Rattle.state.specs.Setters.{unless_bad}
use Rattle.state.specs.World.{World, over, Ready}
use Rattle.drawing.specs.Renders.{Renders}
use Rattle.error.specs.declared.RenderErrorReason.{RenderErrorReason as Reason}

-- Once `inner` is drawn from w₁ on, f finishes the drawing of the element by `rule`. At least k scopes were opened.
pub record Continues (s b : Bytes) (o : Options) (w w₁ : World) (k : ℕ) (inner rule : Registry → Rendering → Draw) (f : RenderContext → RenderContext) : Type 0 where
  pub ready : Ready s b w₁
  pub deeper : k + w.rc.used ≤ w₁.rc.used
  pub done : (w₂ : World) → Renders s b o w₁ w₂ inner → Renders s b o w (over (f w₂.rc) w₂) rule

-- what is done behind a drawing, unless it was refused
pub unless_refused : (P : World → Type 0) (f : RenderContext → RenderContext) (w : World) → (w.rc.bad ≡ None → P (over (f w.rc) w)) → ((w.rc.bad ≡ None → ⊥) → P w) → P (over (unless_bad f w.rc) w)
unless_refused P f w fine refused = go w.rc.bad refl
  where
    go : (o : RustOption Reason) → w.rc.bad ≡ o → P (over (pick (is_some o) w.rc (f w.rc)) w)
    go None e = fine e
    go (Some x) e = refused (not_none x e)

pub unless_fine : (f : RenderContext → RenderContext) (c : RenderContext) → c.bad ≡ None → unless_bad f c ≡ f c
unless_fine f c e = ap (λ (o : RustOption Reason). pick (is_some o) c (f c)) e

pub unless_not : (f : RenderContext → RenderContext) (c : RenderContext) → (c.bad ≡ None → ⊥) → unless_bad f c ≡ c
unless_not f c n = go c.bad refl
  where
    go : (o : RustOption Reason) → c.bad ≡ o → pick (is_some o) c (f c) ≡ c
    go None e = absurd (n e)
    go (Some x) e = refl

-- one after the other
pub unless_both : (f g : RenderContext → RenderContext) → ((c : RenderContext) → (g c).bad ≡ c.bad) → (c : RenderContext) → unless_bad f (unless_bad g c) ≡ unless_bad (λ x. f (g x)) c
unless_both f g same c = go c.bad refl
  where
    go : (o : RustOption Reason) → c.bad ≡ o → unless_bad f (pick (is_some o) c (g c)) ≡ pick (is_some o) c (f (g c))
    go None e = unless_fine f (g c) (same c ∙ e)
    go (Some x) e = unless_not f c (not_none x e)

-- a body that was refused leaves nothing to be done
pub continues_refused : (s b : Bytes) (o : Options) (w w₁ w₂ : World) (k : ℕ) (inner rule : Registry → Rendering → Draw) (f : RenderContext → RenderContext) → Continues s b o w w₁ k inner rule (unless_bad f) → (w₂.rc.bad ≡ None → ⊥) → Renders s b o w₁ w₂ inner → Renders s b o w w₂ rule
continues_refused s b o w w₁ w₂ k inner rule f C n d = subst (λ (c : RenderContext). Renders s b o w (over c w₂) rule) (unless_not f w₂.rc n) (C.done w₂ d)
