-- An element by its kind.
use Rattle.std.specs.Prelude.{ℕ, Bool, [], ◌≡◌, refl, Option as RustOption, Some, None}
use Rattle.std.proofs.Math.Option.{Option, none, some}
use Rattle.std.proofs.Common.{sym, ap, ◌∙◌}
use Rattle.std.proofs.Math.Path.{subst}
use Rattle.rules.specs.Bytes.{Bytes}
use Rattle.rules.specs.Bits.{bits}
use Rattle.rules.specs.State.{Draw, ok, set_disable_escape, ◌after◌}
use Rattle.rules.specs.Registry.{Registry}
use Rattle.rules.specs.Output.{indent_aware_write}
use Rattle.rules.specs.Partial.{Rendering}
use Rattle.rules.specs.Render.{render_body, render_element, render_html_expression, render_expression, render_helper, eval_decorator, render_partial_element}
use Rattle.layout.specs.Text.{text_at}
use Rattle.parts.specs.Says.{names_at, indent_says}
use Rattle.calls.specs.Calls.{call_at}
use Rattle.template.specs.declared.Element.{Element}
use Rattle.template.specs.declared.Element.TheVariants as kind
use Rattle.template.specs.Views.{template_at, body_says, element_says}
use Rattle.expand.specs.declared.Options.{Options}
use Rattle.state.specs.World.{World, abs, Ready, Draws}
use Rattle.state.specs.Laws.{draws_nothing}
use Rattle.drawing.specs.Renders.{Renders}
use Rattle.drawing.specs.Members.{renders_plain}

module _ (s b : Bytes) (o : Options) (w w' : World) (d : ℕ) (e : Element) where
  abbrev Drawn : Element → Type 0
  Drawn x = Renders s b o w w' (λ g R. render_element g R (element_says 16 d (bits b) x))

  pub element_raw : (p : ℕ) → e ≡ kind.RawString p → Draws s b w w' (indent_aware_write (text_at (bits b) p) (abs s b w)) → Drawn e
  unfolding render_element
  element_raw p q h = subst Drawn (sym q) (renders_plain s b o w w' (λ g R. render_element g R (element_says 16 d (bits b) (kind.RawString p))) (λ g R. h))

  pub element_html : (p : ℕ) (f : Bool) → e ≡ kind.HtmlExpression p f → Renders s b o w w' (λ g R. render_html_expression g (call_at d (bits b) p) f) → Drawn e
  unfolding render_element
  element_html p f q h = subst Drawn (sym q) (record { at = h.at })

  pub element_expression : (p : ℕ) (f : Bool) → e ≡ kind.Expression p f → Renders s b o w w' (λ g R. render_expression g (call_at d (bits b) p) f) → Drawn e
  unfolding render_element
  element_expression p f q h = subst Drawn (sym q) (record { at = h.at })

  pub element_helper : (p n : ℕ) (t i : RustOption ℕ) (f : Bool) → e ≡ kind.HelperBlock p n t i f
      → Renders s b o w w' (λ g R. render_helper g (call_at d (bits b) p) f (names_at (bits b) n) (render_body g R (body_says 16 d (bits b) t)) (render_body g R (body_says 16 d (bits b) i))) → Drawn e
  unfolding render_element
  element_helper p n t i f q h = subst Drawn (sym q) (record { at = h.at })

  pub element_decorator : (p : ℕ) (i : RustOption ℕ) (f : Bool) → e ≡ kind.DecoratorExpression p i f → Renders s b o w w' (λ g R. eval_decorator g (call_at d (bits b) p) none (indent_says (bits b) i)) → Drawn e
  unfolding render_element
  element_decorator p i f q h = subst Drawn (sym q) (record { at = h.at })

  pub element_decorated : (p t : ℕ) (i : RustOption ℕ) (f : Bool) → e ≡ kind.DecoratorBlock p t i f → Renders s b o w w' (λ g R. eval_decorator g (call_at d (bits b) p) (some (template_at 16 d (bits b) t)) (indent_says (bits b) i)) → Drawn e
  unfolding render_element
  element_decorated p t i f q h = subst Drawn (sym q) (record { at = h.at })

  pub element_partial : (p : ℕ) (i : RustOption ℕ) (f : Bool) → e ≡ kind.PartialExpression p i f
      → Renders s b o w w' (λ g R. render_partial_element g R (call_at d (bits b) p) (render_body g R (body_says 16 d (bits b) None)) (indent_says (bits b) i) f) → Drawn e
  unfolding render_element render_body
  element_partial p i f q h = subst Drawn (sym q) (record { at = h.at })

  pub element_partial_block : (p t : ℕ) (i : RustOption ℕ) (f : Bool) → e ≡ kind.PartialBlock p t i f
      → Renders s b o w w' (λ g R. render_partial_element g R (call_at d (bits b) p) (render_body g R (body_says 16 d (bits b) (Some t))) (indent_says (bits b) i) f) → Drawn e
  unfolding render_element render_body
  element_partial_block p t i f q h = subst Drawn (sym q) (record { at = h.at })

pub element_comment : (s b : Bytes) (o : Options) (w : World) (d : ℕ) (e : Element) (p : ℕ) → e ≡ kind.Comment p → Ready s b w → Renders s b o w w (λ g R. render_element g R (element_says 16 d (bits b) e))
unfolding render_element
element_comment s b o w d e p q r = subst (λ (x : Element). Renders s b o w w (λ g R. render_element g R (element_says 16 d (bits b) x))) (sym q) (record { at = λ f le. draws_nothing s b w r })
