-- An example for Demand's `BodyBegun`: `if true` begins its body, in the state with the writing marks set as `render_helper` sets them.
use Rattle.std.specs.Prelude.{ℕ, Bool, true, false, ◌||◌, [], ◌≡◌, refl}
use Rattle.std.proofs.Common.{sym, ◌∙◌, arith}
use Rattle.rules.specs.Bytes.{ascii, pick}
use Rattle.rules.specs.Template.{boolean, name, literal, call, pnil, pcons, hnil, no_names, Template, no_body, body, TemplateElement, helper_block}
use Rattle.rules.specs.Error.{missing-variable}
use Rattle.rules.specs.State.{RenderContext, set_content_produced, set_indent_before_write, ok, Draw, fail, choose, either, or_fail, ◌after◌}
use Rattle.rules.specs.Registry.{Registry}
use Rattle.rules.specs.HelperIf.{if_helper}
use Rattle.rules.specs.Helpers.{call_helper}
use Rattle.rules.specs.Partial.{Rendering}
use Rattle.rules.specs.Render.{settle, indent_aware, call_indent_aware, render_helper}
use Rattle.rules.proofs.Keeps.{stays}
use Rattle.siblings.specs.Siblings.{render_element_with, BodyBegun}

abbrev if_true : Template → TemplateElement
if_true t = helper_block (call (name (ascii "if")) (pcons (literal (boolean true)) pnil) hnil) no_names (body t) no_body false

abbrev marked : RenderContext → RenderContext
marked s = set_indent_before_write (s.seen.marks.indent_before_write || false) (set_content_produced false s)

pick_same : (b : Bool) → pick b true true ≡ true
pick_same true = refl
pick_same false = refl

drawn : (g : Registry) (E : Template → Draw) (R : Rendering) (t : Template) (s : RenderContext)
    → render_element_with g E R (if_true t) s ≡ (settle s.seen.marks.indent_before_write s.seen.marks.content_produced after E t (marked s))
unfolding render_helper call_indent_aware indent_aware call_helper if_helper or_fail either choose
drawn g E R t s = rw (pick_same g.options.guide_truth)

differs : (f : RenderContext → RenderContext) (u : RenderContext) (b : Bool) → b ≡ true → (f after ok u []) ≡ (f after choose b (λ _. fail missing-variable) (λ _. ok u [])) → ⊥
unfolding ◌after◌ choose
differs f u true h q = let z : ◌≡◌ {A = ℕ} 0 1 = cc in omega arith
differs f u false h q = let z : ◌≡◌ {A = ℕ} 0 1 = cc in omega arith

same_elsewhere : (b : Bool) (v : RenderContext) → b ≡ false → ok v [] ≡ choose b (λ _. fail missing-variable) (λ _. ok v [])
unfolding choose
same_elsewhere true v h = cc
same_elsewhere false v h = refl

pub if_begins : (g : Registry) (t : Template) (s : RenderContext) → BodyBegun g (if_true t) s (marked s)
if_begins g t s P h =
    record {
      E = λ t v. ok v [];
      E' = λ t v. choose (P v) (λ _. fail missing-variable) (λ _. ok v []);
      R = λ n t v. ok v [];
      R' = λ n t v. ok v [];
      keeps = λ t v q. stays refl;
      elsewhere = λ t v q. same_elsewhere (P v) v q;
      elsewhere_found = λ n t v q. refl;
      differ = λ q.
          differs _ (marked s) (P (marked s)) h (sym (drawn g (λ t v. ok v []) (λ n t v. ok v []) t s) ∙ q ∙ drawn g (λ t v. choose (P v) (λ _. fail missing-variable) (λ _. ok v [])) (λ n t v. ok v []) t s);
    }
