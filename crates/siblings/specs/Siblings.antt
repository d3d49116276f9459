-- Demand 3, the part about the rules: what siblings leave each other, in every body that a call draws.
use Rattle.std.specs.Prelude.{ℕ, Bool, true, false, [], ◌++◌, ◌≡◌, length}
use Rattle.std.proofs.Math.Option.{Option, none, some}
use Rattle.rules.specs.Bytes.{Bytes}
use Rattle.rules.specs.Template.{TemplateMapping, Template, tnil, tcons, Body, no_body, body, TemplateElement, raw_string, html_expression, expression, helper_block, decorator_expression, decorator_block, partial_expression, partial_block, comment}
use Rattle.rules.specs.Error.{RenderError}
use Rattle.rules.specs.Partials.{find}
use Rattle.rules.specs.State.{RenderContext, depth, set_current_template_name, Res, ok, err, Draw, located}
use Rattle.rules.specs.Registry.{Registry}
use Rattle.rules.specs.Output.{indent_aware_write}
use Rattle.rules.specs.BlockUtil.{Drawable}
use Rattle.rules.specs.Partial.{Rendering}
use Rattle.rules.specs.Render.{render_helper, render_expression, render_html_expression, eval_decorator, render_partial_element, render_elements, render_element, render_template}
use Rattle.rules.specs.Call.{Answer, refusal, fresh}
use Rattle.rules.specs.Keeps.{Good}

-- The state with the text so far, and how a drawing ends

pub record Whole : Type 0 where
  pub state : RenderContext
  pub text : Bytes

pub data End : Type 0 where
  succeeds : Whole → End
  ends : RenderError → End

abbrev pub onto : Bytes → Res → End
onto w (ok s v) = succeeds (record { state = s; text = w ++ v })
onto w (err e) = ends e

-- A list of elements, and one element, of a body with the name n; k more partials may be drawn inside one another
abbrev pub list : Registry → ℕ → Option Bytes → Template → Whole → End
list g k n t x = onto x.text (render_elements g (render_template g k) n t x.state)

abbrev pub single : Registry → ℕ → Option Bytes → TemplateMapping → TemplateElement → Whole → End
single g k n p e x = onto x.text (located n p (render_element g (render_template g k) e x.state))

-- what follows an element that succeeds
abbrev pub chain : End → (Whole → End) → End
chain (succeeds x) f = f x
chain (ends e) f = ends e

-- What is as before
pub record AsBefore (x y : Whole) : Type 0 where
  pub scope_depth : depth y.state ≡ depth x.state
  pub partial_block_depth : length y.state.kept.partial_block_stack ≡ length x.state.kept.partial_block_stack
  pub indent : y.state.kept.indent_string ≡ x.state.kept.indent_string
  pub escaping : y.state.kept.disable_escape ≡ x.state.kept.disable_escape
  pub beneath : y.state.kept.blocks_beneath ≡ x.state.kept.blocks_beneath

-- What can be seen is alike
pub record Alike (x y : Whole) : Type 0 where
  pub inline_partials : (n : Bytes) → find n x.state.seen.block_partials ≡ find n y.state.seen.block_partials
  pub current_template : x.state.seen.current_template ≡ y.state.seen.current_template
  pub marks : x.state.seen.marks ≡ y.state.seen.marks
  pub room : x.state.seen.room ≡ y.state.seen.room

-- Two ends, of one list drawn from x and from y
abbrev pub EndTheSame : Whole → Whole → End → End → Type 0
EndTheSame x y (succeeds t) (succeeds u) = (w : Bytes) × (t.text ≡ x.text ++ w) × (u.text ≡ y.text ++ w) × Alike t u
EndTheSame x y (succeeds t) (ends e) = ⊥
EndTheSame x y (ends e) (succeeds u) = ⊥
EndTheSame x y (ends d) (ends e) = d ≡ e

pub record Siblings (g : Registry) (k : ℕ) (n : Option Bytes) (start : Whole) : Type 0 where
  -- an empty list succeeds; each element gets the state that the one before it left, and one that fails ends the list
  pub empty : (x : Whole) → list g k n tnil x ≡ succeeds x
  pub one_by_one : (p : TemplateMapping) (e : TemplateElement) (t : Template) (x : Whole) → list g k n (tcons p e t) x ≡ chain (single g k n p e x) (list g k n t)
  -- after each element that succeeds, of whatever list
  pub kept : (elder : Template) (x : Whole) → list g k n elder start ≡ succeeds x
      → (p : TemplateMapping) (e : TemplateElement) (y : Whole) → single g k n p e x ≡ succeeds y → AsBefore x y
  -- what follows two lists
  pub seen : (one other : Template) (x y : Whole) → list g k n one start ≡ succeeds x → list g k n other start ≡ succeeds y → Alike x y
      → (next : Template) → EndTheSame x y (list g k n next x) (list g k n next y)

-- The states that a call begins a body in

-- an element, with what draws bodies left open: E those that stand in it, R those that it finds
abbrev pub body_with : (Template → Draw) → Body → Drawable
body_with E no_body = none
body_with E (body t) = some (E t)

abbrev pub render_element_with : Registry → (Template → Draw) → Rendering → TemplateElement → Draw
render_element_with g E R (raw_string v) s = indent_aware_write v s
render_element_with g E R (html_expression c f) s = render_html_expression g c f s
render_element_with g E R (expression c f) s = render_expression g c f s
render_element_with g E R (helper_block c ns t i f) s = render_helper g c f ns (body_with E t) (body_with E i) s
render_element_with g E R (decorator_expression c i f) s = eval_decorator g c none i s
render_element_with g E R (decorator_block c t i f) s = eval_decorator g c (some t) i s
render_element_with g E R (partial_expression c i f) s = render_partial_element g R c none i f s
render_element_with g E R (partial_block c t i f) s = render_partial_element g R c (some (E t)) i f s
render_element_with g E R (comment v) s = ok s []

-- what bodies do in the states that pass P, and in no others, matters to an element drawn from s
pub record Matters (g : Registry) (e : TemplateElement) (s : RenderContext) (P : RenderContext → Bool) : Type 0 where
  pub E : Template → Draw
  pub E' : Template → Draw
  pub R : Rendering
  pub R' : Rendering
  -- like the rules, E keeps what they keep
  pub keeps : (t : Template) → Good false (E t)
  pub elsewhere : (t : Template) (v : RenderContext) → P v ≡ false → E t v ≡ E' t v
  pub elsewhere_found : (n : Option Bytes) (t : Template) (v : RenderContext) → P v ≡ false → R n t v ≡ R' n t v
  pub differ : ¬ (render_element_with g E R e s ≡ render_element_with g E' R' e s)

-- an element drawn from s begins a body in u: whichever test u passes, what bodies do in the states that pass it matters
abbrev pub BodyBegun : Registry → TemplateElement → RenderContext → RenderContext → Type 0
BodyBegun g e s u = (P : RenderContext → Bool) → P u ≡ true → Matters g e s P

-- from the call on: the template that it starts with; and a body that an element of a body begins, behind whatever elder siblings
pub data BodyState (g : Registry) : RenderContext → Type 0 where
  first : (n : Bytes) → BodyState g (set_current_template_name (some n) (fresh g.limits))
  inner : {s : RenderContext} → BodyState g s → (k : ℕ) (n : Option Bytes) (elder : Template) (w : Bytes) (x : Whole) → list g k n elder (record { state = s; text = w }) ≡ succeeds x
      → (e : TemplateElement) (u : RenderContext) → BodyBegun g e x.state u → (m : Option Bytes) → BodyState g (set_current_template_name m u)

-- What a call answers is how its template's list ends

abbrev pub end_answer : End → Answer
end_answer (succeeds x) = record { number = 0; template_name = none; line = 0; column = 0; text = x.text }
end_answer (ends e) = refusal e
