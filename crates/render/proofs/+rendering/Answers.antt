use Rattle.error.specs.Reasons.{not_none, none_of, some_of}
use Rattle.std.specs.Prelude.{Some, None}
use Prim.Native.Nat.{ℕ, ◌+◌, ◌*◌, ◌-◌, ◌<◌}
use borrow.Author.Rules.{rules}
use Prim.Native.Nat.{ℕ}
use native.Mathlib.Omega.{arith}
use mathlib.Core.Path.{refl, subst}
use lib.ListN.{length}
use Rattle.rules.specs.Bits.{bits}
use Rattle.state.specs.Context.{whole}
use Rattle.state.specs.World.{World, world}
use Rattle.template.specs.Views.{ElementHolds}
use Rattle.drawing.specs.Renders.{registry_of}
use Rattle.drawing.specs.Arrays.{front_current}
use Rattle.drawing.specs.Elements.{element_raw, element_html, element_expression, element_helper, element_decorator, element_decorated, element_partial, element_partial_block, element_comment}
use Prim.Native.Nat.{ℕ, ◌+◌, ◌-◌, ◌*◌, ◌/◌, ◌%◌, ◌≤◌, ◌<◌}
use mathlib.Core.Bool.{Bool, not, ◌||◌}
use mathlib.Core.Path.{◌≡◌, refl, sym, ap, ◌∙◌, subst}
use lib.ListN.{length, get_or, set}
use Rattle.rules.specs.Bytes.{Bytes}
use Rattle.rules.specs.Template.{Template}
use Rattle.expand.specs.declared.Options.{Options}
use Rattle.state.specs.Context.{RenderContext, whole, Front}
use Rattle.state.specs.Setters as setters
use Rattle.rules.specs.Layout.{field}
use Rattle.state.specs.World.{World, world, over, top, name_at, Ready, Sizes}
use Rattle.drawing.specs.Renders.{Renders}
use mathlib.Core.List.{List}
use Rattle.render.proofs.+rendering.Goals.{render_elements-then-put-eq0+else-is_some, render_elements-else-put-eq0, render_elements-then-put-eq0-2+else-is_some-2, render_elements-else-put-eq0-2}
use mathlib.Core.Option.{Option}
use Rattle.rules.specs.Bundle.{body, param, call_of}
use Rattle.parts.specs.Holds.{Holds, end}
use Rattle.template.specs.Views.{template_at, element_says, element_view, body_view, placed_element, placed_element_is}
use Rattle.template.specs.Bodies.{body_read, body_stands, element_here, element_read, placed_holds, placed_fits}
use Rattle.drawing.specs.Loop.{Drawing, drawing_start, drawing_end, drawing_stop, drawing_more}
use Rattle.bits.specs.Packed.{bytes_at}
use Rattle.output.specs.declared.Writer.{Writer}
use Rattle.output.specs.Outputs.{outputs}
use Rattle.parts.specs.HoldsLaws.{string_in}
use Rattle.value.specs.Numbers.{decoded}
use Rattle.scope.specs.declared.Scope.{Scope}
use Rattle.scope.specs.Scopes.{blank}
use Rattle.drawing.specs.Arrays.{array_sized, array_scopes, array_newest, array_near_front, front_current, count_kept, count_small, refused_any}
use Rattle.plain.specs.Lookups.{lookup_known}
use Rattle.plain.specs.Drawn.{left_by}
use Rattle.render.specs.Body.{Topmost, topmost_first, topped_there, body_front, body_sized, body_left, body_kept, body_gained, body_same, left_of, wrote_kept, left_kept}
use Rattle.helpers.specs.declared.Shows.TheVariants as shows
use Rattle.state.specs.declared.RenderContext as code
use Rattle.state.specs.Setters.{wrote}
use Rattle.plain.specs.Plain.{TextIs, OneDrawn, ShowsAt, LookupAt, ShownIs}
use Rattle.plain.specs.Laws.{text_here, value_known, value_here, nothing_here, refused_here, wrote_all}
use Rattle.plain.specs.Put.{fed_same, value_same, value_by}
use Rattle.rules.specs.BundleLaws.{bits_size, bits_binary}
use Rattle.rules.specs.LayoutLaws.{field_lt}
use Rattle.rules.specs.Render as rule
use Prim.Native.Nat.{ℕ, ◌-◌}
use mathlib.Core.Path.{refl, sym, ap, subst}
use lib.ListN.{set}
use Rattle.state.specs.Context.{RenderContext, whole, topped}
use Rattle.state.specs.World.{World, world, over}
use Rattle.parts.specs.Says.{names_at}
use Rattle.state.specs.Setters.{settled}
use Rattle.drawing.specs.Arrays.{array_sized, within_any}
use Rattle.drawing.specs.Renders.{body_rule}
use Rattle.helping.specs.declared.Next.TheVariants.{Turns}
use Rattle.helping.specs.Begun.{HelperBegun, opened}
use Rattle.helping.specs.Decided.{helper_rule}
use Rattle.render.specs.Laws.{left_drawn, finished_drawn, top_front}
use mathlib.Core.Path.{refl, sym, subst}
use Rattle.drawing.specs.Arrays.{array_sized, concluded_any}
use Rattle.beginning.specs.Opened.{PartialBegun, partial_rule}
use Rattle.render.specs.Laws.{no_own, left_drawn}
use Rattle.state.specs.Setters.{with_template, settled}
use Rattle.render.specs.Laws.{left_drawn, finished_drawn}
use mathlib.Core.Path.{refl, sym, ap, ◌∙◌, subst}
use lib.ListN.{set, length-set}
use Rattle.state.specs.Context.{RenderContext, whole}
use Rattle.texts.specs.Setters.{with_block}
use Rattle.drawing.specs.Arrays.{array_sized, count_small, refused_any, concluded_any}
use Rattle.render.specs.Laws.{text_goes}
use Prim.Native.Nat.{ℕ, ◌+◌, ◌-◌, ◌*◌, ◌≤◌, ◌<◌}
use mathlib.Core.Bool.{Bool}
use mathlib.Core.List.{List, []}
use lib.Dec.{eqb}
use Rattle.rules.specs.Bundle.{block_names}
use Rattle.rules.specs.Plan.{answer}
use Rattle.rules.specs.State.{Draw}
use Rattle.rules.specs.Registry.{Registry}
use Rattle.rules.specs.Partial.{Rendering}
use Rattle.parts.specs.Holds.{Holds}
use Rattle.parts.specs.Views.{names_view}
use Rattle.value.specs.declared.Value.{Value}
use Rattle.value.specs.Numbers.{encoded}
use Rattle.meaning.specs.Meaning.{json_of}
use Rattle.members.specs.Turns.{each_turns}
use Rattle.scope.specs.Names.{Readable}
use Rattle.scope.specs.Made as made
use Rattle.blocks.specs.Opened.{each_scope}
use Rattle.state.specs.Context.{RenderContext, whole, topped, Front}
use Rattle.state.specs.Current.{same_count}
use Rattle.state.specs.World.{World, world, over, front, top, Ready}
use Rattle.drawing.specs.Renders.{Renders, Named, Openable, body_rule}
use Rattle.drawing.specs.Arrays.{array_sized, array_scopes, count_small, front_current}
use Rattle.drawing.specs.EachLoop.{each_rule, EachGoing, each_held, each_fits, each_opens, each_readable, each_empty, each_ended, each_used, each_sizes, each_item_fits, each_less}
use Rattle.drawing.specs.EachArray.{array_begun, array_ready, array_stopped, array_before, array_again}
use Prim.Native.Nat.{ℕ, ◌<◌}
use borrow.Enum.Refused.{opened as unsealed}
use Rattle.render.proofs.+rendering.Goals as goal

drawing-moved : (s b : Bytes) (o : Options) (n : Option Bytes) (T : Template) (d count z : ℕ) (w : World) (c : RenderContext) (page texts page' texts' indent : Bytes) (ent : List ℕ) (i p : ℕ) → page' ≡ page → texts' ≡ texts
    → Drawing s b o n T d count z w (world c page texts indent ent) i p → Drawing s b o n T d count z w (world c page' texts' indent ent) i p
drawing-moved s b o n T d count z w c page texts page' texts' indent ent i p e f D =
    subst (λ (x : Bytes). Drawing s b o n T d count z w (world c x texts' indent ent) i p) (sym e) (subst (λ (x : Bytes). Drawing s b o n T d count z w (world c page x indent ent) i p) (sym f) D)

one_in : (s b : Bytes) (o : Options) (d p : ℕ) (l : World) (c c' : RenderContext) (page page' texts texts' indent : Bytes) (ent : List ℕ) (z : ℕ) → c ≡ c' → page' ≡ page → texts' ≡ texts
    → OneDrawn s b o d p l (world c' page texts indent ent) z → OneDrawn s b o d p l (world c page' texts' indent ent) z
one_in s b o d p l c c' page page' texts texts' indent ent z e f g O =
    subst (λ (x : RenderContext). OneDrawn s b o d p l (world x page' texts' indent ent) z) (sym e)
    (subst (λ (x : Bytes). OneDrawn s b o d p l (world c' x texts' indent ent) z) (sym f) (subst (λ (x : Bytes). OneDrawn s b o d p l (world c' page x indent ent) z) (sym g) O))

front_is : (s b : Bytes) (q : code.RenderContext) (l : List Scope) (p t i : Bytes) (e : List ℕ) → Ready s b (world (whole q l) p t i e) → (x : Scope) → Front l q x → x ≡ front (world (whole q l) p t i e)
front_is s b q l p t i e r x f =
    f.is ∙ ap (λ (m : List Scope). get_or m (q.used - 1) blank) (sym (array_scopes s b q l p t i e r (front_current l q x f)))

module _ (q q₁ : code.RenderContext) (N : (l : List Scope) → whole q₁ l ≡ setters.with_template (whole q l) 0) where
  unnamed-used : q₁.used ≡ q.used
  unnamed-used = ap (λ (c : RenderContext). c.used) (N [])

  unnamed-topped : (l : List Scope) (x : Scope) → topped q₁ l x ≡ setters.with_template (topped q l x) 0
  unnamed-topped l x =
      N (set l (q₁.used - 1) x) ∙ ap (λ (n : ℕ). setters.with_template (whole q (set l (n - 1) x)) 0) unnamed-used

  unnamed-count : q.used ≤ 32 → q₁.count ≡ q.count
  unnamed-count most = same_count q₁ q unnamed-used most (λ m. ap (λ (c : RenderContext). c.scopes) (N m))

  turn-count : q.used ≤ 32 → (x : Scope) (item key : Value) (k : ℕ) (object last : Bool) (c : Scope)
      → x ≡ made.turned (made.with_count c q.count) (encoded item) (encoded key) k (eqb k 0) last object → x.count ≡ q₁.count
  turn-count most x item key k object last c is = ap (λ (z : Scope). z.count) is ∙ sym (unnamed-count most)

no_name : (b : Bytes) → Named b 0
no_name b z = absurd (z refl)

turn_is : (c : Scope) (n : ℕ) (item key : Value) (k : ℕ) (object last : Bool) (y x : Scope) → y ≡ made.with_count c n
    → x ≡ made.turned y (encoded item) (encoded key) k (eqb k 0) last object
    → x ≡ made.turned (made.with_count c n) (encoded item) (encoded key) k (eqb k 0) last object
turn_is c n item key k object last y x e f =
    f ∙ ap (λ (z : Scope). made.turned z (encoded item) (encoded key) k (eqb k 0) last object) e

unnamed-drawn : (s b : Bytes) (o : Options) (q q₁ : code.RenderContext) → ((l : List Scope) → whole q₁ l ≡ setters.with_template (whole q l) 0)
    → (l : List Scope) (x : Scope) (p t i : Bytes) (e : List ℕ) (r : code.RenderContext) (p₂ t₂ i₂ : Bytes) (e₂ : List ℕ) (rule : Registry → Rendering → Draw)
    → Renders s b o (world (topped q₁ l x) p t i e) (world (whole r (set l (q₁.used - 1) x)) p₂ t₂ i₂ e₂) rule
    → Renders s b o (world (setters.with_template (topped q l x) 0) p t i e) (world (whole r (set l (q.used - 1) x)) p₂ t₂ i₂ e₂) rule
unnamed-drawn s b o q q₁ N l x p t i e r p₂ t₂ i₂ e₂ rule D =
    subst (λ (n : ℕ). Renders s b o (world (setters.with_template (topped q l x) 0) p t i e) (world (whole r (set l (n - 1) x)) p₂ t₂ i₂ e₂) rule) (unnamed-used q q₁ N)
    (subst (λ (c : RenderContext). Renders s b o (world c p t i e) (world (whole r (set l (q₁.used - 1) x)) p₂ t₂ i₂ e₂) rule) (unnamed-topped q q₁ N l x) D)

pub render_element-raw_string-requires : goal.render_element-raw_string-requires
render_element-raw_string-requires t c = let a = c.args in
    let h = c.requires in
    let w : World = world (whole a.rc a.scopes) a.page.now a.texts.now a.indent.now a.ent.now in
    let k = subst (ElementHolds 16 a.d (bits a.b.now)) c.in-RawString.is h.3 in
    (h.0.small, k)

pub render_element-render_html_expression-requires : goal.render_element-render_html_expression-requires
render_element-render_html_expression-requires t c = let a = c.args in
    let h = c.requires in
    let w : World = world (whole a.rc a.scopes) a.page.now a.texts.now a.indent.now a.ent.now in
    let k = subst (ElementHolds 16 a.d (bits a.b.now)) c.in-HtmlExpression.is h.3 in
    (h.0.plan, h.0.small, h.1, k, front_current a.scopes a.rc a.front h.4)

pub render_element-render_expression-requires : goal.render_element-render_expression-requires
render_element-render_expression-requires t c = let a = c.args in
    let h = c.requires in
    let w : World = world (whole a.rc a.scopes) a.page.now a.texts.now a.indent.now a.ent.now in
    let k = subst (ElementHolds 16 a.d (bits a.b.now)) c.in-Expression.is h.3 in
    (h.0.plan, h.0.small, h.1, k, front_current a.scopes a.rc a.front h.4)

pub render_element-render_helper-requires : goal.render_element-render_helper-requires
render_element-render_helper-requires t c = let a = c.args in
    let h = c.requires in
    let w : World = world (whole a.rc a.scopes) a.page.now a.texts.now a.indent.now a.ent.now in
    let k = subst (ElementHolds 16 a.d (bits a.b.now)) c.in-HelperBlock.is h.3 in
    (omega arith, (h.0, h.1, h.2, k.0, k.1, k.2, k.3, h.4))

pub render_element-eval_decorator-requires : goal.render_element-eval_decorator-requires
render_element-eval_decorator-requires t c = let a = c.args in
    let h = c.requires in
    let w : World = world (whole a.rc a.scopes) a.page.now a.texts.now a.indent.now a.ent.now in
    let k = subst (ElementHolds 16 a.d (bits a.b.now)) c.in-DecoratorExpression.is h.3 in
    (h.0.plan, h.0.small, h.4, record { page = a.page.now; texts = a.texts.now; indent = a.indent.now; ready = h.1 }, omega (arith, h.2), k.0, tt, k.1)

pub render_element-eval_decorator-requires-in-DecoratorBlock : goal.render_element-eval_decorator-requires-in-DecoratorBlock
render_element-eval_decorator-requires-in-DecoratorBlock t c = let a = c.args in
    let h = c.requires in
    let w : World = world (whole a.rc a.scopes) a.page.now a.texts.now a.indent.now a.ent.now in
    let k = subst (ElementHolds 16 a.d (bits a.b.now)) c.in-DecoratorBlock.is h.3 in
    (h.0.plan, h.0.small, h.4, record { page = a.page.now; texts = a.texts.now; indent = a.indent.now; ready = h.1 }, omega (arith, h.2), k.0, k.1, k.2)

pub render_element-render_partial_block-requires : goal.render_element-render_partial_block-requires
render_element-render_partial_block-requires t c = let a = c.args in
    let h = c.requires in
    let w : World = world (whole a.rc a.scopes) a.page.now a.texts.now a.indent.now a.ent.now in
    let k = subst (ElementHolds 16 a.d (bits a.b.now)) c.in-PartialBlock.is h.3 in
    (omega arith, (h.0, h.1, h.2, k.0, k.1, k.2, h.4))

pub render_element-render_partial-requires : goal.render_element-render_partial-requires
render_element-render_partial-requires t c = let a = c.args in
    let h = c.requires in
    let w : World = world (whole a.rc a.scopes) a.page.now a.texts.now a.indent.now a.ent.now in
    let k = subst (ElementHolds 16 a.d (bits a.b.now)) c.in-PartialExpression.is h.3 in
    (omega arith, (h.0, h.1, h.2, k.0, k.1, h.4))

pub render_element-returns-in-RawString : goal.render_element-returns-in-RawString
render_element-returns-in-RawString t c = let a = c.args in
    let h = c.requires in
    let w : World = world (whole a.rc a.scopes) a.page.now a.texts.now a.indent.now a.ent.now in
    let w₂ : World = world (whole c.raw_string.result a.scopes) c.raw_string.new.page c.raw_string.new.texts a.indent.now a.ent.now in
    element_raw a.s.now a.b.now a.options w w₂ a.d a.e c.in-RawString.p c.in-RawString.is (c.raw_string.ensures.writes a.scopes a.s.now a.ent.now h.1)

pub render_element-returns-in-HtmlExpression : goal.render_element-returns-in-HtmlExpression
render_element-returns-in-HtmlExpression t c = let a = c.args in
    let h = c.requires in
    let w : World = world (whole a.rc a.scopes) a.page.now a.texts.now a.indent.now a.ent.now in
    let w₂ : World = world (whole c.render_html_expression.result a.scopes) c.render_html_expression.new.page c.render_html_expression.new.texts a.indent.now a.ent.now in
    element_html a.s.now a.b.now a.options w w₂ a.d a.e c.in-HtmlExpression.p c.in-HtmlExpression.before c.in-HtmlExpression.is (record { at = c.render_html_expression.ensures.at })

pub render_element-returns-in-Expression : goal.render_element-returns-in-Expression
render_element-returns-in-Expression t c = let a = c.args in
    let h = c.requires in
    let w : World = world (whole a.rc a.scopes) a.page.now a.texts.now a.indent.now a.ent.now in
    let w₂ : World = world (whole c.render_expression.result a.scopes) c.render_expression.new.page c.render_expression.new.texts a.indent.now a.ent.now in
    element_expression a.s.now a.b.now a.options w w₂ a.d a.e c.in-Expression.p c.in-Expression.before c.in-Expression.is (record { at = c.render_expression.ensures.at })

pub render_element-returns-in-HelperBlock : goal.render_element-returns-in-HelperBlock
render_element-returns-in-HelperBlock t c = let a = c.args in
    let h = c.requires in
    let w : World = world (whole a.rc a.scopes) a.page.now a.texts.now a.indent.now a.ent.now in
    let w₂ : World = world (whole c.render_helper.result a.scopes) c.render_helper.new.page c.render_helper.new.texts c.render_helper.new.indent c.render_helper.new.ent in
    element_helper a.s.now a.b.now a.options w w₂ a.d a.e c.in-HelperBlock.p c.in-HelperBlock.at c.in-HelperBlock.template c.in-HelperBlock.inverse c.in-HelperBlock.before c.in-HelperBlock.is (record { at = c.render_helper.ensures.at })

pub render_element-returns-in-DecoratorExpression : goal.render_element-returns-in-DecoratorExpression
render_element-returns-in-DecoratorExpression t c = let a = c.args in
    let h = c.requires in
    let w : World = world (whole a.rc a.scopes) a.page.now a.texts.now a.indent.now a.ent.now in
    let w₂ : World = world (whole c.eval_decorator.result a.scopes) a.page.now a.texts.now a.indent.now c.eval_decorator.new.ent in
    element_decorator a.s.now a.b.now a.options w w₂ a.d a.e c.in-DecoratorExpression.p c.in-DecoratorExpression.at c.in-DecoratorExpression.field-2 c.in-DecoratorExpression.is (record { at = λ f le. c.eval_decorator.ensures.1 (registry_of a.s.now a.b.now a.options (length a.page.now)) a.page.now a.texts.now a.indent.now (record { plan = refl; strict = refl; recursive = refl; scopes = refl; indent = refl; entries = refl }) h.1 })

pub render_element-returns-in-DecoratorBlock : goal.render_element-returns-in-DecoratorBlock
render_element-returns-in-DecoratorBlock t c = let a = c.args in
    let h = c.requires in
    let w : World = world (whole a.rc a.scopes) a.page.now a.texts.now a.indent.now a.ent.now in
    let w₂ : World = world (whole c.eval_decorator-in-DecoratorBlock.result a.scopes) a.page.now a.texts.now a.indent.now c.eval_decorator-in-DecoratorBlock.new.ent in
    element_decorated a.s.now a.b.now a.options w w₂ a.d a.e c.in-DecoratorBlock.p c.in-DecoratorBlock.body c.in-DecoratorBlock.at c.in-DecoratorBlock.field-3 c.in-DecoratorBlock.is (record { at = λ f le. c.eval_decorator-in-DecoratorBlock.ensures.1 (registry_of a.s.now a.b.now a.options (length a.page.now)) a.page.now a.texts.now a.indent.now (record { plan = refl; strict = refl; recursive = refl; scopes = refl; indent = refl; entries = refl }) h.1 })

pub render_element-returns-in-PartialBlock : goal.render_element-returns-in-PartialBlock
render_element-returns-in-PartialBlock t c = let a = c.args in
    let h = c.requires in
    let w : World = world (whole a.rc a.scopes) a.page.now a.texts.now a.indent.now a.ent.now in
    let w₂ : World = world (whole c.render_partial_block.result a.scopes) c.render_partial_block.new.page c.render_partial_block.new.texts c.render_partial_block.new.indent c.render_partial_block.new.ent in
    element_partial_block a.s.now a.b.now a.options w w₂ a.d a.e c.in-PartialBlock.p c.in-PartialBlock.body c.in-PartialBlock.at c.in-PartialBlock.before c.in-PartialBlock.is (record { at = c.render_partial_block.ensures.at })

pub render_element-returns-in-PartialExpression : goal.render_element-returns-in-PartialExpression
render_element-returns-in-PartialExpression t c = let a = c.args in
    let h = c.requires in
    let w : World = world (whole a.rc a.scopes) a.page.now a.texts.now a.indent.now a.ent.now in
    let w₂ : World = world (whole c.render_partial.result a.scopes) c.render_partial.new.page c.render_partial.new.texts c.render_partial.new.indent c.render_partial.new.ent in
    element_partial a.s.now a.b.now a.options w w₂ a.d a.e c.in-PartialExpression.p c.in-PartialExpression.at c.in-PartialExpression.before c.in-PartialExpression.is (record { at = c.render_partial.ensures.at })

pub render_element-returns-in-Comment : goal.render_element-returns-in-Comment
render_element-returns-in-Comment t c = let a = c.args in
    let h = c.requires in
    let w : World = world (whole a.rc a.scopes) a.page.now a.texts.now a.indent.now a.ent.now in
    element_comment a.s.now a.b.now a.options w a.d a.e c.in-Comment.field-0 c.in-Comment.is h.1

pub render_elements-body_at-body-requires : goal.render_elements-body_at-body-requires
render_elements-body_at-body-requires t c = let h = c.requires in let k = body_stands 16 c.args.d (bits c.args.b.now) c.args.p h.3 in omega (arith, k.fits, h.0.small, bits_size c.args.b.now)

pub render_elements-overflow_sub-k : goal.render_elements-overflow_sub-k
render_elements-overflow_sub-k t c = let h = c.requires in omega (arith, h.1.one)

pub render_elements-put_scope-open-requires : goal.render_elements-put_scope-open-requires
render_elements-put_scope-open-requires t c = let h = c.requires in omega (arith, h.1.one, h.1.most)

pub render_elements-loop-i-init : goal.render_elements-loop-i-init
render_elements-loop-i-init t c = let a = c.args in
    let h = c.requires in
    let ps = c.put_scope-open in
    let r : Ready a.s.now a.b.now (world (whole a.rc ps.result) a.page.now a.texts.now a.indent.now a.ent.now) =
    subst (λ (m : List Scope). Ready a.s.now a.b.now (world (whole a.rc m) a.page.now a.texts.now a.indent.now a.ent.now)) (sym ps.ensures) h.1 in (
      drawing_start a.s.now a.b.now a.options (name_at a.b.now a.name) (world (whole a.rc ps.result) a.page.now a.texts.now a.indent.now a.ent.now) a.d a.p r h.3 c.body_at-body.result c.body_at-body.ensures,
      topmost_first a.scopes (a.rc.used - 1) a.top a.rc ps.result ps.ensures h.5,
    )

pub render_elements-overflow_add-at : goal.render_elements-overflow_add-at
render_elements-overflow_add-at t c = let a = c.args in
    let h = c.requires in
    let ps = c.put_scope-open in
    let w : World = world (whole a.rc ps.result) a.page.now a.texts.now a.indent.now a.ent.now in
    let l = c.loop-i in
    let k₀ : RenderContext = whole l.q l.«open» in
    let lw : World = world k₀ l.page l.texts l.indent l.ent in
    let T = template_at 16 a.d (bits a.b.now) a.p in
    let n = c.body_at-body.result.count in
    let z = end (body 16 a.d) (bits a.b.now) a.p in
    let D = l.invariant.0 in
    let B = l.invariant.1 in
    let g = element_here 16 (a.d - 1) (bits a.b.now) n l.i l.cur z D.passed c.loop-i-test.true in
    let k = placed_fits 16 (call_of (param (a.d - 1))) (body 16 (a.d - 1)) (bits a.b.now) l.cur g in
    omega (arith, k, h.0.small, bits_size a.b.now)

pub render_elements-overflow_add-at-in-loop-i : goal.render_elements-overflow_add-at-in-loop-i
render_elements-overflow_add-at-in-loop-i t c = let a = c.args in
    let h = c.requires in
    let ps = c.put_scope-open in
    let w : World = world (whole a.rc ps.result) a.page.now a.texts.now a.indent.now a.ent.now in
    let l = c.loop-i in
    let k₀ : RenderContext = whole l.q l.«open» in
    let lw : World = world k₀ l.page l.texts l.indent l.ent in
    let T = template_at 16 a.d (bits a.b.now) a.p in
    let n = c.body_at-body.result.count in
    let z = end (body 16 a.d) (bits a.b.now) a.p in
    let D = l.invariant.0 in
    let B = l.invariant.1 in
    let g = element_here 16 (a.d - 1) (bits a.b.now) n l.i l.cur z D.passed c.loop-i-test.true in
    let k = placed_fits 16 (call_of (param (a.d - 1))) (body 16 (a.d - 1)) (bits a.b.now) l.cur g in
    omega (arith, k, h.0.small, bits_size a.b.now)

pub render_elements-overflow_sub-d : goal.render_elements-overflow_sub-d
render_elements-overflow_sub-d t c = let k = (body_stands 16 c.args.d (bits c.args.b.now) c.args.p c.requires.3).deep in search rules

pub render_elements-shown_at-requires : goal.render_elements-shown_at-requires
render_elements-shown_at-requires t c = let a = c.args in
    let h = c.requires in
    let ps = c.put_scope-open in
    let w : World = world (whole a.rc ps.result) a.page.now a.texts.now a.indent.now a.ent.now in
    let l = c.loop-i in
    let k₀ : RenderContext = whole l.q l.«open» in
    let lw : World = world k₀ l.page l.texts l.indent l.ent in
    let T = template_at 16 a.d (bits a.b.now) a.p in
    let n = c.body_at-body.result.count in
    let z = end (body 16 a.d) (bits a.b.now) a.p in
    let D = l.invariant.0 in
    let B = l.invariant.1 in
    let sized : length ps.result ≡ 32 = ap length ps.ensures ∙ array_sized a.s.now a.b.now a.rc (set a.scopes (a.rc.used - 1) a.top) a.page.now a.texts.now a.indent.now a.ent.now h.1 in
    let here : a.rc.used - 1 ≡ l.q.used - 1 = omega (arith, D.goes.used) in
    let F : Front l.«open» l.q l.front = body_front ps.result (a.rc.used - 1) a.top l.q l.front l.«open» sized D.goes.ready.one D.goes.ready.most here B in
    let g = element_here 16 (a.d - 1) (bits a.b.now) n l.i l.cur z D.passed c.loop-i-test.true in
    (h.0.plan, h.0.small, array_near_front a.s.now a.b.now l.q l.«open» l.page l.texts l.indent l.ent D.goes.ready l.front F, placed_holds 16 (call_of (param (a.d - 1))) (body 16 (a.d - 1)) (bits a.b.now) l.cur g)

pub render_elements-overflow_add-at-in-Text : goal.render_elements-overflow_add-at-in-Text
render_elements-overflow_add-at-in-Text t c = let a = c.args in
    let h = c.requires in
    let ps = c.put_scope-open in
    let w : World = world (whole a.rc ps.result) a.page.now a.texts.now a.indent.now a.ent.now in
    let l = c.loop-i in
    let k₀ : RenderContext = whole l.q l.«open» in
    let lw : World = world k₀ l.page l.texts l.indent l.ent in
    let T = template_at 16 a.d (bits a.b.now) a.p in
    let n = c.body_at-body.result.count in
    let z = end (body 16 a.d) (bits a.b.now) a.p in
    let D = l.invariant.0 in
    let B = l.invariant.1 in
    let j = c.in-Text.n in
    let X : TextIs (a.d - 1) (bits a.b.now) (l.cur + 16 + 16) j = (subst (ShownIs a.s.now a.b.now l.ent l.front l.q.names l.q.disable_escape a.options (a.d - 1) (l.cur + 16 + 16)) c.in-Text.is c.shown_at.ensures) in
    let k = string_in (bits a.b.now) (l.cur + 16 + 16 + 4) X.text in
    omega (arith, k, X.count, h.0.small, bits_size a.b.now)

pub render_elements-put_text-put-requires : goal.render_elements-put_text-put-requires
render_elements-put_text-put-requires t c = let a = c.args in
    let h = c.requires in
    let ps = c.put_scope-open in
    let w : World = world (whole a.rc ps.result) a.page.now a.texts.now a.indent.now a.ent.now in
    let l = c.loop-i in
    let k₀ : RenderContext = whole l.q l.«open» in
    let lw : World = world k₀ l.page l.texts l.indent l.ent in
    let T = template_at 16 a.d (bits a.b.now) a.p in
    let n = c.body_at-body.result.count in
    let z = end (body 16 a.d) (bits a.b.now) a.p in
    let D = l.invariant.0 in
    let B = l.invariant.1 in
    let j = c.in-Text.n in
    let X : TextIs (a.d - 1) (bits a.b.now) (l.cur + 16 + 16) j = (subst (ShownIs a.s.now a.b.now l.ent l.front l.q.names l.q.disable_escape a.options (a.d - 1) (l.cur + 16 + 16)) c.in-Text.is c.shown_at.ensures) in
    let k = string_in (bits a.b.now) (l.cur + 16 + 16 + 4) X.text in
    omega (arith, k, X.count, h.0.small, bits_size a.b.now)

pub render_elements-overflow_add-at-then-put-eq0 : goal.render_elements-overflow_add-at-then-put-eq0
render_elements-overflow_add-at-then-put-eq0 t c = let a = c.args in
    let h = c.requires in
    let ps = c.put_scope-open in
    let w : World = world (whole a.rc ps.result) a.page.now a.texts.now a.indent.now a.ent.now in
    let l = c.loop-i in
    let k₀ : RenderContext = whole l.q l.«open» in
    let lw : World = world k₀ l.page l.texts l.indent l.ent in
    let T = template_at 16 a.d (bits a.b.now) a.p in
    let n = c.body_at-body.result.count in
    let z = end (body 16 a.d) (bits a.b.now) a.p in
    let D = l.invariant.0 in
    let B = l.invariant.1 in
    let j = c.in-Text.n in
    let X : TextIs (a.d - 1) (bits a.b.now) (l.cur + 16 + 16) j = (subst (ShownIs a.s.now a.b.now l.ent l.front l.q.names l.q.disable_escape a.options (a.d - 1) (l.cur + 16 + 16)) c.in-Text.is c.shown_at.ensures) in
    let k = string_in (bits a.b.now) (l.cur + 16 + 16 + 4) X.text in
    omega (arith, k, X.count, h.0.small, bits_size a.b.now)

pub render_elements-write_packed-w-requires : goal.render_elements-write_packed-w-requires
render_elements-write_packed-w-requires t c = let a = c.args in
    let h = c.requires in
    let ps = c.put_scope-open in
    let w : World = world (whole a.rc ps.result) a.page.now a.texts.now a.indent.now a.ent.now in
    let l = c.loop-i in
    let k₀ : RenderContext = whole l.q l.«open» in
    let lw : World = world k₀ l.page l.texts l.indent l.ent in
    let T = template_at 16 a.d (bits a.b.now) a.p in
    let n = c.body_at-body.result.count in
    let z = end (body 16 a.d) (bits a.b.now) a.p in
    let D = l.invariant.0 in
    let B = l.invariant.1 in
    let j = c.in-Text.n in
    let X : TextIs (a.d - 1) (bits a.b.now) (l.cur + 16 + 16) j = (subst (ShownIs a.s.now a.b.now l.ent l.front l.q.names l.q.disable_escape a.options (a.d - 1) (l.cur + 16 + 16)) c.in-Text.is c.shown_at.ensures) in
    let k = string_in (bits a.b.now) (l.cur + 16 + 16 + 4) X.text in
    omega (arith, k, X.count, h.0.small, bits_size a.b.now)

pub render_elements-stopped-requires : goal.render_elements-stopped-requires
render_elements-stopped-requires t c = let a = c.args in
    let h = c.requires in
    let ps = c.put_scope-open in
    let w : World = world (whole a.rc ps.result) a.page.now a.texts.now a.indent.now a.ent.now in
    let l = c.loop-i in
    let k₀ : RenderContext = whole l.q l.«open» in
    let lw : World = world k₀ l.page l.texts l.indent l.ent in
    let T = template_at 16 a.d (bits a.b.now) a.p in
    let n = c.body_at-body.result.count in
    let z = end (body 16 a.d) (bits a.b.now) a.p in
    let D = l.invariant.0 in
    let B = l.invariant.1 in
    let g = element_here 16 (a.d - 1) (bits a.b.now) n l.i l.cur z D.passed c.loop-i-test.true in
    let k = placed_fits 16 (call_of (param (a.d - 1))) (body 16 (a.d - 1)) (bits a.b.now) l.cur g in
    omega (arith, k, h.0.small, bits_size a.b.now)

pub render_elements-shape_of-ent-then-is_some : goal.render_elements-shape_of-ent-then-is_some
render_elements-shape_of-ent-then-is_some t c = omega (arith, c.loop-i.invariant.0.goes.sizes.ent)

pub render_elements-shape_of-page-then-is_some : goal.render_elements-shape_of-page-then-is_some
render_elements-shape_of-page-then-is_some t c = omega (arith, c.write_packed-w.auto.page, c.put_text-put.auto.page, c.loop-i.invariant.0.goes.sizes.page)

pub render_elements-shape_of-texts-then-is_some : goal.render_elements-shape_of-texts-then-is_some
render_elements-shape_of-texts-then-is_some t c = omega (arith, c.write_packed-w.auto.texts, c.put_text-put.auto.texts, c.loop-i.invariant.0.goes.sizes.texts)

pub render_elements-shape_of-indent-then-is_some : goal.render_elements-shape_of-indent-then-is_some
render_elements-shape_of-indent-then-is_some t c = omega (arith, c.loop-i.invariant.0.goes.sizes.indent)

pub render_elements-returns-then-is_some : goal.render_elements-returns-then-is_some
render_elements-returns-then-is_some t c = let a = c.args in
    let h = c.requires in
    let ps = c.put_scope-open in
    let w : World = world (whole a.rc ps.result) a.page.now a.texts.now a.indent.now a.ent.now in
    let l = c.loop-i in
    let k₀ : RenderContext = whole l.q l.«open» in
    let lw : World = world k₀ l.page l.texts l.indent l.ent in
    let T = template_at 16 a.d (bits a.b.now) a.p in
    let n = c.body_at-body.result.count in
    let z = end (body 16 a.d) (bits a.b.now) a.p in
    let D = l.invariant.0 in
    let B = l.invariant.1 in
    let j = c.in-Text.n in
    let X : TextIs (a.d - 1) (bits a.b.now) (l.cur + 16 + 16) j = (subst (ShownIs a.s.now a.b.now l.ent l.front l.q.names l.q.disable_escape a.options (a.d - 1) (l.cur + 16 + 16)) c.in-Text.is c.shown_at.ensures) in
    let p = c.put_text-put in
    let y = c.write_packed-w in
    let u = c.wrote-q in
    let m : World = world (whole u.result l.«open») y.new.page y.new.texts l.indent l.ent in
    let O : OneDrawn a.s.now a.b.now a.options (a.d - 1) l.cur lw m (l.cur + 16 + 16 + 20 + 8 * j) =
    one_in a.s.now a.b.now a.options (a.d - 1) l.cur lw (whole u.result l.«open») (wrote k₀ y.result) y.new.page y.new.page y.new.texts y.new.texts l.indent l.ent (l.cur + 16 + 16 + 20 + 8 * j) (u.ensures l.«open») refl refl
    (text_here a.s.now a.b.now a.options (a.d - 1) l.cur k₀ l.page l.texts l.indent l.ent D.goes.ready j X y.result y.new.page y.new.texts (y.ensures ∙ fed_same l.indent (bytes_at (bits a.b.now) (l.cur + 16 + 16 + 20) j) l.q.writer l.page l.texts p.new.page p.new.texts (p.ensures.put.none c.if-put-eq0.true))) in
    let X : Renders a.s.now a.b.now a.options w (world (whole c.stopped.result l.«open») y.new.page y.new.texts l.indent l.ent) (λ g R. rule.render_elements g R (name_at a.b.now a.name) T) =
    subst (λ (x : RenderContext). Renders a.s.now a.b.now a.options w (over x m) (λ g R. rule.render_elements g R (name_at a.b.now a.name) T)) (sym (c.stopped.ensures l.«open»))
    (drawing_stop a.s.now a.b.now a.options (name_at a.b.now a.name) w T (a.d - 1) n z lw l.i l.cur D c.loop-i-test.true (element_view 16 (a.d - 1) (bits a.b.now) l.cur) refl m O.renders a.name refl (some_of _ (sym c.is_some.ensures ∙ c.if-is_some.true))) in
    left_of a.s.now a.b.now a.options a.rc ps.result (set a.scopes (a.rc.used - 1) a.top) a.page.now a.texts.now a.indent.now a.ent.now (λ g R. rule.render_elements g R (name_at a.b.now a.name) T) ps.ensures
    (refused_any a.s.now a.b.now a.options w c.stopped.result (set a.scopes (a.rc.used - 1) a.top) l.«open» y.new.page y.new.texts l.indent l.ent (λ g R. rule.render_elements g R (name_at a.b.now a.name) T)
    (λ e. (some_of _ (sym c.is_some.ensures ∙ c.if-is_some.true)) (sym (ap (λ (x : RenderContext). x.bad) (c.stopped.ensures l.«open»)) ∙ e)) X)

pub render_elements-overflow_sub-put : goal.render_elements-overflow_sub-put
render_elements-overflow_sub-put t c = omega (arith, c.if-put-eq0.false)

pub render_elements-overflow_cast-put : goal.render_elements-overflow_cast-put
render_elements-overflow_cast-put t c = omega (arith, (c.put_text-put.ensures.put.some c.if-put-eq0.false).byte)

pub render_elements-behind-w-requires : goal.render_elements-behind-w-requires
render_elements-behind-w-requires t c = (c.put_text-put.ensures.put.some c.if-put-eq0.false).fits

pub render_elements-overflow_add-cur : goal.render_elements-overflow_add-cur
render_elements-overflow_add-cur t c = let a = c.args in
    let h = c.requires in
    let ps = c.put_scope-open in
    let w : World = world (whole a.rc ps.result) a.page.now a.texts.now a.indent.now a.ent.now in
    let l = c.loop-i in
    let k₀ : RenderContext = whole l.q l.«open» in
    let lw : World = world k₀ l.page l.texts l.indent l.ent in
    let T = template_at 16 a.d (bits a.b.now) a.p in
    let n = c.body_at-body.result.count in
    let z = end (body 16 a.d) (bits a.b.now) a.p in
    let D = l.invariant.0 in
    let B = l.invariant.1 in
    let j = c.in-Text.n in
    let X : TextIs (a.d - 1) (bits a.b.now) (l.cur + 16 + 16) j = (subst (ShownIs a.s.now a.b.now l.ent l.front l.q.names l.q.disable_escape a.options (a.d - 1) (l.cur + 16 + 16)) c.in-Text.is c.shown_at.ensures) in
    let k = string_in (bits a.b.now) (l.cur + 16 + 16 + 4) X.text in
    omega (arith, k, X.count, h.0.small, bits_size a.b.now)

pub render_elements-overflow_mul-cur : goal.render_elements-overflow_mul-cur
render_elements-overflow_mul-cur t c = let a = c.args in
    let h = c.requires in
    let ps = c.put_scope-open in
    let w : World = world (whole a.rc ps.result) a.page.now a.texts.now a.indent.now a.ent.now in
    let l = c.loop-i in
    let k₀ : RenderContext = whole l.q l.«open» in
    let lw : World = world k₀ l.page l.texts l.indent l.ent in
    let T = template_at 16 a.d (bits a.b.now) a.p in
    let n = c.body_at-body.result.count in
    let z = end (body 16 a.d) (bits a.b.now) a.p in
    let D = l.invariant.0 in
    let B = l.invariant.1 in
    let j = c.in-Text.n in
    let X : TextIs (a.d - 1) (bits a.b.now) (l.cur + 16 + 16) j = (subst (ShownIs a.s.now a.b.now l.ent l.front l.q.names l.q.disable_escape a.options (a.d - 1) (l.cur + 16 + 16)) c.in-Text.is c.shown_at.ensures) in
    let k = string_in (bits a.b.now) (l.cur + 16 + 16 + 4) X.text in
    omega (arith, k, X.count, h.0.small, bits_size a.b.now)

pub render_elements-overflow_add-cur-in-Text : goal.render_elements-overflow_add-cur-in-Text
render_elements-overflow_add-cur-in-Text t c = let a = c.args in
    let h = c.requires in
    let ps = c.put_scope-open in
    let w : World = world (whole a.rc ps.result) a.page.now a.texts.now a.indent.now a.ent.now in
    let l = c.loop-i in
    let k₀ : RenderContext = whole l.q l.«open» in
    let lw : World = world k₀ l.page l.texts l.indent l.ent in
    let T = template_at 16 a.d (bits a.b.now) a.p in
    let n = c.body_at-body.result.count in
    let z = end (body 16 a.d) (bits a.b.now) a.p in
    let D = l.invariant.0 in
    let B = l.invariant.1 in
    let j = c.in-Text.n in
    let X : TextIs (a.d - 1) (bits a.b.now) (l.cur + 16 + 16) j = (subst (ShownIs a.s.now a.b.now l.ent l.front l.q.names l.q.disable_escape a.options (a.d - 1) (l.cur + 16 + 16)) c.in-Text.is c.shown_at.ensures) in
    let k = string_in (bits a.b.now) (l.cur + 16 + 16 + 4) X.text in
    omega (arith, k, X.count, h.0.small, bits_size a.b.now)

pub render_elements-overflow_add-i : goal.render_elements-overflow_add-i
render_elements-overflow_add-i t c = let e = ap (λ x. x.count) c.body_at-body.ensures in let g = field_lt (bits c.args.b.now) (bits_binary c.args.b.now) 12 c.args.p in omega (arith, c.loop-i-test.true, e, g)

pub render_elements-loop-i-smaller-in-Text : goal.render_elements-loop-i-smaller-in-Text
render_elements-loop-i-smaller-in-Text t c = omega (arith, c.loop-i-test.true)

pub render_elements-loop-i-preserved-in-Text : goal.render_elements-loop-i-preserved-in-Text
render_elements-loop-i-preserved-in-Text t c = let a = c.args in
    let h = c.requires in
    let ps = c.put_scope-open in
    let w : World = world (whole a.rc ps.result) a.page.now a.texts.now a.indent.now a.ent.now in
    let l = c.loop-i in
    let k₀ : RenderContext = whole l.q l.«open» in
    let lw : World = world k₀ l.page l.texts l.indent l.ent in
    let T = template_at 16 a.d (bits a.b.now) a.p in
    let n = c.body_at-body.result.count in
    let z = end (body 16 a.d) (bits a.b.now) a.p in
    let D = l.invariant.0 in
    let B = l.invariant.1 in
    let sized : length ps.result ≡ 32 = ap length ps.ensures ∙ array_sized a.s.now a.b.now a.rc (set a.scopes (a.rc.used - 1) a.top) a.page.now a.texts.now a.indent.now a.ent.now h.1 in
    let here : a.rc.used - 1 ≡ l.q.used - 1 = omega (arith, D.goes.used) in
    let F : Front l.«open» l.q l.front = body_front ps.result (a.rc.used - 1) a.top l.q l.front l.«open» sized D.goes.ready.one D.goes.ready.most here B in
    let full : length l.«open» ≡ 32 = body_sized ps.result (a.rc.used - 1) a.top l.q l.front l.«open» sized D.goes.ready.one D.goes.ready.most here B in
    let j = c.in-Text.n in
    let X : TextIs (a.d - 1) (bits a.b.now) (l.cur + 16 + 16) j = (subst (ShownIs a.s.now a.b.now l.ent l.front l.q.names l.q.disable_escape a.options (a.d - 1) (l.cur + 16 + 16)) c.in-Text.is c.shown_at.ensures) in
    let p = c.put_text-put in
    let J = c.if-put-eq0 in
    let m : World = world (whole J.q l.«open») J.page J.texts l.indent l.ent in
    let O : OneDrawn a.s.now a.b.now a.options (a.d - 1) l.cur lw m (l.cur + 16 + 16 + 20 + 8 * j) =
    elim J.branch [
      | render_elements-then-put-eq0+else-is_some t ↦ one_in a.s.now a.b.now a.options (a.d - 1) l.cur lw (whole J.q l.«open») (wrote k₀ t.write_packed-w.result) t.write_packed-w.new.page J.page t.write_packed-w.new.texts J.texts l.indent l.ent (l.cur + 16 + 16 + 20 + 8 * j) (ap (λ (x : code.RenderContext). whole x l.«open») t.q-is ∙ t.wrote-q.ensures l.«open») t.page-is t.texts-is
          (text_here a.s.now a.b.now a.options (a.d - 1) l.cur k₀ l.page l.texts l.indent l.ent D.goes.ready j X t.write_packed-w.result t.write_packed-w.new.page t.write_packed-w.new.texts (t.write_packed-w.ensures ∙ fed_same l.indent (bytes_at (bits a.b.now) (l.cur + 16 + 16 + 20) j) l.q.writer l.page l.texts p.new.page p.new.texts (p.ensures.put.none t.if-put-eq0.true)))
      | render_elements-else-put-eq0 t ↦ one_in a.s.now a.b.now a.options (a.d - 1) l.cur lw (whole J.q l.«open») (wrote k₀ t.behind-w.result) p.new.page J.page p.new.texts J.texts l.indent l.ent (l.cur + 16 + 16 + 20 + 8 * j) (ap (λ (x : code.RenderContext). whole x l.«open») t.q-is ∙ t.set_writer-q.ensures l.«open» ∙ sym (wrote_all k₀ t.behind-w.result (ap (λ (x : Writer). x.full) t.behind-w.ensures ∙ D.goes.ready.sound.goes))) t.page-is t.texts-is
          (text_here a.s.now a.b.now a.options (a.d - 1) l.cur k₀ l.page l.texts l.indent l.ent D.goes.ready j X t.behind-w.result p.new.page p.new.texts (ap (λ (u : Writer). outputs u p.new.page p.new.texts) t.behind-w.ensures ∙ (p.ensures.put.some t.if-put-eq0.false).is l.indent))
    ] in
    let C : J.q.count ≡ l.q.count = elim J.branch [
      | render_elements-then-put-eq0+else-is_some t ↦ ap (λ (x : code.RenderContext). x.count) t.q-is ∙ count_kept l.q l.«open» full D.goes.ready.one D.goes.ready.most t.wrote-q.result (wrote k₀ t.write_packed-w.result) (t.wrote-q.ensures l.«open») (wrote_kept k₀ t.write_packed-w.result).0 (wrote_kept k₀ t.write_packed-w.result).1
      | render_elements-else-put-eq0 t ↦ ap (λ (x : code.RenderContext). x.count) t.q-is ∙ count_kept l.q l.«open» full D.goes.ready.one D.goes.ready.most t.set_writer-q.result (setters.with_writer k₀ t.behind-w.result) (t.set_writer-q.ensures l.«open») refl refl
    ] in
    let fine : J.q.bad ≡ None = elim J.branch [
      | render_elements-then-put-eq0+else-is_some t ↦ ap (λ (x : code.RenderContext). x.bad) t.q-is ∙ (none_of _ (sym t.is_some.ensures ∙ t.if-is_some.false))
      | render_elements-else-put-eq0 t ↦ ap (λ (x : code.RenderContext). x.bad) t.q-is ∙ ap (λ (x : RenderContext). x.bad) (t.set_writer-q.ensures l.«open») ∙ D.goes.ready.fine
    ] in (
      subst (λ (p : ℕ). Drawing a.s.now a.b.now a.options (name_at a.b.now a.name) T (a.d - 1) n z w m (l.i + 1) p) (sym O.next)
          (drawing_more a.s.now a.b.now a.options (name_at a.b.now a.name) w T (a.d - 1) n z lw l.i l.cur D c.loop-i-test.true (element_view 16 (a.d - 1) (bits a.b.now) l.cur) refl m O.renders fine),
      body_kept ps.result (a.rc.used - 1) a.top l.q J.q l.front l.«open» C B,
    )

pub render_elements-put_number-put-requires : goal.render_elements-put_number-put-requires
render_elements-put_number-put-requires t c = let a = c.args in
    let h = c.requires in
    let ps = c.put_scope-open in
    let w : World = world (whole a.rc ps.result) a.page.now a.texts.now a.indent.now a.ent.now in
    let l = c.loop-i in
    let k₀ : RenderContext = whole l.q l.«open» in
    let lw : World = world k₀ l.page l.texts l.indent l.ent in
    let T = template_at 16 a.d (bits a.b.now) a.p in
    let n = c.body_at-body.result.count in
    let z = end (body 16 a.d) (bits a.b.now) a.p in
    let D = l.invariant.0 in
    let B = l.invariant.1 in
    let sized : length ps.result ≡ 32 = ap length ps.ensures ∙ array_sized a.s.now a.b.now a.rc (set a.scopes (a.rc.used - 1) a.top) a.page.now a.texts.now a.indent.now a.ent.now h.1 in
    let here : a.rc.used - 1 ≡ l.q.used - 1 = omega (arith, D.goes.used) in
    let F : Front l.«open» l.q l.front = body_front ps.result (a.rc.used - 1) a.top l.q l.front l.«open» sized D.goes.ready.one D.goes.ready.most here B in
    let S = array_scopes a.s.now a.b.now l.q l.«open» l.page l.texts l.indent l.ent D.goes.ready (front_current l.«open» l.q l.front F) in
    let N = array_newest a.s.now a.b.now l.q l.«open» l.page l.texts l.indent l.ent D.goes.ready l.front F in
    let v = c.in-Value.v in
    let html = c.in-Value.html in
    let next = c.in-Value.next in
    let A : ShowsAt a.s.now a.b.now l.ent l.front l.q.names l.q.disable_escape a.options (a.d - 1) (l.cur + 16 + 16) html next (shows.Value (decoded v)) = (subst (ShownIs a.s.now a.b.now l.ent l.front l.q.names l.q.disable_escape a.options (a.d - 1) (l.cur + 16 + 16)) c.in-Value.is c.shown_at.ensures) in
    (h.0.plan, (a.b.now, value_known a.s.now a.b.now a.options (a.d - 1) l.cur k₀ l.page l.texts l.indent l.ent D.goes.ready l.front l.q.names l.«open» S N html next (shows.Value (decoded v)) A (decoded v) refl))

pub render_elements-write_value-w-requires : goal.render_elements-write_value-w-requires
render_elements-write_value-w-requires t c = let a = c.args in
    let h = c.requires in
    let ps = c.put_scope-open in
    let w : World = world (whole a.rc ps.result) a.page.now a.texts.now a.indent.now a.ent.now in
    let l = c.loop-i in
    let k₀ : RenderContext = whole l.q l.«open» in
    let lw : World = world k₀ l.page l.texts l.indent l.ent in
    let T = template_at 16 a.d (bits a.b.now) a.p in
    let n = c.body_at-body.result.count in
    let z = end (body 16 a.d) (bits a.b.now) a.p in
    let D = l.invariant.0 in
    let B = l.invariant.1 in
    let sized : length ps.result ≡ 32 = ap length ps.ensures ∙ array_sized a.s.now a.b.now a.rc (set a.scopes (a.rc.used - 1) a.top) a.page.now a.texts.now a.indent.now a.ent.now h.1 in
    let here : a.rc.used - 1 ≡ l.q.used - 1 = omega (arith, D.goes.used) in
    let F : Front l.«open» l.q l.front = body_front ps.result (a.rc.used - 1) a.top l.q l.front l.«open» sized D.goes.ready.one D.goes.ready.most here B in
    let S = array_scopes a.s.now a.b.now l.q l.«open» l.page l.texts l.indent l.ent D.goes.ready (front_current l.«open» l.q l.front F) in
    let N = array_newest a.s.now a.b.now l.q l.«open» l.page l.texts l.indent l.ent D.goes.ready l.front F in
    let v = c.in-Value.v in
    let html = c.in-Value.html in
    let next = c.in-Value.next in
    let A : ShowsAt a.s.now a.b.now l.ent l.front l.q.names l.q.disable_escape a.options (a.d - 1) (l.cur + 16 + 16) html next (shows.Value (decoded v)) = (subst (ShownIs a.s.now a.b.now l.ent l.front l.q.names l.q.disable_escape a.options (a.d - 1) (l.cur + 16 + 16)) c.in-Value.is c.shown_at.ensures) in
    let e = c.decode-u in (h.0.plan, h.0.small, value_known a.s.now a.b.now a.options (a.d - 1) l.cur k₀ l.page l.texts l.indent l.ent D.goes.ready l.front l.q.names l.«open» S N html next (shows.Value (decoded v)) A e.result (ap shows.Value (sym e.ensures)))

pub render_elements-stopped-requires-then-is_some-2 : goal.render_elements-stopped-requires-then-is_some-2
render_elements-stopped-requires-then-is_some-2 t c = let a = c.args in
    let h = c.requires in
    let ps = c.put_scope-open in
    let w : World = world (whole a.rc ps.result) a.page.now a.texts.now a.indent.now a.ent.now in
    let l = c.loop-i in
    let k₀ : RenderContext = whole l.q l.«open» in
    let lw : World = world k₀ l.page l.texts l.indent l.ent in
    let T = template_at 16 a.d (bits a.b.now) a.p in
    let n = c.body_at-body.result.count in
    let z = end (body 16 a.d) (bits a.b.now) a.p in
    let D = l.invariant.0 in
    let B = l.invariant.1 in
    let g = element_here 16 (a.d - 1) (bits a.b.now) n l.i l.cur z D.passed c.loop-i-test.true in
    let k = placed_fits 16 (call_of (param (a.d - 1))) (body 16 (a.d - 1)) (bits a.b.now) l.cur g in
    omega (arith, k, h.0.small, bits_size a.b.now)

pub render_elements-shape_of-ent-then-is_some-2 : goal.render_elements-shape_of-ent-then-is_some-2
render_elements-shape_of-ent-then-is_some-2 t c = omega (arith, c.loop-i.invariant.0.goes.sizes.ent)

pub render_elements-shape_of-page-then-is_some-2 : goal.render_elements-shape_of-page-then-is_some-2
render_elements-shape_of-page-then-is_some-2 t c = omega (arith, c.write_value-w.auto.page, c.put_number-put.auto.page, c.loop-i.invariant.0.goes.sizes.page)

pub render_elements-shape_of-texts-then-is_some-2 : goal.render_elements-shape_of-texts-then-is_some-2
render_elements-shape_of-texts-then-is_some-2 t c = omega (arith, c.write_value-w.auto.texts, c.put_number-put.auto.texts, c.loop-i.invariant.0.goes.sizes.texts)

pub render_elements-shape_of-indent-then-is_some-2 : goal.render_elements-shape_of-indent-then-is_some-2
render_elements-shape_of-indent-then-is_some-2 t c = omega (arith, c.loop-i.invariant.0.goes.sizes.indent)

pub render_elements-returns-then-is_some-2 : goal.render_elements-returns-then-is_some-2
render_elements-returns-then-is_some-2 t c = let a = c.args in
    let h = c.requires in
    let ps = c.put_scope-open in
    let w : World = world (whole a.rc ps.result) a.page.now a.texts.now a.indent.now a.ent.now in
    let l = c.loop-i in
    let k₀ : RenderContext = whole l.q l.«open» in
    let lw : World = world k₀ l.page l.texts l.indent l.ent in
    let T = template_at 16 a.d (bits a.b.now) a.p in
    let n = c.body_at-body.result.count in
    let z = end (body 16 a.d) (bits a.b.now) a.p in
    let D = l.invariant.0 in
    let B = l.invariant.1 in
    let sized : length ps.result ≡ 32 = ap length ps.ensures ∙ array_sized a.s.now a.b.now a.rc (set a.scopes (a.rc.used - 1) a.top) a.page.now a.texts.now a.indent.now a.ent.now h.1 in
    let here : a.rc.used - 1 ≡ l.q.used - 1 = omega (arith, D.goes.used) in
    let F : Front l.«open» l.q l.front = body_front ps.result (a.rc.used - 1) a.top l.q l.front l.«open» sized D.goes.ready.one D.goes.ready.most here B in
    let S = array_scopes a.s.now a.b.now l.q l.«open» l.page l.texts l.indent l.ent D.goes.ready (front_current l.«open» l.q l.front F) in
    let N = array_newest a.s.now a.b.now l.q l.«open» l.page l.texts l.indent l.ent D.goes.ready l.front F in
    let v = c.in-Value.v in
    let html = c.in-Value.html in
    let next = c.in-Value.next in
    let A : ShowsAt a.s.now a.b.now l.ent l.front l.q.names l.q.disable_escape a.options (a.d - 1) (l.cur + 16 + 16) html next (shows.Value (decoded v)) = (subst (ShownIs a.s.now a.b.now l.ent l.front l.q.names l.q.disable_escape a.options (a.d - 1) (l.cur + 16 + 16)) c.in-Value.is c.shown_at.ensures) in
    let p = c.put_number-put in
    let y = c.write_value-w in
    let u = c.wrote-q-then-put-eq0-2 in
    let m : World = world (whole u.result l.«open») y.new.page y.new.texts l.indent l.ent in
    let O : OneDrawn a.s.now a.b.now a.options (a.d - 1) l.cur lw m next =
    one_in a.s.now a.b.now a.options (a.d - 1) l.cur lw (whole u.result l.«open») (wrote k₀ y.result) y.new.page y.new.page y.new.texts y.new.texts l.indent l.ent next (u.ensures l.«open») refl refl
    (value_here a.s.now a.b.now a.options (a.d - 1) l.cur k₀ l.page l.texts l.indent l.ent D.goes.ready l.front l.q.names l.«open» S N html next (shows.Value (decoded v)) A c.decode-u.result (ap shows.Value (sym c.decode-u.ensures)) y.result y.new.page y.new.texts (value_same a.s.now a.b.now c.decode-u.result l.indent (not (html || l.q.disable_escape)) l.q.writer y.result l.page l.texts p.new.page p.new.texts y.new.page y.new.texts (p.ensures.none c.if-put-eq0-2.true) y.ensures)) in
    let X : Renders a.s.now a.b.now a.options w (world (whole c.stopped-then-is_some-2.result l.«open») y.new.page y.new.texts l.indent l.ent) (λ g R. rule.render_elements g R (name_at a.b.now a.name) T) =
    subst (λ (x : RenderContext). Renders a.s.now a.b.now a.options w (over x m) (λ g R. rule.render_elements g R (name_at a.b.now a.name) T)) (sym (c.stopped-then-is_some-2.ensures l.«open»))
    (drawing_stop a.s.now a.b.now a.options (name_at a.b.now a.name) w T (a.d - 1) n z lw l.i l.cur D c.loop-i-test.true (element_view 16 (a.d - 1) (bits a.b.now) l.cur) refl m O.renders a.name refl (some_of _ (sym c.is_some-then-put-eq0-2.ensures ∙ c.if-is_some-2.true))) in
    left_of a.s.now a.b.now a.options a.rc ps.result (set a.scopes (a.rc.used - 1) a.top) a.page.now a.texts.now a.indent.now a.ent.now (λ g R. rule.render_elements g R (name_at a.b.now a.name) T) ps.ensures
    (refused_any a.s.now a.b.now a.options w c.stopped-then-is_some-2.result (set a.scopes (a.rc.used - 1) a.top) l.«open» y.new.page y.new.texts l.indent l.ent (λ g R. rule.render_elements g R (name_at a.b.now a.name) T)
    (λ e. (some_of _ (sym c.is_some-then-put-eq0-2.ensures ∙ c.if-is_some-2.true)) (sym (ap (λ (x : RenderContext). x.bad) (c.stopped-then-is_some-2.ensures l.«open»)) ∙ e)) X)

pub render_elements-behind-w-requires-else-put-eq0-2 : goal.render_elements-behind-w-requires-else-put-eq0-2
render_elements-behind-w-requires-else-put-eq0-2 t c = (c.put_number-put.ensures.some c.if-put-eq0-2.false).fits

pub render_elements-overflow_add-i-in-Value : goal.render_elements-overflow_add-i-in-Value
render_elements-overflow_add-i-in-Value t c = let e = ap (λ x. x.count) c.body_at-body.ensures in let g = field_lt (bits c.args.b.now) (bits_binary c.args.b.now) 12 c.args.p in omega (arith, c.loop-i-test.true, e, g)

pub render_elements-loop-i-smaller-in-Value : goal.render_elements-loop-i-smaller-in-Value
render_elements-loop-i-smaller-in-Value t c = omega (arith, c.loop-i-test.true)

pub render_elements-loop-i-preserved-in-Value : goal.render_elements-loop-i-preserved-in-Value
render_elements-loop-i-preserved-in-Value t c = let a = c.args in
    let h = c.requires in
    let ps = c.put_scope-open in
    let w : World = world (whole a.rc ps.result) a.page.now a.texts.now a.indent.now a.ent.now in
    let l = c.loop-i in
    let k₀ : RenderContext = whole l.q l.«open» in
    let lw : World = world k₀ l.page l.texts l.indent l.ent in
    let T = template_at 16 a.d (bits a.b.now) a.p in
    let n = c.body_at-body.result.count in
    let z = end (body 16 a.d) (bits a.b.now) a.p in
    let D = l.invariant.0 in
    let B = l.invariant.1 in
    let sized : length ps.result ≡ 32 = ap length ps.ensures ∙ array_sized a.s.now a.b.now a.rc (set a.scopes (a.rc.used - 1) a.top) a.page.now a.texts.now a.indent.now a.ent.now h.1 in
    let here : a.rc.used - 1 ≡ l.q.used - 1 = omega (arith, D.goes.used) in
    let F : Front l.«open» l.q l.front = body_front ps.result (a.rc.used - 1) a.top l.q l.front l.«open» sized D.goes.ready.one D.goes.ready.most here B in
    let S = array_scopes a.s.now a.b.now l.q l.«open» l.page l.texts l.indent l.ent D.goes.ready (front_current l.«open» l.q l.front F) in
    let N = array_newest a.s.now a.b.now l.q l.«open» l.page l.texts l.indent l.ent D.goes.ready l.front F in
    let full : length l.«open» ≡ 32 = body_sized ps.result (a.rc.used - 1) a.top l.q l.front l.«open» sized D.goes.ready.one D.goes.ready.most here B in
    let v = c.in-Value.v in
    let html = c.in-Value.html in
    let next = c.in-Value.next in
    let A : ShowsAt a.s.now a.b.now l.ent l.front l.q.names l.q.disable_escape a.options (a.d - 1) (l.cur + 16 + 16) html next (shows.Value (decoded v)) = (subst (ShownIs a.s.now a.b.now l.ent l.front l.q.names l.q.disable_escape a.options (a.d - 1) (l.cur + 16 + 16)) c.in-Value.is c.shown_at.ensures) in
    let p = c.put_number-put in
    let J = c.if-put-eq0-2 in
    let m : World = world (whole J.q l.«open») J.page J.texts l.indent l.ent in
    let O : OneDrawn a.s.now a.b.now a.options (a.d - 1) l.cur lw m next =
    elim J.branch [
      | render_elements-then-put-eq0-2+else-is_some-2 t ↦ one_in a.s.now a.b.now a.options (a.d - 1) l.cur lw (whole J.q l.«open») (wrote k₀ t.write_value-w.result) t.write_value-w.new.page J.page t.write_value-w.new.texts J.texts l.indent l.ent next (ap (λ (x : code.RenderContext). whole x l.«open») t.q-is ∙ t.wrote-q-then-put-eq0-2.ensures l.«open») t.page-is t.texts-is
          (value_here a.s.now a.b.now a.options (a.d - 1) l.cur k₀ l.page l.texts l.indent l.ent D.goes.ready l.front l.q.names l.«open» S N html next (shows.Value (decoded v)) A t.decode-u.result (ap shows.Value (sym t.decode-u.ensures)) t.write_value-w.result t.write_value-w.new.page t.write_value-w.new.texts (value_same a.s.now a.b.now t.decode-u.result l.indent (not (html || l.q.disable_escape)) l.q.writer t.write_value-w.result l.page l.texts p.new.page p.new.texts t.write_value-w.new.page t.write_value-w.new.texts (p.ensures.none t.if-put-eq0-2.true) t.write_value-w.ensures))
      | render_elements-else-put-eq0-2 t ↦ one_in a.s.now a.b.now a.options (a.d - 1) l.cur lw (whole J.q l.«open») (wrote k₀ t.behind-w-else-put-eq0-2.result) p.new.page J.page p.new.texts J.texts l.indent l.ent next (ap (λ (x : code.RenderContext). whole x l.«open») t.q-is ∙ t.set_writer-q-else-put-eq0-2.ensures l.«open» ∙ sym (wrote_all k₀ t.behind-w-else-put-eq0-2.result (ap (λ (x : Writer). x.full) t.behind-w-else-put-eq0-2.ensures ∙ D.goes.ready.sound.goes))) t.page-is t.texts-is
          (value_here a.s.now a.b.now a.options (a.d - 1) l.cur k₀ l.page l.texts l.indent l.ent D.goes.ready l.front l.q.names l.«open» S N html next (shows.Value (decoded v)) A (decoded v) refl t.behind-w-else-put-eq0-2.result p.new.page p.new.texts (value_by a.s.now a.b.now (decoded v) l.indent (not (html || l.q.disable_escape)) l.q.writer t.behind-w-else-put-eq0-2.result l.page l.texts p.new.page p.new.texts (p.result / 256) (p.result % 256) t.behind-w-else-put-eq0-2.ensures (p.ensures.some t.if-put-eq0-2.false) (value_known a.s.now a.b.now a.options (a.d - 1) l.cur k₀ l.page l.texts l.indent l.ent D.goes.ready l.front l.q.names l.«open» S N html next (shows.Value (decoded v)) A (decoded v) refl)))
    ] in
    let C : J.q.count ≡ l.q.count = elim J.branch [
      | render_elements-then-put-eq0-2+else-is_some-2 t ↦ ap (λ (x : code.RenderContext). x.count) t.q-is ∙ count_kept l.q l.«open» full D.goes.ready.one D.goes.ready.most t.wrote-q-then-put-eq0-2.result (wrote k₀ t.write_value-w.result) (t.wrote-q-then-put-eq0-2.ensures l.«open») (wrote_kept k₀ t.write_value-w.result).0 (wrote_kept k₀ t.write_value-w.result).1
      | render_elements-else-put-eq0-2 t ↦ ap (λ (x : code.RenderContext). x.count) t.q-is ∙ count_kept l.q l.«open» full D.goes.ready.one D.goes.ready.most t.set_writer-q-else-put-eq0-2.result (setters.with_writer k₀ t.behind-w-else-put-eq0-2.result) (t.set_writer-q-else-put-eq0-2.ensures l.«open») refl refl
    ] in
    let fine : J.q.bad ≡ None = elim J.branch [
      | render_elements-then-put-eq0-2+else-is_some-2 t ↦ ap (λ (x : code.RenderContext). x.bad) t.q-is ∙ (none_of _ (sym t.is_some-then-put-eq0-2.ensures ∙ t.if-is_some-2.false))
      | render_elements-else-put-eq0-2 t ↦ ap (λ (x : code.RenderContext). x.bad) t.q-is ∙ ap (λ (x : RenderContext). x.bad) (t.set_writer-q-else-put-eq0-2.ensures l.«open») ∙ D.goes.ready.fine
    ] in (
      subst (λ (p : ℕ). Drawing a.s.now a.b.now a.options (name_at a.b.now a.name) T (a.d - 1) n z w m (l.i + 1) p) (sym O.next)
          (drawing_more a.s.now a.b.now a.options (name_at a.b.now a.name) w T (a.d - 1) n z lw l.i l.cur D c.loop-i-test.true (element_view 16 (a.d - 1) (bits a.b.now) l.cur) refl m O.renders fine),
      body_kept ps.result (a.rc.used - 1) a.top l.q J.q l.front l.«open» C B,
    )

pub render_elements-draw_lookup-q-requires : goal.render_elements-draw_lookup-q-requires
render_elements-draw_lookup-q-requires t c = let a = c.args in
    let h = c.requires in
    let ps = c.put_scope-open in
    let w : World = world (whole a.rc ps.result) a.page.now a.texts.now a.indent.now a.ent.now in
    let l = c.loop-i in
    let k₀ : RenderContext = whole l.q l.«open» in
    let lw : World = world k₀ l.page l.texts l.indent l.ent in
    let T = template_at 16 a.d (bits a.b.now) a.p in
    let n = c.body_at-body.result.count in
    let z = end (body 16 a.d) (bits a.b.now) a.p in
    let D = l.invariant.0 in
    let B = l.invariant.1 in
    let sized : length ps.result ≡ 32 = ap length ps.ensures ∙ array_sized a.s.now a.b.now a.rc (set a.scopes (a.rc.used - 1) a.top) a.page.now a.texts.now a.indent.now a.ent.now h.1 in
    let here : a.rc.used - 1 ≡ l.q.used - 1 = omega (arith, D.goes.used) in
    let F : Front l.«open» l.q l.front = body_front ps.result (a.rc.used - 1) a.top l.q l.front l.«open» sized D.goes.ready.one D.goes.ready.most here B in
    let S = array_scopes a.s.now a.b.now l.q l.«open» l.page l.texts l.indent l.ent D.goes.ready (front_current l.«open» l.q l.front F) in
    let N = array_newest a.s.now a.b.now l.q l.«open» l.page l.texts l.indent l.ent D.goes.ready l.front F in
    let v = c.in-Lookup.v in
    let html = c.in-Lookup.html in
    let before = c.in-Lookup.before in
    let next = c.in-Lookup.next in
    let A : LookupAt a.s.now a.b.now l.ent l.front l.q.names l.q.disable_escape a.options (a.d - 1) (l.cur + 16 + 16) v html before next = subst (ShownIs a.s.now a.b.now l.ent l.front l.q.names l.q.disable_escape a.options (a.d - 1) (l.cur + 16 + 16)) c.in-Lookup.is c.shown_at.ensures in
    (h.0.plan, h.0.small, lookup_known a.s.now a.b.now a.options (a.d - 1) l.cur k₀ l.page l.texts l.indent l.ent D.goes.ready l.front l.q.names l.«open» S N v html before next A)

pub render_elements-stopped-requires-then-is_some-3 : goal.render_elements-stopped-requires-then-is_some-3
render_elements-stopped-requires-then-is_some-3 t c = let a = c.args in
    let h = c.requires in
    let ps = c.put_scope-open in
    let w : World = world (whole a.rc ps.result) a.page.now a.texts.now a.indent.now a.ent.now in
    let l = c.loop-i in
    let k₀ : RenderContext = whole l.q l.«open» in
    let lw : World = world k₀ l.page l.texts l.indent l.ent in
    let T = template_at 16 a.d (bits a.b.now) a.p in
    let n = c.body_at-body.result.count in
    let z = end (body 16 a.d) (bits a.b.now) a.p in
    let D = l.invariant.0 in
    let B = l.invariant.1 in
    let g = element_here 16 (a.d - 1) (bits a.b.now) n l.i l.cur z D.passed c.loop-i-test.true in
    let k = placed_fits 16 (call_of (param (a.d - 1))) (body 16 (a.d - 1)) (bits a.b.now) l.cur g in
    omega (arith, k, h.0.small, bits_size a.b.now)

pub render_elements-shape_of-ent-then-is_some-3 : goal.render_elements-shape_of-ent-then-is_some-3
render_elements-shape_of-ent-then-is_some-3 t c = omega (arith, c.loop-i.invariant.0.goes.sizes.ent)

pub render_elements-shape_of-page-then-is_some-3 : goal.render_elements-shape_of-page-then-is_some-3
render_elements-shape_of-page-then-is_some-3 t c = omega (arith, c.draw_lookup-q.auto.page, c.loop-i.invariant.0.goes.sizes.page)

pub render_elements-shape_of-texts-then-is_some-3 : goal.render_elements-shape_of-texts-then-is_some-3
render_elements-shape_of-texts-then-is_some-3 t c = omega (arith, c.draw_lookup-q.auto.texts, c.loop-i.invariant.0.goes.sizes.texts)

pub render_elements-shape_of-indent-then-is_some-3 : goal.render_elements-shape_of-indent-then-is_some-3
render_elements-shape_of-indent-then-is_some-3 t c = omega (arith, c.loop-i.invariant.0.goes.sizes.indent)

pub render_elements-returns-then-is_some-3 : goal.render_elements-returns-then-is_some-3
render_elements-returns-then-is_some-3 t c = let a = c.args in
    let h = c.requires in
    let ps = c.put_scope-open in
    let w : World = world (whole a.rc ps.result) a.page.now a.texts.now a.indent.now a.ent.now in
    let l = c.loop-i in
    let k₀ : RenderContext = whole l.q l.«open» in
    let lw : World = world k₀ l.page l.texts l.indent l.ent in
    let T = template_at 16 a.d (bits a.b.now) a.p in
    let n = c.body_at-body.result.count in
    let z = end (body 16 a.d) (bits a.b.now) a.p in
    let D = l.invariant.0 in
    let B = l.invariant.1 in
    let sized : length ps.result ≡ 32 = ap length ps.ensures ∙ array_sized a.s.now a.b.now a.rc (set a.scopes (a.rc.used - 1) a.top) a.page.now a.texts.now a.indent.now a.ent.now h.1 in
    let here : a.rc.used - 1 ≡ l.q.used - 1 = omega (arith, D.goes.used) in
    let F : Front l.«open» l.q l.front = body_front ps.result (a.rc.used - 1) a.top l.q l.front l.«open» sized D.goes.ready.one D.goes.ready.most here B in
    let v = c.in-Lookup.v in
    let html = c.in-Lookup.html in
    let before = c.in-Lookup.before in
    let next = c.in-Lookup.next in
    let A : LookupAt a.s.now a.b.now l.ent l.front l.q.names l.q.disable_escape a.options (a.d - 1) (l.cur + 16 + 16) v html before next = subst (ShownIs a.s.now a.b.now l.ent l.front l.q.names l.q.disable_escape a.options (a.d - 1) (l.cur + 16 + 16)) c.in-Lookup.is c.shown_at.ensures in
    let y = c.draw_lookup-q in
    let m : World = world (whole y.result l.«open») y.new.page y.new.texts l.indent l.ent in
    let O : OneDrawn a.s.now a.b.now a.options (a.d - 1) l.cur lw m next = y.ensures.one_drawn l.«open» l.ent l.front a.options (a.d - 1) l.cur next F D.goes.ready A in
    let X : Renders a.s.now a.b.now a.options w (world (whole c.stopped-then-is_some-3.result l.«open») y.new.page y.new.texts l.indent l.ent) (λ g R. rule.render_elements g R (name_at a.b.now a.name) T) =
    subst (λ (x : RenderContext). Renders a.s.now a.b.now a.options w (over x m) (λ g R. rule.render_elements g R (name_at a.b.now a.name) T)) (sym (c.stopped-then-is_some-3.ensures l.«open»))
    (drawing_stop a.s.now a.b.now a.options (name_at a.b.now a.name) w T (a.d - 1) n z lw l.i l.cur D c.loop-i-test.true (element_view 16 (a.d - 1) (bits a.b.now) l.cur) refl m O.renders a.name refl (some_of _ (sym c.is_some-in-Lookup.ensures ∙ c.if-is_some-3.true))) in
    left_of a.s.now a.b.now a.options a.rc ps.result (set a.scopes (a.rc.used - 1) a.top) a.page.now a.texts.now a.indent.now a.ent.now (λ g R. rule.render_elements g R (name_at a.b.now a.name) T) ps.ensures
    (refused_any a.s.now a.b.now a.options w c.stopped-then-is_some-3.result (set a.scopes (a.rc.used - 1) a.top) l.«open» y.new.page y.new.texts l.indent l.ent (λ g R. rule.render_elements g R (name_at a.b.now a.name) T)
    (λ e. (some_of _ (sym c.is_some-in-Lookup.ensures ∙ c.if-is_some-3.true)) (sym (ap (λ (x : RenderContext). x.bad) (c.stopped-then-is_some-3.ensures l.«open»)) ∙ e)) X)

pub render_elements-overflow_add-i-in-Lookup : goal.render_elements-overflow_add-i-in-Lookup
render_elements-overflow_add-i-in-Lookup t c = let e = ap (λ x. x.count) c.body_at-body.ensures in let g = field_lt (bits c.args.b.now) (bits_binary c.args.b.now) 12 c.args.p in omega (arith, c.loop-i-test.true, e, g)

pub render_elements-loop-i-smaller-in-Lookup : goal.render_elements-loop-i-smaller-in-Lookup
render_elements-loop-i-smaller-in-Lookup t c = omega (arith, c.loop-i-test.true)

pub render_elements-loop-i-preserved-in-Lookup : goal.render_elements-loop-i-preserved-in-Lookup
render_elements-loop-i-preserved-in-Lookup t c = let a = c.args in
    let h = c.requires in
    let ps = c.put_scope-open in
    let w : World = world (whole a.rc ps.result) a.page.now a.texts.now a.indent.now a.ent.now in
    let l = c.loop-i in
    let k₀ : RenderContext = whole l.q l.«open» in
    let lw : World = world k₀ l.page l.texts l.indent l.ent in
    let T = template_at 16 a.d (bits a.b.now) a.p in
    let n = c.body_at-body.result.count in
    let z = end (body 16 a.d) (bits a.b.now) a.p in
    let D = l.invariant.0 in
    let B = l.invariant.1 in
    let sized : length ps.result ≡ 32 = ap length ps.ensures ∙ array_sized a.s.now a.b.now a.rc (set a.scopes (a.rc.used - 1) a.top) a.page.now a.texts.now a.indent.now a.ent.now h.1 in
    let here : a.rc.used - 1 ≡ l.q.used - 1 = omega (arith, D.goes.used) in
    let F : Front l.«open» l.q l.front = body_front ps.result (a.rc.used - 1) a.top l.q l.front l.«open» sized D.goes.ready.one D.goes.ready.most here B in
    let full : length l.«open» ≡ 32 = body_sized ps.result (a.rc.used - 1) a.top l.q l.front l.«open» sized D.goes.ready.one D.goes.ready.most here B in
    let v = c.in-Lookup.v in
    let html = c.in-Lookup.html in
    let before = c.in-Lookup.before in
    let next = c.in-Lookup.next in
    let A : LookupAt a.s.now a.b.now l.ent l.front l.q.names l.q.disable_escape a.options (a.d - 1) (l.cur + 16 + 16) v html before next = subst (ShownIs a.s.now a.b.now l.ent l.front l.q.names l.q.disable_escape a.options (a.d - 1) (l.cur + 16 + 16)) c.in-Lookup.is c.shown_at.ensures in
    let y = c.draw_lookup-q in
    let m : World = world (whole y.result l.«open») y.new.page y.new.texts l.indent l.ent in
    let O : OneDrawn a.s.now a.b.now a.options (a.d - 1) l.cur lw m next = y.ensures.one_drawn l.«open» l.ent l.front a.options (a.d - 1) l.cur next F D.goes.ready A in
    let C : y.result.count ≡ l.q.count = count_kept l.q l.«open» full D.goes.ready.one D.goes.ready.most y.result (left_by k₀ before y.ensures.helper_wrote.behind) (y.ensures.helper_wrote.is l.«open») (left_kept k₀ before y.ensures.helper_wrote.behind).0 (left_kept k₀ before y.ensures.helper_wrote.behind).1 in (
      subst (λ (p : ℕ). Drawing a.s.now a.b.now a.options (name_at a.b.now a.name) T (a.d - 1) n z w m (l.i + 1) p) (sym O.next)
          (drawing_more a.s.now a.b.now a.options (name_at a.b.now a.name) w T (a.d - 1) n z lw l.i l.cur D c.loop-i-test.true (element_view 16 (a.d - 1) (bits a.b.now) l.cur) refl m O.renders (none_of _ (sym c.is_some-in-Lookup.ensures ∙ c.if-is_some-3.false))),
      body_kept ps.result (a.rc.used - 1) a.top l.q y.result l.front l.«open» C B,
    )

pub render_elements-overflow_add-i-in-Nothing : goal.render_elements-overflow_add-i-in-Nothing
render_elements-overflow_add-i-in-Nothing t c = let e = ap (λ x. x.count) c.body_at-body.ensures in let g = field_lt (bits c.args.b.now) (bits_binary c.args.b.now) 12 c.args.p in omega (arith, c.loop-i-test.true, e, g)

pub render_elements-loop-i-smaller-in-Nothing : goal.render_elements-loop-i-smaller-in-Nothing
render_elements-loop-i-smaller-in-Nothing t c = omega (arith, c.loop-i-test.true)

pub render_elements-loop-i-preserved-in-Nothing : goal.render_elements-loop-i-preserved-in-Nothing
render_elements-loop-i-preserved-in-Nothing t c = let a = c.args in
    let h = c.requires in
    let ps = c.put_scope-open in
    let w : World = world (whole a.rc ps.result) a.page.now a.texts.now a.indent.now a.ent.now in
    let l = c.loop-i in
    let k₀ : RenderContext = whole l.q l.«open» in
    let lw : World = world k₀ l.page l.texts l.indent l.ent in
    let T = template_at 16 a.d (bits a.b.now) a.p in
    let n = c.body_at-body.result.count in
    let z = end (body 16 a.d) (bits a.b.now) a.p in
    let D = l.invariant.0 in
    let B = l.invariant.1 in
    let sized : length ps.result ≡ 32 = ap length ps.ensures ∙ array_sized a.s.now a.b.now a.rc (set a.scopes (a.rc.used - 1) a.top) a.page.now a.texts.now a.indent.now a.ent.now h.1 in
    let here : a.rc.used - 1 ≡ l.q.used - 1 = omega (arith, D.goes.used) in
    let F : Front l.«open» l.q l.front = body_front ps.result (a.rc.used - 1) a.top l.q l.front l.«open» sized D.goes.ready.one D.goes.ready.most here B in
    let S = array_scopes a.s.now a.b.now l.q l.«open» l.page l.texts l.indent l.ent D.goes.ready (front_current l.«open» l.q l.front F) in
    let N = array_newest a.s.now a.b.now l.q l.«open» l.page l.texts l.indent l.ent D.goes.ready l.front F in
    let next = c.in-Nothing.next in
    let A : (html : Bool) × ShowsAt a.s.now a.b.now l.ent l.front l.q.names l.q.disable_escape a.options (a.d - 1) (l.cur + 16 + 16) html next shows.Nothing = (subst (ShownIs a.s.now a.b.now l.ent l.front l.q.names l.q.disable_escape a.options (a.d - 1) (l.cur + 16 + 16)) c.in-Nothing.is c.shown_at.ensures) in
    let O : OneDrawn a.s.now a.b.now a.options (a.d - 1) l.cur lw lw next = nothing_here a.s.now a.b.now a.options (a.d - 1) l.cur k₀ l.page l.texts l.indent l.ent D.goes.ready l.front l.q.names l.«open» S N A.0 next shows.Nothing A.1 refl in (
      subst (λ (p : ℕ). Drawing a.s.now a.b.now a.options (name_at a.b.now a.name) T (a.d - 1) n z w lw (l.i + 1) p) (sym O.next)
          (drawing_more a.s.now a.b.now a.options (name_at a.b.now a.name) w T (a.d - 1) n z lw l.i l.cur D c.loop-i-test.true (element_view 16 (a.d - 1) (bits a.b.now) l.cur) refl lw O.renders D.goes.ready.fine),
      B,
    )

pub render_elements-stopped-requires-in-Bad : goal.render_elements-stopped-requires-in-Bad
render_elements-stopped-requires-in-Bad t c = let a = c.args in
    let h = c.requires in
    let ps = c.put_scope-open in
    let w : World = world (whole a.rc ps.result) a.page.now a.texts.now a.indent.now a.ent.now in
    let l = c.loop-i in
    let k₀ : RenderContext = whole l.q l.«open» in
    let lw : World = world k₀ l.page l.texts l.indent l.ent in
    let T = template_at 16 a.d (bits a.b.now) a.p in
    let n = c.body_at-body.result.count in
    let z = end (body 16 a.d) (bits a.b.now) a.p in
    let D = l.invariant.0 in
    let B = l.invariant.1 in
    let g = element_here 16 (a.d - 1) (bits a.b.now) n l.i l.cur z D.passed c.loop-i-test.true in
    let k = placed_fits 16 (call_of (param (a.d - 1))) (body 16 (a.d - 1)) (bits a.b.now) l.cur g in
    omega (arith, k, h.0.small, bits_size a.b.now)

pub render_elements-shape_of-ent-in-Bad : goal.render_elements-shape_of-ent-in-Bad
render_elements-shape_of-ent-in-Bad t c = omega (arith, c.loop-i.invariant.0.goes.sizes.ent)

pub render_elements-shape_of-page-in-Bad : goal.render_elements-shape_of-page-in-Bad
render_elements-shape_of-page-in-Bad t c = omega (arith, c.loop-i.invariant.0.goes.sizes.page)

pub render_elements-shape_of-texts-in-Bad : goal.render_elements-shape_of-texts-in-Bad
render_elements-shape_of-texts-in-Bad t c = omega (arith, c.loop-i.invariant.0.goes.sizes.texts)

pub render_elements-shape_of-indent-in-Bad : goal.render_elements-shape_of-indent-in-Bad
render_elements-shape_of-indent-in-Bad t c = omega (arith, c.loop-i.invariant.0.goes.sizes.indent)

pub render_elements-returns-in-Bad : goal.render_elements-returns-in-Bad
render_elements-returns-in-Bad t c = let a = c.args in
    let h = c.requires in
    let ps = c.put_scope-open in
    let w : World = world (whole a.rc ps.result) a.page.now a.texts.now a.indent.now a.ent.now in
    let l = c.loop-i in
    let k₀ : RenderContext = whole l.q l.«open» in
    let lw : World = world k₀ l.page l.texts l.indent l.ent in
    let T = template_at 16 a.d (bits a.b.now) a.p in
    let n = c.body_at-body.result.count in
    let z = end (body 16 a.d) (bits a.b.now) a.p in
    let D = l.invariant.0 in
    let B = l.invariant.1 in
    let sized : length ps.result ≡ 32 = ap length ps.ensures ∙ array_sized a.s.now a.b.now a.rc (set a.scopes (a.rc.used - 1) a.top) a.page.now a.texts.now a.indent.now a.ent.now h.1 in
    let here : a.rc.used - 1 ≡ l.q.used - 1 = omega (arith, D.goes.used) in
    let F : Front l.«open» l.q l.front = body_front ps.result (a.rc.used - 1) a.top l.q l.front l.«open» sized D.goes.ready.one D.goes.ready.most here B in
    let S = array_scopes a.s.now a.b.now l.q l.«open» l.page l.texts l.indent l.ent D.goes.ready (front_current l.«open» l.q l.front F) in
    let N = array_newest a.s.now a.b.now l.q l.«open» l.page l.texts l.indent l.ent D.goes.ready l.front F in
    let j = c.in-Bad.reason in
    let A : (html : Bool) × (next : ℕ) × ShowsAt a.s.now a.b.now l.ent l.front l.q.names l.q.disable_escape a.options (a.d - 1) (l.cur + 16 + 16) html next (shows.Bad j) = (subst (ShownIs a.s.now a.b.now l.ent l.front l.q.names l.q.disable_escape a.options (a.d - 1) (l.cur + 16 + 16)) c.in-Bad.is c.shown_at.ensures) in
    let u = c.failed in
    let m : World = world (whole u.result l.«open») l.page l.texts l.indent l.ent in
    let O : OneDrawn a.s.now a.b.now a.options (a.d - 1) l.cur lw m A.1 =
    one_in a.s.now a.b.now a.options (a.d - 1) l.cur lw (whole u.result l.«open») (setters.failed k₀ (Some j)) l.page l.page l.texts l.texts l.indent l.ent A.1 (u.ensures l.«open») refl refl
    (refused_here a.s.now a.b.now a.options (a.d - 1) l.cur k₀ l.page l.texts l.indent l.ent D.goes.ready l.front l.q.names l.«open» S N A.0 A.1 (shows.Bad j) A.2 j refl) in
    let nb : u.result.bad ≡ None → ⊥ = not_none j (ap (λ (x : RenderContext). x.bad) (u.ensures l.«open»)) in
    let X : Renders a.s.now a.b.now a.options w (world (whole c.stopped-in-Bad.result l.«open») l.page l.texts l.indent l.ent) (λ g R. rule.render_elements g R (name_at a.b.now a.name) T) =
    subst (λ (x : RenderContext). Renders a.s.now a.b.now a.options w (over x m) (λ g R. rule.render_elements g R (name_at a.b.now a.name) T)) (sym (c.stopped-in-Bad.ensures l.«open»))
    (drawing_stop a.s.now a.b.now a.options (name_at a.b.now a.name) w T (a.d - 1) n z lw l.i l.cur D c.loop-i-test.true (element_view 16 (a.d - 1) (bits a.b.now) l.cur) refl m O.renders a.name refl nb) in
    left_of a.s.now a.b.now a.options a.rc ps.result (set a.scopes (a.rc.used - 1) a.top) a.page.now a.texts.now a.indent.now a.ent.now (λ g R. rule.render_elements g R (name_at a.b.now a.name) T) ps.ensures
    (refused_any a.s.now a.b.now a.options w c.stopped-in-Bad.result (set a.scopes (a.rc.used - 1) a.top) l.«open» l.page l.texts l.indent l.ent (λ g R. rule.render_elements g R (name_at a.b.now a.name) T)
    (λ e. nb (sym (ap (λ (x : RenderContext). x.bad) (c.stopped-in-Bad.ensures l.«open»)) ∙ e)) X)

pub render_elements-overflow_add-cur-in-loop-i : goal.render_elements-overflow_add-cur-in-loop-i
render_elements-overflow_add-cur-in-loop-i t c = let a = c.args in
    let h = c.requires in
    let ps = c.put_scope-open in
    let w : World = world (whole a.rc ps.result) a.page.now a.texts.now a.indent.now a.ent.now in
    let l = c.loop-i in
    let k₀ : RenderContext = whole l.q l.«open» in
    let lw : World = world k₀ l.page l.texts l.indent l.ent in
    let T = template_at 16 a.d (bits a.b.now) a.p in
    let n = c.body_at-body.result.count in
    let z = end (body 16 a.d) (bits a.b.now) a.p in
    let D = l.invariant.0 in
    let B = l.invariant.1 in
    let g = element_here 16 (a.d - 1) (bits a.b.now) n l.i l.cur z D.passed c.loop-i-test.true in
    let k = placed_fits 16 (call_of (param (a.d - 1))) (body 16 (a.d - 1)) (bits a.b.now) l.cur g in
    omega (arith, k, h.0.small, bits_size a.b.now)

pub render_elements-overflow_add-cur-in-loop-i-2 : goal.render_elements-overflow_add-cur-in-loop-i-2
render_elements-overflow_add-cur-in-loop-i-2 t c = let a = c.args in
    let h = c.requires in
    let ps = c.put_scope-open in
    let w : World = world (whole a.rc ps.result) a.page.now a.texts.now a.indent.now a.ent.now in
    let l = c.loop-i in
    let k₀ : RenderContext = whole l.q l.«open» in
    let lw : World = world k₀ l.page l.texts l.indent l.ent in
    let T = template_at 16 a.d (bits a.b.now) a.p in
    let n = c.body_at-body.result.count in
    let z = end (body 16 a.d) (bits a.b.now) a.p in
    let D = l.invariant.0 in
    let B = l.invariant.1 in
    let g = element_here 16 (a.d - 1) (bits a.b.now) n l.i l.cur z D.passed c.loop-i-test.true in
    let k = placed_fits 16 (call_of (param (a.d - 1))) (body 16 (a.d - 1)) (bits a.b.now) l.cur g in
    omega (arith, k, h.0.small, bits_size a.b.now)

pub render_elements-overflow_sub-d-in-loop-i : goal.render_elements-overflow_sub-d-in-loop-i
render_elements-overflow_sub-d-in-loop-i t c = let k = (body_stands 16 c.args.d (bits c.args.b.now) c.args.p c.requires.3).deep in search rules

pub render_elements-content_at-e-requires : goal.render_elements-content_at-e-requires
render_elements-content_at-e-requires t c = let a = c.args in
    let h = c.requires in
    let ps = c.put_scope-open in
    let w : World = world (whole a.rc ps.result) a.page.now a.texts.now a.indent.now a.ent.now in
    let l = c.loop-i in
    let k₀ : RenderContext = whole l.q l.«open» in
    let lw : World = world k₀ l.page l.texts l.indent l.ent in
    let T = template_at 16 a.d (bits a.b.now) a.p in
    let n = c.body_at-body.result.count in
    let z = end (body 16 a.d) (bits a.b.now) a.p in
    let D = l.invariant.0 in
    let B = l.invariant.1 in
    let g = element_here 16 (a.d - 1) (bits a.b.now) n l.i l.cur z D.passed c.loop-i-test.true in
    (h.0.small, placed_holds 16 (call_of (param (a.d - 1))) (body 16 (a.d - 1)) (bits a.b.now) l.cur g)

pub render_elements-overflow_sub-d-in-loop-i-2 : goal.render_elements-overflow_sub-d-in-loop-i-2
render_elements-overflow_sub-d-in-loop-i-2 t c = let k = (body_stands 16 c.args.d (bits c.args.b.now) c.args.p c.requires.3).deep in search rules

pub render_elements-render_element-q-requires : goal.render_elements-render_element-q-requires
render_elements-render_element-q-requires t c = let a = c.args in
    let h = c.requires in
    let ps = c.put_scope-open in
    let w : World = world (whole a.rc ps.result) a.page.now a.texts.now a.indent.now a.ent.now in
    let l = c.loop-i in
    let k₀ : RenderContext = whole l.q l.«open» in
    let lw : World = world k₀ l.page l.texts l.indent l.ent in
    let T = template_at 16 a.d (bits a.b.now) a.p in
    let n = c.body_at-body.result.count in
    let z = end (body 16 a.d) (bits a.b.now) a.p in
    let D = l.invariant.0 in
    let B = l.invariant.1 in
    let sized : length ps.result ≡ 32 = ap length ps.ensures ∙ array_sized a.s.now a.b.now a.rc (set a.scopes (a.rc.used - 1) a.top) a.page.now a.texts.now a.indent.now a.ent.now h.1 in
    let here : a.rc.used - 1 ≡ l.q.used - 1 = omega (arith, D.goes.used) in
    let F : Front l.«open» l.q l.front = body_front ps.result (a.rc.used - 1) a.top l.q l.front l.«open» sized D.goes.ready.one D.goes.ready.most here B in
    let g = element_here 16 (a.d - 1) (bits a.b.now) n l.i l.cur z D.passed c.loop-i-test.true in
    let k = (body_stands 16 a.d (bits a.b.now) a.p h.3).deep in
    let u : l.q.used ≡ a.rc.used = D.goes.used in
    let e = element_read 16 (a.d - 1) (bits a.b.now) l.cur g (placed_element 16 (bits a.b.now) l.cur c.content_at-e.result) (placed_element_is 16 (a.d - 1) (bits a.b.now) l.cur c.content_at-e.result c.content_at-e.ensures) in
    (omega (arith, u, k, c.decreases), (h.0, D.goes.ready, omega (arith, k, h.2), e.parts, F))

pub render_elements-stopped-requires-then-is_some-4 : goal.render_elements-stopped-requires-then-is_some-4
render_elements-stopped-requires-then-is_some-4 t c = let a = c.args in
    let h = c.requires in
    let ps = c.put_scope-open in
    let w : World = world (whole a.rc ps.result) a.page.now a.texts.now a.indent.now a.ent.now in
    let l = c.loop-i in
    let k₀ : RenderContext = whole l.q l.«open» in
    let lw : World = world k₀ l.page l.texts l.indent l.ent in
    let T = template_at 16 a.d (bits a.b.now) a.p in
    let n = c.body_at-body.result.count in
    let z = end (body 16 a.d) (bits a.b.now) a.p in
    let D = l.invariant.0 in
    let B = l.invariant.1 in
    let g = element_here 16 (a.d - 1) (bits a.b.now) n l.i l.cur z D.passed c.loop-i-test.true in
    let k = placed_fits 16 (call_of (param (a.d - 1))) (body 16 (a.d - 1)) (bits a.b.now) l.cur g in
    omega (arith, k, h.0.small, bits_size a.b.now)

pub render_elements-shape_of-ent-then-is_some-4 : goal.render_elements-shape_of-ent-then-is_some-4
render_elements-shape_of-ent-then-is_some-4 t c = omega (arith, c.render_element-q.auto.ent, c.loop-i.invariant.0.goes.sizes.ent)

pub render_elements-shape_of-page-then-is_some-4 : goal.render_elements-shape_of-page-then-is_some-4
render_elements-shape_of-page-then-is_some-4 t c = omega (arith, c.render_element-q.auto.page, c.loop-i.invariant.0.goes.sizes.page)

pub render_elements-shape_of-texts-then-is_some-4 : goal.render_elements-shape_of-texts-then-is_some-4
render_elements-shape_of-texts-then-is_some-4 t c = omega (arith, c.render_element-q.auto.texts, c.loop-i.invariant.0.goes.sizes.texts)

pub render_elements-shape_of-indent-then-is_some-4 : goal.render_elements-shape_of-indent-then-is_some-4
render_elements-shape_of-indent-then-is_some-4 t c = omega (arith, c.render_element-q.auto.indent, c.loop-i.invariant.0.goes.sizes.indent)

pub render_elements-returns-then-is_some-4 : goal.render_elements-returns-then-is_some-4
render_elements-returns-then-is_some-4 t c = let a = c.args in
    let h = c.requires in
    let ps = c.put_scope-open in
    let w : World = world (whole a.rc ps.result) a.page.now a.texts.now a.indent.now a.ent.now in
    let l = c.loop-i in
    let k₀ : RenderContext = whole l.q l.«open» in
    let lw : World = world k₀ l.page l.texts l.indent l.ent in
    let T = template_at 16 a.d (bits a.b.now) a.p in
    let n = c.body_at-body.result.count in
    let z = end (body 16 a.d) (bits a.b.now) a.p in
    let D = l.invariant.0 in
    let B = l.invariant.1 in
    let v = placed_element 16 (bits a.b.now) l.cur c.content_at-e.result in
    let y = c.render_element-q in
    let l₂ : World = world (whole y.result l.«open») y.new.page y.new.texts y.new.indent y.new.ent in
    let X : Renders a.s.now a.b.now a.options w (world (whole c.stopped-then-is_some-4.result l.«open») y.new.page y.new.texts y.new.indent y.new.ent) (λ g R. rule.render_elements g R (name_at a.b.now a.name) T) =
    subst (λ (x : RenderContext). Renders a.s.now a.b.now a.options w (over x l₂) (λ g R. rule.render_elements g R (name_at a.b.now a.name) T)) (sym (c.stopped-then-is_some-4.ensures l.«open»))
    (drawing_stop a.s.now a.b.now a.options (name_at a.b.now a.name) w T (a.d - 1) n z lw l.i l.cur D c.loop-i-test.true v (placed_element_is 16 (a.d - 1) (bits a.b.now) l.cur c.content_at-e.result c.content_at-e.ensures) l₂ y.ensures a.name refl (some_of _ (sym c.is_some-in-loop-i.ensures ∙ c.if-is_some-4.true))) in
    left_of a.s.now a.b.now a.options a.rc ps.result (set a.scopes (a.rc.used - 1) a.top) a.page.now a.texts.now a.indent.now a.ent.now (λ g R. rule.render_elements g R (name_at a.b.now a.name) T) ps.ensures
    (refused_any a.s.now a.b.now a.options w c.stopped-then-is_some-4.result (set a.scopes (a.rc.used - 1) a.top) l.«open» y.new.page y.new.texts y.new.indent y.new.ent (λ g R. rule.render_elements g R (name_at a.b.now a.name) T)
    (λ e. (some_of _ (sym c.is_some-in-loop-i.ensures ∙ c.if-is_some-4.true)) (sym (ap (λ (x : RenderContext). x.bad) (c.stopped-then-is_some-4.ensures l.«open»)) ∙ e)) X)

pub render_elements-overflow_add-i-in-loop-i : goal.render_elements-overflow_add-i-in-loop-i
render_elements-overflow_add-i-in-loop-i t c = let e = ap (λ x. x.count) c.body_at-body.ensures in let g = field_lt (bits c.args.b.now) (bits_binary c.args.b.now) 12 c.args.p in omega (arith, c.loop-i-test.true, e, g)

pub render_elements-overflow_cast-front : goal.render_elements-overflow_cast-front
render_elements-overflow_cast-front t c = let a = c.args in
    let h = c.requires in
    let ps = c.put_scope-open in
    let w : World = world (whole a.rc ps.result) a.page.now a.texts.now a.indent.now a.ent.now in
    let l = c.loop-i in
    let k₀ : RenderContext = whole l.q l.«open» in
    let lw : World = world k₀ l.page l.texts l.indent l.ent in
    let T = template_at 16 a.d (bits a.b.now) a.p in
    let n = c.body_at-body.result.count in
    let z = end (body 16 a.d) (bits a.b.now) a.p in
    let D = l.invariant.0 in
    let B = l.invariant.1 in
    let c = count_small a.s.now a.b.now l.q l.«open» l.page l.texts l.indent l.ent D.goes.ready in
    let e : l.front.count ≡ l.q.count = ap (λ (x : Scope). x.count) B.newest in
    omega (arith, c, e)

pub render_elements-with_count-front-requires : goal.render_elements-with_count-front-requires
render_elements-with_count-front-requires t c = let a = c.args in
    let h = c.requires in
    let ps = c.put_scope-open in
    let w : World = world (whole a.rc ps.result) a.page.now a.texts.now a.indent.now a.ent.now in
    let l = c.loop-i in
    let k₀ : RenderContext = whole l.q l.«open» in
    let lw : World = world k₀ l.page l.texts l.indent l.ent in
    let T = template_at 16 a.d (bits a.b.now) a.p in
    let n = c.body_at-body.result.count in
    let z = end (body 16 a.d) (bits a.b.now) a.p in
    let D = l.invariant.0 in
    let B = l.invariant.1 in
    let v = placed_element 16 (bits a.b.now) l.cur c.content_at-e.result in
    let y = c.render_element-q in
    let l₂ : World = world (whole y.result l.«open») y.new.page y.new.texts y.new.indent y.new.ent in
    let go = ((y.ensures.at 32 (omega arith)).fine (none_of _ (sym c.is_some-in-loop-i.ensures ∙ c.if-is_some-4.false))).goes in
    let c = count_small a.s.now a.b.now y.result l.«open» y.new.page y.new.texts y.new.indent y.new.ent go.ready in
    omega (arith, c)

pub render_elements-put_scope-counted-requires : goal.render_elements-put_scope-counted-requires
render_elements-put_scope-counted-requires t c = let h = c.requires in omega (arith, h.1.one, h.1.most)

pub render_elements-loop-i-smaller-then-q-front : goal.render_elements-loop-i-smaller-then-q-front
render_elements-loop-i-smaller-then-q-front t c = omega (arith, c.loop-i-test.true)

pub render_elements-loop-i-preserved-then-q-front : goal.render_elements-loop-i-preserved-then-q-front
render_elements-loop-i-preserved-then-q-front t c = let a = c.args in
    let h = c.requires in
    let ps = c.put_scope-open in
    let w : World = world (whole a.rc ps.result) a.page.now a.texts.now a.indent.now a.ent.now in
    let l = c.loop-i in
    let k₀ : RenderContext = whole l.q l.«open» in
    let lw : World = world k₀ l.page l.texts l.indent l.ent in
    let T = template_at 16 a.d (bits a.b.now) a.p in
    let n = c.body_at-body.result.count in
    let z = end (body 16 a.d) (bits a.b.now) a.p in
    let D = l.invariant.0 in
    let B = l.invariant.1 in
    let sized : length ps.result ≡ 32 = ap length ps.ensures ∙ array_sized a.s.now a.b.now a.rc (set a.scopes (a.rc.used - 1) a.top) a.page.now a.texts.now a.indent.now a.ent.now h.1 in
    let here : a.rc.used - 1 ≡ l.q.used - 1 = omega (arith, D.goes.used) in
    let F : Front l.«open» l.q l.front = body_front ps.result (a.rc.used - 1) a.top l.q l.front l.«open» sized D.goes.ready.one D.goes.ready.most here B in
    let v = placed_element 16 (bits a.b.now) l.cur c.content_at-e.result in
    let y = c.render_element-q in
    let l₂ : World = world (whole y.result l.«open») y.new.page y.new.texts y.new.indent y.new.ent in
    let go = ((y.ensures.at 32 (omega arith)).fine (none_of _ (sym c.is_some-in-loop-i.ensures ∙ c.if-is_some-4.false))).goes in
    let f = c.with_count-front in
    let ps₂ = c.put_scope-counted in
    let same = body_same ps.result (a.rc.used - 1) a.top l.q y.result l.front l.«open» sized D.goes.ready.one D.goes.ready.most here go.used B f.result ps₂.result f.ensures ps₂.ensures in (
      subst (λ (x : RenderContext). Drawing a.s.now a.b.now a.options (name_at a.b.now a.name) T (a.d - 1) n z w (world x y.new.page y.new.texts y.new.indent y.new.ent) (l.i + 1) c.content_at-e.result.next) (sym same)
          (drawing_more a.s.now a.b.now a.options (name_at a.b.now a.name) w T (a.d - 1) n z lw l.i l.cur D c.loop-i-test.true v (placed_element_is 16 (a.d - 1) (bits a.b.now) l.cur c.content_at-e.result c.content_at-e.ensures) l₂ y.ensures (none_of _ (sym c.is_some-in-loop-i.ensures ∙ c.if-is_some-4.false))),
      body_gained ps.result (a.rc.used - 1) a.top l.q y.result l.front l.«open» sized D.goes.ready.one D.goes.ready.most here go.used B f.result ps₂.result f.ensures ps₂.ensures,
    )

pub render_elements-loop-i-smaller : goal.render_elements-loop-i-smaller
render_elements-loop-i-smaller t c = omega (arith, c.loop-i-test.true)

pub render_elements-loop-i-preserved : goal.render_elements-loop-i-preserved
render_elements-loop-i-preserved t c = let a = c.args in
    let h = c.requires in
    let ps = c.put_scope-open in
    let w : World = world (whole a.rc ps.result) a.page.now a.texts.now a.indent.now a.ent.now in
    let l = c.loop-i in
    let k₀ : RenderContext = whole l.q l.«open» in
    let lw : World = world k₀ l.page l.texts l.indent l.ent in
    let T = template_at 16 a.d (bits a.b.now) a.p in
    let n = c.body_at-body.result.count in
    let z = end (body 16 a.d) (bits a.b.now) a.p in
    let D = l.invariant.0 in
    let B = l.invariant.1 in
    let v = placed_element 16 (bits a.b.now) l.cur c.content_at-e.result in
    let y = c.render_element-q in
    let l₂ : World = world (whole y.result l.«open») y.new.page y.new.texts y.new.indent y.new.ent in
    let C : y.result.count ≡ l.q.count = c.if-q-front.false ∙ ap (λ (x : Scope). x.count) B.newest in
    ((drawing_more a.s.now a.b.now a.options (name_at a.b.now a.name) w T (a.d - 1) n z lw l.i l.cur D c.loop-i-test.true v (placed_element_is 16 (a.d - 1) (bits a.b.now) l.cur c.content_at-e.result c.content_at-e.ensures) l₂ y.ensures (none_of _ (sym c.is_some-in-loop-i.ensures ∙ c.if-is_some-4.false))), body_kept ps.result (a.rc.used - 1) a.top l.q y.result l.front l.«open» C B)

pub render_elements-returns : goal.render_elements-returns
render_elements-returns t c = let a = c.args in
    let h = c.requires in
    let ps = c.put_scope-open in
    let w : World = world (whole a.rc ps.result) a.page.now a.texts.now a.indent.now a.ent.now in
    let l = c.loop-i in
    let k₀ : RenderContext = whole l.q l.«open» in
    let lw : World = world k₀ l.page l.texts l.indent l.ent in
    let T = template_at 16 a.d (bits a.b.now) a.p in
    let n = c.body_at-body.result.count in
    let z = end (body 16 a.d) (bits a.b.now) a.p in
    let D = l.invariant.0 in
    let B = l.invariant.1 in
    let sized : length ps.result ≡ 32 = ap length ps.ensures ∙ array_sized a.s.now a.b.now a.rc (set a.scopes (a.rc.used - 1) a.top) a.page.now a.texts.now a.indent.now a.ent.now h.1 in
    let here : a.rc.used - 1 ≡ l.q.used - 1 = omega (arith, D.goes.used) in
    let F : Front l.«open» l.q l.front = body_front ps.result (a.rc.used - 1) a.top l.q l.front l.«open» sized D.goes.ready.one D.goes.ready.most here B in
    let first : get_or ps.result (a.rc.used - 1) blank ≡ a.top = ap (λ (m : List Scope). get_or m (a.rc.used - 1) blank) ps.ensures ∙ topped_there a.scopes (a.rc.used - 1) a.top (array_sized a.s.now a.b.now a.rc (set a.scopes (a.rc.used - 1) a.top) a.page.now a.texts.now a.indent.now a.ent.now h.1) (omega (arith, h.1.one, h.1.most)) in
    let e : whole l.q l.«open» ≡ whole l.q (set a.scopes (a.rc.used - 1) a.top) = body_left ps.result (a.rc.used - 1) a.top l.q l.front l.«open» sized D.goes.ready.one D.goes.ready.most here B first ∙ ap (whole l.q) ps.ensures in
    left_of a.s.now a.b.now a.options a.rc ps.result (set a.scopes (a.rc.used - 1) a.top) a.page.now a.texts.now a.indent.now a.ent.now (λ g R. rule.render_elements g R (name_at a.b.now a.name) T) ps.ensures
    (subst (λ (c : RenderContext). Renders a.s.now a.b.now a.options w (world c l.page l.texts l.indent l.ent) (λ g R. rule.render_elements g R (name_at a.b.now a.name) T)) e
    (drawing_end a.s.now a.b.now a.options (name_at a.b.now a.name) w T (a.d - 1) n z lw l.i l.cur D (omega (arith, c.loop-i-test.false))))

pub render_helper-begin_helper-begun-requires : goal.render_helper-begin_helper-begun-requires
render_helper-begin_helper-begun-requires t c = let h = c.requires in (h.0.plan, h.0.small, h.1, h.3, h.4, h.5, h.6, h.7)

pub render_helper-render_elements-q-requires : goal.render_helper-render_elements-q-requires
render_helper-render_elements-q-requires t c = let a = c.args in
    let h = c.requires in
    let w : World = world (whole a.rc a.scopes) a.page.now a.texts.now a.indent.now a.ent.now in
    let g = c.begin_helper-begun in
    let w₁ : World = world (topped g.result.rc a.scopes g.result.top) g.new.page g.new.texts a.indent.now a.ent.now in
    let B = subst (HelperBegun a.s.now a.b.now a.options w w₁ a.d a.p a.at a.template a.inverse a.before) c.in-Body.is g.ensures.0 in
    let y = B.1.deeper in
    let m = B.1.ready.most in
    (omega (arith, y, m, c.decreases), (h.0, B.1.ready, omega (arith, h.2), B.0, λ z. absurd (z refl), g.ensures.1))

pub render_helper-render_elements-q-requires-in-Within : goal.render_helper-render_elements-q-requires-in-Within
render_helper-render_elements-q-requires-in-Within t c = let a = c.args in
    let h = c.requires in
    let w : World = world (whole a.rc a.scopes) a.page.now a.texts.now a.indent.now a.ent.now in
    let g = c.begin_helper-begun in
    let w₁ : World = world (topped g.result.rc a.scopes g.result.top) g.new.page g.new.texts a.indent.now a.ent.now in
    let B = subst (HelperBegun a.s.now a.b.now a.options w w₁ a.d a.p a.at a.template a.inverse a.before) c.in-Within.is g.ensures.0 in
    let y = B.1.deeper in
    let m = B.1.ready.most in
    (omega (arith, y, m, c.decreases), (h.0, B.1.ready, omega (arith, h.2), B.0, λ z. absurd (z refl), g.ensures.1))

pub render_helper-render_turns-q-requires : goal.render_helper-render_turns-q-requires
render_helper-render_turns-q-requires t c = let a = c.args in
    let h = c.requires in
    let w : World = world (whole a.rc a.scopes) a.page.now a.texts.now a.indent.now a.ent.now in
    let sized = array_sized a.s.now a.b.now a.rc a.scopes a.page.now a.texts.now a.indent.now a.ent.now h.1 in
    let g = c.begin_helper-begun in
    let w₁ : World = world (topped g.result.rc a.scopes g.result.top) g.new.page g.new.texts a.indent.now a.ent.now in
    let B = subst (HelperBegun a.s.now a.b.now a.options w w₁ a.d a.p a.at a.template a.inverse a.before) c.in-Turns.is g.ensures.0 in
    let F = top_front a.front a.rc g.result a.scopes sized h.1.one h.1.most h.7 g.ensures.2 (ap opened c.in-Turns.is) in
    let H = subst (λ (x : RenderContext). HelperBegun a.s.now a.b.now a.options w (world x g.new.page g.new.texts a.indent.now a.ent.now) a.d a.p a.at a.template a.inverse a.before (Turns c.in-Turns.v c.in-Turns.t)) F.0 B in
    let y = H.2.deeper in
    let m = H.2.ready.most in
    (omega (arith, y, m, c.decreases), (h.0, H.2.ready, h.2, h.4, H.0, H.1, F.1))

pub render_helper-returns-in-Done : goal.render_helper-returns-in-Done
render_helper-returns-in-Done t c = let a = c.args in
    let h = c.requires in
    let w : World = world (whole a.rc a.scopes) a.page.now a.texts.now a.indent.now a.ent.now in
    let sized = array_sized a.s.now a.b.now a.rc a.scopes a.page.now a.texts.now a.indent.now a.ent.now h.1 in
    let g = c.begin_helper-begun in
    let w₁ : World = world (topped g.result.rc a.scopes g.result.top) g.new.page g.new.texts a.indent.now a.ent.now in
    let B = subst (HelperBegun a.s.now a.b.now a.options w w₁ a.d a.p a.at a.template a.inverse a.before) c.in-Done.is g.ensures.0 in
    left_drawn a.s.now a.b.now a.options a.rc a.scopes sized h.1.one h.1.most a.page.now a.texts.now a.indent.now a.ent.now (helper_rule a.b.now a.d a.p a.before (names_at (bits a.b.now) a.at) a.template a.inverse)
    g.result.rc g.result.rc.used g.result.top g.new.page g.new.texts a.indent.now a.ent.now (λ z. refl) B

pub render_helper-shape_of-ent-in-Body : goal.render_helper-shape_of-ent-in-Body
render_helper-shape_of-ent-in-Body t c = omega (arith, c.render_elements-q.auto.ent)

pub render_helper-shape_of-page-in-Body : goal.render_helper-shape_of-page-in-Body
render_helper-shape_of-page-in-Body t c = omega (arith, c.begin_helper-begun.auto.page, c.render_elements-q.auto.page)

pub render_helper-shape_of-texts-in-Body : goal.render_helper-shape_of-texts-in-Body
render_helper-shape_of-texts-in-Body t c = omega (arith, c.begin_helper-begun.auto.texts, c.render_elements-q.auto.texts)

pub render_helper-shape_of-indent-in-Body : goal.render_helper-shape_of-indent-in-Body
render_helper-shape_of-indent-in-Body t c = omega (arith, c.render_elements-q.auto.indent)

pub render_helper-returns-in-Body : goal.render_helper-returns-in-Body
render_helper-returns-in-Body t c = let a = c.args in
    let h = c.requires in
    let w : World = world (whole a.rc a.scopes) a.page.now a.texts.now a.indent.now a.ent.now in
    let sized = array_sized a.s.now a.b.now a.rc a.scopes a.page.now a.texts.now a.indent.now a.ent.now h.1 in
    let g = c.begin_helper-begun in
    let w₁ : World = world (topped g.result.rc a.scopes g.result.top) g.new.page g.new.texts a.indent.now a.ent.now in
    let B = subst (HelperBegun a.s.now a.b.now a.options w w₁ a.d a.p a.at a.template a.inverse a.before) c.in-Body.is g.ensures.0 in
    let q = c.render_elements-q in
    let r = c.finish-q in
    let m = set a.scopes (g.result.rc.used - 1) g.result.top in
    let w₂ : World = world (whole q.result m) q.new.page q.new.texts q.new.indent q.new.ent in
    finished_drawn a.s.now a.b.now a.options a.rc a.scopes sized h.1.one h.1.most a.page.now a.texts.now a.indent.now a.ent.now (helper_rule a.b.now a.d a.p a.before (names_at (bits a.b.now) a.at) a.template a.inverse) (body_rule a.b.now a.d c.in-Body.t 0)
    (λ (k : RenderContext). settled k a.rc.writer) (λ (k : RenderContext). refl) (λ (k : RenderContext). refl)
    w₁ g.result.top q.result r.result q.new.page q.new.texts q.new.indent q.new.ent q.ensures (B.1.done w₂ q.ensures) r.ensures

pub render_helper-shape_of-ent-in-Within : goal.render_helper-shape_of-ent-in-Within
render_helper-shape_of-ent-in-Within t c = omega (arith, c.render_elements-q-in-Within.auto.ent)

pub render_helper-shape_of-page-in-Within : goal.render_helper-shape_of-page-in-Within
render_helper-shape_of-page-in-Within t c = omega (arith, c.begin_helper-begun.auto.page, c.render_elements-q-in-Within.auto.page)

pub render_helper-shape_of-texts-in-Within : goal.render_helper-shape_of-texts-in-Within
render_helper-shape_of-texts-in-Within t c = omega (arith, c.begin_helper-begun.auto.texts, c.render_elements-q-in-Within.auto.texts)

pub render_helper-shape_of-indent-in-Within : goal.render_helper-shape_of-indent-in-Within
render_helper-shape_of-indent-in-Within t c = omega (arith, c.render_elements-q-in-Within.auto.indent)

pub render_helper-returns-in-Within : goal.render_helper-returns-in-Within
render_helper-returns-in-Within t c = let a = c.args in
    let h = c.requires in
    let w : World = world (whole a.rc a.scopes) a.page.now a.texts.now a.indent.now a.ent.now in
    let g = c.begin_helper-begun in
    let w₁ : World = world (topped g.result.rc a.scopes g.result.top) g.new.page g.new.texts a.indent.now a.ent.now in
    let B = subst (HelperBegun a.s.now a.b.now a.options w w₁ a.d a.p a.at a.template a.inverse a.before) c.in-Within.is g.ensures.0 in
    let q = c.render_elements-q-in-Within in
    let m = set a.scopes (g.result.rc.used - 1) g.result.top in
    let w₂ : World = world (whole q.result m) q.new.page q.new.texts q.new.indent q.new.ent in
    subst (λ (x : RenderContext). Renders a.s.now a.b.now a.options w (over x w₂) (helper_rule a.b.now a.d a.p a.before (names_at (bits a.b.now) a.at) a.template a.inverse)) (sym (c.finish_within-q.ensures a.scopes))
    (within_any a.s.now a.b.now a.options w q.result a.scopes m q.new.page q.new.texts q.new.indent q.new.ent (helper_rule a.b.now a.d a.p a.before (names_at (bits a.b.now) a.at) a.template a.inverse) (whole a.rc a.scopes) (B.1.done w₂ q.ensures))

pub render_helper-shape_of-ent-in-Turns : goal.render_helper-shape_of-ent-in-Turns
render_helper-shape_of-ent-in-Turns t c = omega (arith, c.render_turns-q.auto.ent)

pub render_helper-shape_of-page-in-Turns : goal.render_helper-shape_of-page-in-Turns
render_helper-shape_of-page-in-Turns t c = omega (arith, c.begin_helper-begun.auto.page, c.render_turns-q.auto.page)

pub render_helper-shape_of-texts-in-Turns : goal.render_helper-shape_of-texts-in-Turns
render_helper-shape_of-texts-in-Turns t c = omega (arith, c.begin_helper-begun.auto.texts, c.render_turns-q.auto.texts)

pub render_helper-shape_of-indent-in-Turns : goal.render_helper-shape_of-indent-in-Turns
render_helper-shape_of-indent-in-Turns t c = omega (arith, c.render_turns-q.auto.indent)

pub render_helper-returns-in-Turns : goal.render_helper-returns-in-Turns
render_helper-returns-in-Turns t c = let a = c.args in
    let h = c.requires in
    let w : World = world (whole a.rc a.scopes) a.page.now a.texts.now a.indent.now a.ent.now in
    let sized = array_sized a.s.now a.b.now a.rc a.scopes a.page.now a.texts.now a.indent.now a.ent.now h.1 in
    let g = c.begin_helper-begun in
    let w₁ : World = world (topped g.result.rc a.scopes g.result.top) g.new.page g.new.texts a.indent.now a.ent.now in
    let B = subst (HelperBegun a.s.now a.b.now a.options w w₁ a.d a.p a.at a.template a.inverse a.before) c.in-Turns.is g.ensures.0 in
    let F = top_front a.front a.rc g.result a.scopes sized h.1.one h.1.most h.7 g.ensures.2 (ap opened c.in-Turns.is) in
    let H = subst (λ (x : RenderContext). HelperBegun a.s.now a.b.now a.options w (world x g.new.page g.new.texts a.indent.now a.ent.now) a.d a.p a.at a.template a.inverse a.before (Turns c.in-Turns.v c.in-Turns.t)) F.0 B in
    let q = c.render_turns-q in
    let w₂ : World = world (whole q.result a.scopes) q.new.page q.new.texts q.new.indent q.new.ent in
    subst (λ (x : RenderContext). Renders a.s.now a.b.now a.options w (over x w₂) (helper_rule a.b.now a.d a.p a.before (names_at (bits a.b.now) a.at) a.template a.inverse)) (sym (c.finish-q-in-Turns.ensures a.scopes)) (H.2.done w₂ q.ensures)

pub render_partial-begin-begun-requires : goal.render_partial-begin-begun-requires
render_partial-begin-begun-requires t c = let h = c.requires in (h.0, h.5, h.1, omega (arith, h.2), h.3, tt, h.4)

pub render_partial-render_elements-q-requires : goal.render_partial-render_elements-q-requires
render_partial-render_elements-q-requires t c = let a = c.args in
    let h = c.requires in
    let w : World = world (whole a.rc a.scopes) a.page.now a.texts.now a.indent.now a.ent.now in
    let g = c.begin-begun in
    let w₁ : World = world (topped g.result.rc a.scopes g.result.top) g.new.page g.new.texts g.new.indent g.new.ent in
    let B = subst (PartialBegun a.s.now a.b.now a.options w w₁ a.d (partial_rule a.b.now a.d a.p None a.at a.before) None a.at) c.in-Body.is g.ensures.0 in
    let y = B.3.deeper in
    let m = B.3.ready.most in
    let e = B.0 in
    (omega (arith, y, m, e, c.decreases), (h.0, B.3.ready, B.0, B.1, B.2, g.ensures.1))

pub render_partial-shape_of-ent-in-Body : goal.render_partial-shape_of-ent-in-Body
render_partial-shape_of-ent-in-Body t c = omega (arith, c.begin-begun.auto.ent, c.render_elements-q.auto.ent)

pub render_partial-shape_of-page-in-Body : goal.render_partial-shape_of-page-in-Body
render_partial-shape_of-page-in-Body t c = omega (arith, c.begin-begun.auto.page, c.render_elements-q.auto.page)

pub render_partial-shape_of-texts-in-Body : goal.render_partial-shape_of-texts-in-Body
render_partial-shape_of-texts-in-Body t c = omega (arith, c.begin-begun.auto.texts, c.render_elements-q.auto.texts)

pub render_partial-shape_of-indent-in-Body : goal.render_partial-shape_of-indent-in-Body
render_partial-shape_of-indent-in-Body t c = omega (arith, c.begin-begun.auto.indent, c.render_elements-q.auto.indent)

pub render_partial-returns-in-Body : goal.render_partial-returns-in-Body
render_partial-returns-in-Body t c = let a = c.args in
    let h = c.requires in
    let w : World = world (whole a.rc a.scopes) a.page.now a.texts.now a.indent.now a.ent.now in
    let g = c.begin-begun in
    let w₁ : World = world (topped g.result.rc a.scopes g.result.top) g.new.page g.new.texts g.new.indent g.new.ent in
    let B = subst (PartialBegun a.s.now a.b.now a.options w w₁ a.d (partial_rule a.b.now a.d a.p None a.at a.before) None a.at) c.in-Body.is g.ensures.0 in
    let q = c.render_elements-q in
    let m = set a.scopes (g.result.rc.used - 1) g.result.top in
    let w₂ : World = world (whole q.result m) q.new.page q.new.texts q.new.indent q.new.ent in
    subst (λ (x : RenderContext). Renders a.s.now a.b.now a.options w (over x w₂) (partial_rule a.b.now a.d a.p None a.at a.before)) (sym (c.finish_partial-q.ensures a.scopes))
    (concluded_any a.s.now a.b.now a.options w q.result a.scopes m q.new.page q.new.texts q.new.indent q.new.ent (partial_rule a.b.now a.d a.p None a.at a.before) (whole a.rc a.scopes) (B.3.done w₂ q.ensures))

pub render_partial-returns-in_default : goal.render_partial-returns-in_default
render_partial-returns-in_default t c = let a = c.args in
    let h = c.requires in
    let w : World = world (whole a.rc a.scopes) a.page.now a.texts.now a.indent.now a.ent.now in
    let sized = array_sized a.s.now a.b.now a.rc a.scopes a.page.now a.texts.now a.indent.now a.ent.now h.1 in
    let g = c.begin-begun in
    let w₁ : World = world (topped g.result.rc a.scopes g.result.top) g.new.page g.new.texts g.new.indent g.new.ent in
    left_drawn a.s.now a.b.now a.options a.rc a.scopes sized h.1.one h.1.most a.page.now a.texts.now a.indent.now a.ent.now (partial_rule a.b.now a.d a.p None a.at a.before)
    g.result.rc g.result.rc.used g.result.top g.new.page g.new.texts g.new.indent g.new.ent (λ z. refl)
    (no_own a.s.now a.b.now a.options w w₁ a.d (partial_rule a.b.now a.d a.p None a.at a.before) a.at g.result.next (unsealed c.in_default.in_default-own.keys2) g.ensures.0)

pub render_partial_block-begin-begun-requires : goal.render_partial_block-begin-begun-requires
render_partial_block-begin-begun-requires t c = let h = c.requires in (h.0, h.6, h.1, omega (arith, h.2), h.3, h.4, h.5)

pub render_partial_block-render_elements-q-requires : goal.render_partial_block-render_elements-q-requires
render_partial_block-render_elements-q-requires t c = let a = c.args in
    let h = c.requires in
    let w : World = world (whole a.rc a.scopes) a.page.now a.texts.now a.indent.now a.ent.now in
    let g = c.begin-begun in
    let w₁ : World = world (topped g.result.rc a.scopes g.result.top) g.new.page g.new.texts g.new.indent g.new.ent in
    let B = subst (PartialBegun a.s.now a.b.now a.options w w₁ a.d (partial_rule a.b.now a.d a.p (Some a.own) a.at a.before) (Some a.own) a.at) c.in-Fallback.is g.ensures.0 in
    let y = B.2.deeper in
    let m = B.2.ready.most in
    (omega (arith, y, m, c.decreases), (h.0, B.2.ready, omega (arith, h.2), B.0, λ z. absurd (z refl), g.ensures.1))

pub render_partial_block-render_elements-q-requires-in-Body : goal.render_partial_block-render_elements-q-requires-in-Body
render_partial_block-render_elements-q-requires-in-Body t c = let a = c.args in
    let h = c.requires in
    let w : World = world (whole a.rc a.scopes) a.page.now a.texts.now a.indent.now a.ent.now in
    let g = c.begin-begun in
    let w₁ : World = world (topped g.result.rc a.scopes g.result.top) g.new.page g.new.texts g.new.indent g.new.ent in
    let B = subst (PartialBegun a.s.now a.b.now a.options w w₁ a.d (partial_rule a.b.now a.d a.p (Some a.own) a.at a.before) (Some a.own) a.at) c.in-Body.is g.ensures.0 in
    let y = B.3.deeper in
    let m = B.3.ready.most in
    let e = B.0 in
    (omega (arith, y, m, e, c.decreases), (h.0, B.3.ready, B.0, B.1, B.2, g.ensures.1))

pub render_partial_block-render_text-q-requires : goal.render_partial_block-render_text-q-requires
render_partial_block-render_text-q-requires t c = let a = c.args in
    let h = c.requires in
    let w : World = world (whole a.rc a.scopes) a.page.now a.texts.now a.indent.now a.ent.now in
    let g = c.begin-begun in
    let w₁ : World = world (topped g.result.rc a.scopes g.result.top) g.new.page g.new.texts g.new.indent g.new.ent in
    let B = subst (PartialBegun a.s.now a.b.now a.options w w₁ a.d (partial_rule a.b.now a.d a.p (Some a.own) a.at a.before) (Some a.own) a.at) c.in-Text.is g.ensures.0 in
    let y = B.0.deeper in
    let m = B.0.ready.most in
    (omega (arith, y, m, c.decreases), (h.0, B.0.ready, h.2, record { page = a.page.now; texts = a.texts.now; indent = a.indent.now; ent = a.ent.now; rule = partial_rule a.b.now a.d a.p (Some a.own) a.at a.before; begun = B.0 }, g.ensures.1))

pub render_partial_block-returns-in-Done : goal.render_partial_block-returns-in-Done
render_partial_block-returns-in-Done t c = let a = c.args in
    let h = c.requires in
    let w : World = world (whole a.rc a.scopes) a.page.now a.texts.now a.indent.now a.ent.now in
    let sized = array_sized a.s.now a.b.now a.rc a.scopes a.page.now a.texts.now a.indent.now a.ent.now h.1 in
    let g = c.begin-begun in
    let w₁ : World = world (topped g.result.rc a.scopes g.result.top) g.new.page g.new.texts g.new.indent g.new.ent in
    let B = subst (PartialBegun a.s.now a.b.now a.options w w₁ a.d (partial_rule a.b.now a.d a.p (Some a.own) a.at a.before) (Some a.own) a.at) c.in-Done.is g.ensures.0 in
    left_drawn a.s.now a.b.now a.options a.rc a.scopes sized h.1.one h.1.most a.page.now a.texts.now a.indent.now a.ent.now (partial_rule a.b.now a.d a.p (Some a.own) a.at a.before)
    g.result.rc g.result.rc.used g.result.top g.new.page g.new.texts g.new.indent g.new.ent (λ z. refl) B

pub render_partial_block-shape_of-ent-in-Fallback : goal.render_partial_block-shape_of-ent-in-Fallback
render_partial_block-shape_of-ent-in-Fallback t c = omega (arith, c.begin-begun.auto.ent, c.render_elements-q.auto.ent)

pub render_partial_block-shape_of-page-in-Fallback : goal.render_partial_block-shape_of-page-in-Fallback
render_partial_block-shape_of-page-in-Fallback t c = omega (arith, c.begin-begun.auto.page, c.render_elements-q.auto.page)

pub render_partial_block-shape_of-texts-in-Fallback : goal.render_partial_block-shape_of-texts-in-Fallback
render_partial_block-shape_of-texts-in-Fallback t c = omega (arith, c.begin-begun.auto.texts, c.render_elements-q.auto.texts)

pub render_partial_block-shape_of-indent-in-Fallback : goal.render_partial_block-shape_of-indent-in-Fallback
render_partial_block-shape_of-indent-in-Fallback t c = omega (arith, c.begin-begun.auto.indent, c.render_elements-q.auto.indent)

pub render_partial_block-returns-in-Fallback : goal.render_partial_block-returns-in-Fallback
render_partial_block-returns-in-Fallback t c = let a = c.args in
    let h = c.requires in
    let w : World = world (whole a.rc a.scopes) a.page.now a.texts.now a.indent.now a.ent.now in
    let sized = array_sized a.s.now a.b.now a.rc a.scopes a.page.now a.texts.now a.indent.now a.ent.now h.1 in
    let g = c.begin-begun in
    let w₁ : World = world (topped g.result.rc a.scopes g.result.top) g.new.page g.new.texts g.new.indent g.new.ent in
    let B = subst (PartialBegun a.s.now a.b.now a.options w w₁ a.d (partial_rule a.b.now a.d a.p (Some a.own) a.at a.before) (Some a.own) a.at) c.in-Fallback.is g.ensures.0 in
    let q = c.render_elements-q in
    let r = c.finish_named-q in
    let m = set a.scopes (g.result.rc.used - 1) g.result.top in
    let w₂ : World = world (whole q.result m) q.new.page q.new.texts q.new.indent q.new.ent in
    finished_drawn a.s.now a.b.now a.options a.rc a.scopes sized h.1.one h.1.most a.page.now a.texts.now a.indent.now a.ent.now (partial_rule a.b.now a.d a.p (Some a.own) a.at a.before) (body_rule a.b.now a.d c.in-Fallback.t 0)
    (λ (k : RenderContext). settled (with_template k a.rc.template) a.rc.writer) (λ (k : RenderContext). refl) (λ (k : RenderContext). refl)
    w₁ g.result.top q.result r.result q.new.page q.new.texts q.new.indent q.new.ent q.ensures (B.2.done w₂ q.ensures) r.ensures

pub render_partial_block-shape_of-ent-in-Body : goal.render_partial_block-shape_of-ent-in-Body
render_partial_block-shape_of-ent-in-Body t c = omega (arith, c.begin-begun.auto.ent, c.render_elements-q-in-Body.auto.ent)

pub render_partial_block-shape_of-page-in-Body : goal.render_partial_block-shape_of-page-in-Body
render_partial_block-shape_of-page-in-Body t c = omega (arith, c.begin-begun.auto.page, c.render_elements-q-in-Body.auto.page)

pub render_partial_block-shape_of-texts-in-Body : goal.render_partial_block-shape_of-texts-in-Body
render_partial_block-shape_of-texts-in-Body t c = omega (arith, c.begin-begun.auto.texts, c.render_elements-q-in-Body.auto.texts)

pub render_partial_block-shape_of-indent-in-Body : goal.render_partial_block-shape_of-indent-in-Body
render_partial_block-shape_of-indent-in-Body t c = omega (arith, c.begin-begun.auto.indent, c.render_elements-q-in-Body.auto.indent)

pub render_partial_block-returns-in-Body : goal.render_partial_block-returns-in-Body
render_partial_block-returns-in-Body t c = let a = c.args in
    let h = c.requires in
    let w : World = world (whole a.rc a.scopes) a.page.now a.texts.now a.indent.now a.ent.now in
    let g = c.begin-begun in
    let w₁ : World = world (topped g.result.rc a.scopes g.result.top) g.new.page g.new.texts g.new.indent g.new.ent in
    let B = subst (PartialBegun a.s.now a.b.now a.options w w₁ a.d (partial_rule a.b.now a.d a.p (Some a.own) a.at a.before) (Some a.own) a.at) c.in-Body.is g.ensures.0 in
    let q = c.render_elements-q-in-Body in
    let m = set a.scopes (g.result.rc.used - 1) g.result.top in
    let w₂ : World = world (whole q.result m) q.new.page q.new.texts q.new.indent q.new.ent in
    subst (λ (x : RenderContext). Renders a.s.now a.b.now a.options w (over x w₂) (partial_rule a.b.now a.d a.p (Some a.own) a.at a.before)) (sym (c.finish_partial-q.ensures a.scopes))
    (concluded_any a.s.now a.b.now a.options w q.result a.scopes m q.new.page q.new.texts q.new.indent q.new.ent (partial_rule a.b.now a.d a.p (Some a.own) a.at a.before) (whole a.rc a.scopes) (B.3.done w₂ q.ensures))

pub render_partial_block-shape_of-ent-in-Text : goal.render_partial_block-shape_of-ent-in-Text
render_partial_block-shape_of-ent-in-Text t c = omega (arith, c.begin-begun.auto.ent, c.render_text-q.auto.ent)

pub render_partial_block-shape_of-page-in-Text : goal.render_partial_block-shape_of-page-in-Text
render_partial_block-shape_of-page-in-Text t c = omega (arith, c.begin-begun.auto.page, c.render_text-q.auto.page)

pub render_partial_block-shape_of-texts-in-Text : goal.render_partial_block-shape_of-texts-in-Text
render_partial_block-shape_of-texts-in-Text t c = omega (arith, c.begin-begun.auto.texts, c.render_text-q.auto.texts)

pub render_partial_block-shape_of-indent-in-Text : goal.render_partial_block-shape_of-indent-in-Text
render_partial_block-shape_of-indent-in-Text t c = omega (arith, c.begin-begun.auto.indent, c.render_text-q.auto.indent)

pub render_partial_block-returns-in-Text : goal.render_partial_block-returns-in-Text
render_partial_block-returns-in-Text t c = let a = c.args in
    let h = c.requires in
    let w : World = world (whole a.rc a.scopes) a.page.now a.texts.now a.indent.now a.ent.now in
    let g = c.begin-begun in
    let w₁ : World = world (topped g.result.rc a.scopes g.result.top) g.new.page g.new.texts g.new.indent g.new.ent in
    let B = subst (PartialBegun a.s.now a.b.now a.options w w₁ a.d (partial_rule a.b.now a.d a.p (Some a.own) a.at a.before) (Some a.own) a.at) c.in-Text.is g.ensures.0 in
    c.render_text-q.ensures.at a.page.now a.texts.now a.indent.now a.ent.now (partial_rule a.b.now a.d a.p (Some a.own) a.at a.before) B.0

pub render_text-render_elements-q-requires : goal.render_text-render_elements-q-requires
render_text-render_elements-q-requires t c = let a = c.args in
    let h = c.requires in
    let B = h.3.begun in
    (omega (arith, h.2, c.decreases), (h.0, h.1, omega (arith, h.2), B.text, λ z. absurd (z refl), h.4))

pub render_text-returns-then-is_some : goal.render_text-returns-then-is_some
render_text-returns-then-is_some t c = let a = c.args in
    let h = c.requires in
    let B = h.3.begun in
    let q = c.render_elements-q in
    let m = set a.scopes (a.rc.used - 1) a.top in
    let w₂ : World = world (whole q.result m) q.new.page q.new.texts q.new.indent q.new.ent in
    record { at = λ page texts indent ent rule D. refused_any a.s.now a.b.now a.options (world (whole a.around a.scopes) page texts indent ent) q.result a.scopes m q.new.page q.new.texts q.new.indent q.new.ent rule (some_of _ (sym c.is_some.ensures ∙ c.if-is_some.true)) (D.stop w₂ q.ensures (some_of _ (sym c.is_some.ensures ∙ c.if-is_some.true))) }

pub render_text-with_count-requires : goal.render_text-with_count-requires
render_text-with_count-requires t c = let a = c.args in
    let h = c.requires in
    let B = h.3.begun in
    let q = c.render_elements-q in
    let m = set a.scopes (a.rc.used - 1) a.top in
    let w₂ : World = world (whole q.result m) q.new.page q.new.texts q.new.indent q.new.ent in
    let n = count_small a.s.now a.b.now q.result m q.new.page q.new.texts q.new.indent q.new.ent ((q.ensures.at 32 (omega arith)).fine (none_of _ (sym c.is_some.ensures ∙ c.if-is_some.false))).goes.ready in
    omega (arith, n)

pub render_text-overflow_sub-q : goal.render_text-overflow_sub-q
render_text-overflow_sub-q t c = let a = c.args in
    let h = c.requires in
    let B = h.3.begun in
    let q = c.render_elements-q in
    let m = set a.scopes (a.rc.used - 1) a.top in
    let w₂ : World = world (whole q.result m) q.new.page q.new.texts q.new.indent q.new.ent in
    let n = (B.ends w₂ q.ensures (none_of _ (sym c.is_some.ensures ∙ c.if-is_some.false))).from in
    omega (arith, n)

pub render_text-with_text-c-requires : goal.render_text-with_text-c-requires
render_text-with_text-c-requires t c = let a = c.args in
    let h = c.requires in
    let B = h.3.begun in
    let q = c.render_elements-q in
    let m = set a.scopes (a.rc.used - 1) a.top in
    let w₂ : World = world (whole q.result m) q.new.page q.new.texts q.new.indent q.new.ent in
    let n = (B.ends w₂ q.ensures (none_of _ (sym c.is_some.ensures ∙ c.if-is_some.false))).from in
    let k = (B.ends w₂ q.ensures (none_of _ (sym c.is_some.ensures ∙ c.if-is_some.false))).short in
    omega (arith, n, k)

pub render_text-end_text-u-requires : goal.render_text-end_text-u-requires
render_text-end_text-u-requires t c = let a = c.args in
    let h = c.requires in
    let B = h.3.begun in
    let q = c.render_elements-q in
    let m = set a.scopes (a.rc.used - 1) a.top in
    let w₂ : World = world (whole q.result m) q.new.page q.new.texts q.new.indent q.new.ent in
    (h.0.small, B.ends w₂ q.ensures (none_of _ (sym c.is_some.ensures ∙ c.if-is_some.false)))

pub render_text-render_elements-requires : goal.render_text-render_elements-requires
render_text-render_elements-requires t c = let a = c.args in
    let h = c.requires in
    let B = h.3.begun in
    let q = c.render_elements-q in
    let m = set a.scopes (a.rc.used - 1) a.top in
    let w₂ : World = world (whole q.result m) q.new.page q.new.texts q.new.indent q.new.ent in
    let sized = sym (length-set a.scopes (a.rc.used - 1) a.top) ∙ array_sized a.s.now a.b.now a.rc (set a.scopes (a.rc.used - 1) a.top) a.page.now a.texts.now a.indent.now a.ent.now h.1 in
    let u = c.end_text-u in
    let C = text_goes a.s.now a.b.now a.options a.around a.scopes sized a.d a.o a.p a.e a.name a.at
    a.rc a.top a.page.now a.texts.now a.indent.now a.ent.now q.result q.new.page q.new.texts q.new.indent q.new.ent q.ensures (none_of _ (sym c.is_some.ensures ∙ c.if-is_some.false))
    u.result u.new.texts u.new.indent u.ensures c.with_text-c.result (c.with_text-c.ensures ∙ ap (λ (k : Scope). with_block k 2 (q.result.writer.low - a.around.writer.low)) c.with_count.ensures) h.3.page h.3.texts h.3.indent h.3.ent h.3.rule B in
    let n = C.1 in
    let e = B.depth in
    (omega (arith, n, e, c.decreases), (h.0, C.0.ready, B.depth, B.body, B.named, C.2))

pub render_text-shape_of-ent : goal.render_text-shape_of-ent
render_text-shape_of-ent t c = omega (arith, c.render_elements-q.auto.ent, c.render_elements.auto.ent)

pub render_text-shape_of-page : goal.render_text-shape_of-page
render_text-shape_of-page t c = omega (arith, c.render_elements-q.auto.page, c.render_elements.auto.page)

pub render_text-shape_of-texts : goal.render_text-shape_of-texts
render_text-shape_of-texts t c = omega (arith, c.render_elements-q.auto.texts, c.end_text-u.auto.texts, c.render_elements.auto.texts)

pub render_text-shape_of-indent : goal.render_text-shape_of-indent
render_text-shape_of-indent t c = omega (arith, c.render_elements-q.auto.indent, c.end_text-u.auto.indent, c.render_elements.auto.indent)

pub render_text-returns : goal.render_text-returns
render_text-returns t c = let a = c.args in
    let h = c.requires in
    let B = h.3.begun in
    let q = c.render_elements-q in
    let m = set a.scopes (a.rc.used - 1) a.top in
    let w₂ : World = world (whole q.result m) q.new.page q.new.texts q.new.indent q.new.ent in
    let sized = sym (length-set a.scopes (a.rc.used - 1) a.top) ∙ array_sized a.s.now a.b.now a.rc (set a.scopes (a.rc.used - 1) a.top) a.page.now a.texts.now a.indent.now a.ent.now h.1 in
    let u = c.end_text-u in
    let y = c.with_text-c.result in
    let v = c.render_elements in
    let m₂ = set a.scopes (u.result.used - 1) y in
    let w₄ : World = world (whole v.result m₂) v.new.page v.new.texts v.new.indent v.new.ent in
    record {
      at = λ page texts indent ent rule D.
          let C = text_goes a.s.now a.b.now a.options a.around a.scopes sized a.d a.o a.p a.e a.name a.at
          a.rc a.top a.page.now a.texts.now a.indent.now a.ent.now q.result q.new.page q.new.texts q.new.indent q.new.ent q.ensures (none_of _ (sym c.is_some.ensures ∙ c.if-is_some.false))
          u.result u.new.texts u.new.indent u.ensures c.with_text-c.result (c.with_text-c.ensures ∙ ap (λ (k : Scope). with_block k 2 (q.result.writer.low - a.around.writer.low)) c.with_count.ensures) page texts indent ent rule D in
          subst (λ (x : RenderContext). Renders a.s.now a.b.now a.options (world (whole a.around a.scopes) page texts indent ent) (over x w₄) rule) (sym (c.finish_partial.ensures a.scopes))
          (concluded_any a.s.now a.b.now a.options (world (whole a.around a.scopes) page texts indent ent) v.result a.scopes m₂ v.new.page v.new.texts v.new.indent v.new.ent rule (whole a.around a.scopes) (C.0.done w₄ v.ensures));
    }

pub render_turns-open_each-first-requires : goal.render_turns-open_each-first-requires
render_turns-open_each-first-requires t c = let a = c.args in
    let h = c.requires in
    let w : World = world (whole a.rc a.scopes) a.page.now a.texts.now a.indent.now a.ent.now in
    let sized : length a.scopes ≡ 32 = array_sized a.s.now a.b.now a.rc a.scopes a.page.now a.texts.now a.indent.now a.ent.now h.1 in
    let n : a.front ≡ front w = front_is a.s.now a.b.now a.rc a.scopes a.page.now a.texts.now a.indent.now a.ent.now h.1 a.front h.6 in
    (h.0.small, h.3, each_fits a.s.now a.b.now a.options w a.d a.at a.p a.v h.1 h.5 h.0.plan.answers h.0.small h.3, subst (λ (x : Scope). x.inline + x.count ≤ 4096) (sym n) (each_opens a.s.now a.b.now a.options w a.d a.at a.p a.v h.1 h.5 h.0.plan.answers h.0.small h.3).near)

pub render_turns-names_of-names-requires : goal.render_turns-names_of-names-requires
render_turns-names_of-names-requires t c = let a = c.args in
    let h = c.requires in
    let w : World = world (whole a.rc a.scopes) a.page.now a.texts.now a.indent.now a.ent.now in
    let sized : length a.scopes ≡ 32 = array_sized a.s.now a.b.now a.rc a.scopes a.page.now a.texts.now a.indent.now a.ent.now h.1 in
    let n : a.front ≡ front w = front_is a.s.now a.b.now a.rc a.scopes a.page.now a.texts.now a.indent.now a.ent.now h.1 a.front h.6 in
    let first_is : c.open_each-first.result ≡ each_scope a.v (names_view (bits a.b.now) a.at) (front w) =
    c.open_each-first.ensures ∙ ap (each_scope a.v (names_view (bits a.b.now) a.at)) n in
    (h.0.small, subst (Readable a.b.now a.ent.now) (sym first_is) (each_readable a.s.now a.b.now a.options w a.d a.at a.p a.v h.1 h.5 h.0.plan.answers h.0.small h.3))

pub render_turns-deeper-q-requires : goal.render_turns-deeper-q-requires
render_turns-deeper-q-requires t c = c.requires.5.room

pub render_turns-first_turn-turn-requires : goal.render_turns-first_turn-turn-requires
render_turns-first_turn-turn-requires t c = let a = c.args in
    let h = c.requires in
    let w : World = world (whole a.rc a.scopes) a.page.now a.texts.now a.indent.now a.ent.now in
    let sized : length a.scopes ≡ 32 = array_sized a.s.now a.b.now a.rc a.scopes a.page.now a.texts.now a.indent.now a.ent.now h.1 in
    (h.0.plan, h.0.small, each_held a.s.now a.b.now a.options w a.d a.at a.p a.v h.1 h.5 h.0.plan.answers h.0.small h.3)

pub render_turns-loop-turn-init : goal.render_turns-loop-turn-init
render_turns-loop-turn-init t c = λ r z ok small held E. E

pub render_turns-shape_of-ent-in_default : goal.render_turns-shape_of-ent-in_default
render_turns-shape_of-ent-in_default t c = let a = c.args in
    let h = c.requires in
    let w : World = world (whole a.rc a.scopes) a.page.now a.texts.now a.indent.now a.ent.now in
    let sized : length a.scopes ≡ 32 = array_sized a.s.now a.b.now a.rc a.scopes a.page.now a.texts.now a.indent.now a.ent.now h.1 in
    let n : a.front ≡ front w = front_is a.s.now a.b.now a.rc a.scopes a.page.now a.texts.now a.indent.now a.ent.now h.1 a.front h.6 in
    let first_is : c.open_each-first.result ≡ each_scope a.v (names_view (bits a.b.now) a.at) (front w) =
    c.open_each-first.ensures ∙ ap (each_scope a.v (names_view (bits a.b.now) a.at)) n in
    let l = c.loop-turn in
    let lw : World = world (topped l.q a.scopes l.c) l.page l.texts l.indent l.ent in
    let H = array_begun a.s.now a.b.now a.options w a.d a.at a.p a.v h.1 h.5 h.0.plan.answers h.0.small h.3 a.scopes sized a.rc c.deeper-q.result c.open_each-first.result c.names_of-names.result refl first_is c.names_of-names.ensures
    (c.deeper-q.ensures a.scopes c.open_each-first.result sized (front_current a.scopes a.rc a.front h.6) (ap (λ (x : Scope). x.count) first_is ∙ each_empty a.s.now a.b.now a.options w a.d a.at a.p a.v h.1 h.5 h.0.plan.answers h.0.small h.3))
    c.first_turn-turn.result (c.first_turn-turn.ensures (top w) h.5.stands) in
    let i = l.invariant h.1 h.5 h.0.plan.answers h.0.small h.3 H in
    (each_sizes a.s.now a.b.now a.options w a.d a.at a.p a.v h.1 h.5 h.0.plan.answers h.0.small h.3 lw l.k l.turn i).ent

pub render_turns-shape_of-page-in_default : goal.render_turns-shape_of-page-in_default
render_turns-shape_of-page-in_default t c = let a = c.args in
    let h = c.requires in
    let w : World = world (whole a.rc a.scopes) a.page.now a.texts.now a.indent.now a.ent.now in
    let sized : length a.scopes ≡ 32 = array_sized a.s.now a.b.now a.rc a.scopes a.page.now a.texts.now a.indent.now a.ent.now h.1 in
    let n : a.front ≡ front w = front_is a.s.now a.b.now a.rc a.scopes a.page.now a.texts.now a.indent.now a.ent.now h.1 a.front h.6 in
    let first_is : c.open_each-first.result ≡ each_scope a.v (names_view (bits a.b.now) a.at) (front w) =
    c.open_each-first.ensures ∙ ap (each_scope a.v (names_view (bits a.b.now) a.at)) n in
    let l = c.loop-turn in
    let lw : World = world (topped l.q a.scopes l.c) l.page l.texts l.indent l.ent in
    let H = array_begun a.s.now a.b.now a.options w a.d a.at a.p a.v h.1 h.5 h.0.plan.answers h.0.small h.3 a.scopes sized a.rc c.deeper-q.result c.open_each-first.result c.names_of-names.result refl first_is c.names_of-names.ensures
    (c.deeper-q.ensures a.scopes c.open_each-first.result sized (front_current a.scopes a.rc a.front h.6) (ap (λ (x : Scope). x.count) first_is ∙ each_empty a.s.now a.b.now a.options w a.d a.at a.p a.v h.1 h.5 h.0.plan.answers h.0.small h.3))
    c.first_turn-turn.result (c.first_turn-turn.ensures (top w) h.5.stands) in
    let i = l.invariant h.1 h.5 h.0.plan.answers h.0.small h.3 H in
    (each_sizes a.s.now a.b.now a.options w a.d a.at a.p a.v h.1 h.5 h.0.plan.answers h.0.small h.3 lw l.k l.turn i).page

pub render_turns-shape_of-texts-in_default : goal.render_turns-shape_of-texts-in_default
render_turns-shape_of-texts-in_default t c = let a = c.args in
    let h = c.requires in
    let w : World = world (whole a.rc a.scopes) a.page.now a.texts.now a.indent.now a.ent.now in
    let sized : length a.scopes ≡ 32 = array_sized a.s.now a.b.now a.rc a.scopes a.page.now a.texts.now a.indent.now a.ent.now h.1 in
    let n : a.front ≡ front w = front_is a.s.now a.b.now a.rc a.scopes a.page.now a.texts.now a.indent.now a.ent.now h.1 a.front h.6 in
    let first_is : c.open_each-first.result ≡ each_scope a.v (names_view (bits a.b.now) a.at) (front w) =
    c.open_each-first.ensures ∙ ap (each_scope a.v (names_view (bits a.b.now) a.at)) n in
    let l = c.loop-turn in
    let lw : World = world (topped l.q a.scopes l.c) l.page l.texts l.indent l.ent in
    let H = array_begun a.s.now a.b.now a.options w a.d a.at a.p a.v h.1 h.5 h.0.plan.answers h.0.small h.3 a.scopes sized a.rc c.deeper-q.result c.open_each-first.result c.names_of-names.result refl first_is c.names_of-names.ensures
    (c.deeper-q.ensures a.scopes c.open_each-first.result sized (front_current a.scopes a.rc a.front h.6) (ap (λ (x : Scope). x.count) first_is ∙ each_empty a.s.now a.b.now a.options w a.d a.at a.p a.v h.1 h.5 h.0.plan.answers h.0.small h.3))
    c.first_turn-turn.result (c.first_turn-turn.ensures (top w) h.5.stands) in
    let i = l.invariant h.1 h.5 h.0.plan.answers h.0.small h.3 H in
    (each_sizes a.s.now a.b.now a.options w a.d a.at a.p a.v h.1 h.5 h.0.plan.answers h.0.small h.3 lw l.k l.turn i).texts

pub render_turns-shape_of-indent-in_default : goal.render_turns-shape_of-indent-in_default
render_turns-shape_of-indent-in_default t c = let a = c.args in
    let h = c.requires in
    let w : World = world (whole a.rc a.scopes) a.page.now a.texts.now a.indent.now a.ent.now in
    let sized : length a.scopes ≡ 32 = array_sized a.s.now a.b.now a.rc a.scopes a.page.now a.texts.now a.indent.now a.ent.now h.1 in
    let n : a.front ≡ front w = front_is a.s.now a.b.now a.rc a.scopes a.page.now a.texts.now a.indent.now a.ent.now h.1 a.front h.6 in
    let first_is : c.open_each-first.result ≡ each_scope a.v (names_view (bits a.b.now) a.at) (front w) =
    c.open_each-first.ensures ∙ ap (each_scope a.v (names_view (bits a.b.now) a.at)) n in
    let l = c.loop-turn in
    let lw : World = world (topped l.q a.scopes l.c) l.page l.texts l.indent l.ent in
    let H = array_begun a.s.now a.b.now a.options w a.d a.at a.p a.v h.1 h.5 h.0.plan.answers h.0.small h.3 a.scopes sized a.rc c.deeper-q.result c.open_each-first.result c.names_of-names.result refl first_is c.names_of-names.ensures
    (c.deeper-q.ensures a.scopes c.open_each-first.result sized (front_current a.scopes a.rc a.front h.6) (ap (λ (x : Scope). x.count) first_is ∙ each_empty a.s.now a.b.now a.options w a.d a.at a.p a.v h.1 h.5 h.0.plan.answers h.0.small h.3))
    c.first_turn-turn.result (c.first_turn-turn.ensures (top w) h.5.stands) in
    let i = l.invariant h.1 h.5 h.0.plan.answers h.0.small h.3 H in
    (each_sizes a.s.now a.b.now a.options w a.d a.at a.p a.v h.1 h.5 h.0.plan.answers h.0.small h.3 lw l.k l.turn i).indent

pub render_turns-returns-in_default : goal.render_turns-returns-in_default
render_turns-returns-in_default t c = let a = c.args in
    let h = c.requires in
    let w : World = world (whole a.rc a.scopes) a.page.now a.texts.now a.indent.now a.ent.now in
    let sized : length a.scopes ≡ 32 = array_sized a.s.now a.b.now a.rc a.scopes a.page.now a.texts.now a.indent.now a.ent.now h.1 in
    let n : a.front ≡ front w = front_is a.s.now a.b.now a.rc a.scopes a.page.now a.texts.now a.indent.now a.ent.now h.1 a.front h.6 in
    let first_is : c.open_each-first.result ≡ each_scope a.v (names_view (bits a.b.now) a.at) (front w) =
    c.open_each-first.ensures ∙ ap (each_scope a.v (names_view (bits a.b.now) a.at)) n in
    let l = c.loop-turn in
    let lw : World = world (topped l.q a.scopes l.c) l.page l.texts l.indent l.ent in
    let H = array_begun a.s.now a.b.now a.options w a.d a.at a.p a.v h.1 h.5 h.0.plan.answers h.0.small h.3 a.scopes sized a.rc c.deeper-q.result c.open_each-first.result c.names_of-names.result refl first_is c.names_of-names.ensures
    (c.deeper-q.ensures a.scopes c.open_each-first.result sized (front_current a.scopes a.rc a.front h.6) (ap (λ (x : Scope). x.count) first_is ∙ each_empty a.s.now a.b.now a.options w a.d a.at a.p a.v h.1 h.5 h.0.plan.answers h.0.small h.3))
    c.first_turn-turn.result (c.first_turn-turn.ensures (top w) h.5.stands) in
    let i = l.invariant h.1 h.5 h.0.plan.answers h.0.small h.3 H in
    subst (λ (x : RenderContext). Renders a.s.now a.b.now a.options w (over x lw) (each_rule a.s.now a.b.now w a.d a.at a.p a.v)) (sym (c.pop_block.ensures a.scopes (set a.scopes (l.q.used - 1) l.c)))
    (each_ended a.s.now a.b.now a.options w a.d a.at a.p a.v h.1 h.5 h.0.plan.answers h.0.small h.3 lw l.k (subst (EachGoing a.s.now a.b.now a.options w a.d a.at a.p a.v h.1 h.5 h.0.plan.answers h.0.small h.3 lw l.k) c.in_default.is i))

pub render_turns-with_count-requires : goal.render_turns-with_count-requires
render_turns-with_count-requires t c = let a = c.args in
    let h = c.requires in
    let w : World = world (whole a.rc a.scopes) a.page.now a.texts.now a.indent.now a.ent.now in
    let sized : length a.scopes ≡ 32 = array_sized a.s.now a.b.now a.rc a.scopes a.page.now a.texts.now a.indent.now a.ent.now h.1 in
    let n : a.front ≡ front w = front_is a.s.now a.b.now a.rc a.scopes a.page.now a.texts.now a.indent.now a.ent.now h.1 a.front h.6 in
    let first_is : c.open_each-first.result ≡ each_scope a.v (names_view (bits a.b.now) a.at) (front w) =
    c.open_each-first.ensures ∙ ap (each_scope a.v (names_view (bits a.b.now) a.at)) n in
    let l = c.loop-turn in
    let lw : World = world (topped l.q a.scopes l.c) l.page l.texts l.indent l.ent in
    let H = array_begun a.s.now a.b.now a.options w a.d a.at a.p a.v h.1 h.5 h.0.plan.answers h.0.small h.3 a.scopes sized a.rc c.deeper-q.result c.open_each-first.result c.names_of-names.result refl first_is c.names_of-names.ensures
    (c.deeper-q.ensures a.scopes c.open_each-first.result sized (front_current a.scopes a.rc a.front h.6) (ap (λ (x : Scope). x.count) first_is ∙ each_empty a.s.now a.b.now a.options w a.d a.at a.p a.v h.1 h.5 h.0.plan.answers h.0.small h.3))
    c.first_turn-turn.result (c.first_turn-turn.ensures (top w) h.5.stands) in
    let i = l.invariant h.1 h.5 h.0.plan.answers h.0.small h.3 H in
    omega (arith, count_small a.s.now a.b.now l.q (set a.scopes (l.q.used - 1) l.c) l.page l.texts l.indent l.ent i.going.within.ready)

pub render_turns-turn_scope-c-requires : goal.render_turns-turn_scope-c-requires
render_turns-turn_scope-c-requires t c = let a = c.args in
    let h = c.requires in
    let w : World = world (whole a.rc a.scopes) a.page.now a.texts.now a.indent.now a.ent.now in
    let sized : length a.scopes ≡ 32 = array_sized a.s.now a.b.now a.rc a.scopes a.page.now a.texts.now a.indent.now a.ent.now h.1 in
    let n : a.front ≡ front w = front_is a.s.now a.b.now a.rc a.scopes a.page.now a.texts.now a.indent.now a.ent.now h.1 a.front h.6 in
    let first_is : c.open_each-first.result ≡ each_scope a.v (names_view (bits a.b.now) a.at) (front w) =
    c.open_each-first.ensures ∙ ap (each_scope a.v (names_view (bits a.b.now) a.at)) n in
    let l = c.loop-turn in
    let lw : World = world (topped l.q a.scopes l.c) l.page l.texts l.indent l.ent in
    let H = array_begun a.s.now a.b.now a.options w a.d a.at a.p a.v h.1 h.5 h.0.plan.answers h.0.small h.3 a.scopes sized a.rc c.deeper-q.result c.open_each-first.result c.names_of-names.result refl first_is c.names_of-names.ensures
    (c.deeper-q.ensures a.scopes c.open_each-first.result sized (front_current a.scopes a.rc a.front h.6) (ap (λ (x : Scope). x.count) first_is ∙ each_empty a.s.now a.b.now a.options w a.d a.at a.p a.v h.1 h.5 h.0.plan.answers h.0.small h.3))
    c.first_turn-turn.result (c.first_turn-turn.ensures (top w) h.5.stands) in
    let i = l.invariant h.1 h.5 h.0.plan.answers h.0.small h.3 H in
    let item = c.in-Some.now.item in
    let key = c.in-Some.now.key in
    let object = c.in-Some.now.object in
    let last = c.in-Some.now.last in
    let E = subst (EachGoing a.s.now a.b.now a.options w a.d a.at a.p a.v h.1 h.5 h.0.plan.answers h.0.small h.3 lw l.k) c.in-Some.is i in
    each_item_fits a.s.now a.b.now a.options w a.d a.at a.p a.v h.1 h.5 h.0.plan.answers h.0.small h.3 lw l.k item key object last E

pub render_turns-render_elements-q-requires : goal.render_turns-render_elements-q-requires
render_turns-render_elements-q-requires t c = let a = c.args in
    let h = c.requires in
    let w : World = world (whole a.rc a.scopes) a.page.now a.texts.now a.indent.now a.ent.now in
    let sized : length a.scopes ≡ 32 = array_sized a.s.now a.b.now a.rc a.scopes a.page.now a.texts.now a.indent.now a.ent.now h.1 in
    let n : a.front ≡ front w = front_is a.s.now a.b.now a.rc a.scopes a.page.now a.texts.now a.indent.now a.ent.now h.1 a.front h.6 in
    let first_is : c.open_each-first.result ≡ each_scope a.v (names_view (bits a.b.now) a.at) (front w) =
    c.open_each-first.ensures ∙ ap (each_scope a.v (names_view (bits a.b.now) a.at)) n in
    let l = c.loop-turn in
    let lw : World = world (topped l.q a.scopes l.c) l.page l.texts l.indent l.ent in
    let H = array_begun a.s.now a.b.now a.options w a.d a.at a.p a.v h.1 h.5 h.0.plan.answers h.0.small h.3 a.scopes sized a.rc c.deeper-q.result c.open_each-first.result c.names_of-names.result refl first_is c.names_of-names.ensures
    (c.deeper-q.ensures a.scopes c.open_each-first.result sized (front_current a.scopes a.rc a.front h.6) (ap (λ (x : Scope). x.count) first_is ∙ each_empty a.s.now a.b.now a.options w a.d a.at a.p a.v h.1 h.5 h.0.plan.answers h.0.small h.3))
    c.first_turn-turn.result (c.first_turn-turn.ensures (top w) h.5.stands) in
    let i = l.invariant h.1 h.5 h.0.plan.answers h.0.small h.3 H in
    let item = c.in-Some.now.item in
    let key = c.in-Some.now.key in
    let object = c.in-Some.now.object in
    let last = c.in-Some.now.last in
    let E = subst (EachGoing a.s.now a.b.now a.options w a.d a.at a.p a.v h.1 h.5 h.0.plan.answers h.0.small h.3 lw l.k) c.in-Some.is i in
    let x = c.turn_scope-c.result in
    let is = turn_is l.c l.q.count item key l.k object last c.with_count.result x c.with_count.ensures c.turn_scope-c.ensures in
    let q₁ = c.set_current_template_name-q.result in
    let N = c.set_current_template_name-q.ensures in
    let u = each_used a.s.now a.b.now a.options w a.d a.at a.p a.v h.1 h.5 h.0.plan.answers h.0.small h.3 lw l.k l.turn i in
    let m = h.5.room in
    let y = unnamed-used l.q q₁ N in
    (omega (arith, u, m, y, c.decreases), (h.0, subst (λ (z : RenderContext). Ready a.s.now a.b.now (over z lw)) (sym (unnamed-topped l.q q₁ N a.scopes x)) (array_ready a.s.now a.b.now a.options w a.d a.at a.p a.v h.1 h.5 h.0.plan.answers h.0.small h.3 a.scopes sized l.q l.c l.page l.texts l.indent l.ent l.k item key object last E x is), omega (arith, h.2), h.4, no_name a.b.now, turn-count l.q q₁ N i.going.within.ready.most x item key l.k object last l.c is))

pub render_turns-shape_of-ent-then-is_some : goal.render_turns-shape_of-ent-then-is_some
render_turns-shape_of-ent-then-is_some t c = let a = c.args in
    let h = c.requires in
    let w : World = world (whole a.rc a.scopes) a.page.now a.texts.now a.indent.now a.ent.now in
    let sized : length a.scopes ≡ 32 = array_sized a.s.now a.b.now a.rc a.scopes a.page.now a.texts.now a.indent.now a.ent.now h.1 in
    let n : a.front ≡ front w = front_is a.s.now a.b.now a.rc a.scopes a.page.now a.texts.now a.indent.now a.ent.now h.1 a.front h.6 in
    let first_is : c.open_each-first.result ≡ each_scope a.v (names_view (bits a.b.now) a.at) (front w) =
    c.open_each-first.ensures ∙ ap (each_scope a.v (names_view (bits a.b.now) a.at)) n in
    let l = c.loop-turn in
    let lw : World = world (topped l.q a.scopes l.c) l.page l.texts l.indent l.ent in
    let H = array_begun a.s.now a.b.now a.options w a.d a.at a.p a.v h.1 h.5 h.0.plan.answers h.0.small h.3 a.scopes sized a.rc c.deeper-q.result c.open_each-first.result c.names_of-names.result refl first_is c.names_of-names.ensures
    (c.deeper-q.ensures a.scopes c.open_each-first.result sized (front_current a.scopes a.rc a.front h.6) (ap (λ (x : Scope). x.count) first_is ∙ each_empty a.s.now a.b.now a.options w a.d a.at a.p a.v h.1 h.5 h.0.plan.answers h.0.small h.3))
    c.first_turn-turn.result (c.first_turn-turn.ensures (top w) h.5.stands) in
    let i = l.invariant h.1 h.5 h.0.plan.answers h.0.small h.3 H in
    omega (arith, (each_sizes a.s.now a.b.now a.options w a.d a.at a.p a.v h.1 h.5 h.0.plan.answers h.0.small h.3 lw l.k l.turn i).ent, c.render_elements-q.auto.ent)

pub render_turns-shape_of-page-then-is_some : goal.render_turns-shape_of-page-then-is_some
render_turns-shape_of-page-then-is_some t c = let a = c.args in
    let h = c.requires in
    let w : World = world (whole a.rc a.scopes) a.page.now a.texts.now a.indent.now a.ent.now in
    let sized : length a.scopes ≡ 32 = array_sized a.s.now a.b.now a.rc a.scopes a.page.now a.texts.now a.indent.now a.ent.now h.1 in
    let n : a.front ≡ front w = front_is a.s.now a.b.now a.rc a.scopes a.page.now a.texts.now a.indent.now a.ent.now h.1 a.front h.6 in
    let first_is : c.open_each-first.result ≡ each_scope a.v (names_view (bits a.b.now) a.at) (front w) =
    c.open_each-first.ensures ∙ ap (each_scope a.v (names_view (bits a.b.now) a.at)) n in
    let l = c.loop-turn in
    let lw : World = world (topped l.q a.scopes l.c) l.page l.texts l.indent l.ent in
    let H = array_begun a.s.now a.b.now a.options w a.d a.at a.p a.v h.1 h.5 h.0.plan.answers h.0.small h.3 a.scopes sized a.rc c.deeper-q.result c.open_each-first.result c.names_of-names.result refl first_is c.names_of-names.ensures
    (c.deeper-q.ensures a.scopes c.open_each-first.result sized (front_current a.scopes a.rc a.front h.6) (ap (λ (x : Scope). x.count) first_is ∙ each_empty a.s.now a.b.now a.options w a.d a.at a.p a.v h.1 h.5 h.0.plan.answers h.0.small h.3))
    c.first_turn-turn.result (c.first_turn-turn.ensures (top w) h.5.stands) in
    let i = l.invariant h.1 h.5 h.0.plan.answers h.0.small h.3 H in
    omega (arith, (each_sizes a.s.now a.b.now a.options w a.d a.at a.p a.v h.1 h.5 h.0.plan.answers h.0.small h.3 lw l.k l.turn i).page, c.render_elements-q.auto.page)

pub render_turns-shape_of-texts-then-is_some : goal.render_turns-shape_of-texts-then-is_some
render_turns-shape_of-texts-then-is_some t c = let a = c.args in
    let h = c.requires in
    let w : World = world (whole a.rc a.scopes) a.page.now a.texts.now a.indent.now a.ent.now in
    let sized : length a.scopes ≡ 32 = array_sized a.s.now a.b.now a.rc a.scopes a.page.now a.texts.now a.indent.now a.ent.now h.1 in
    let n : a.front ≡ front w = front_is a.s.now a.b.now a.rc a.scopes a.page.now a.texts.now a.indent.now a.ent.now h.1 a.front h.6 in
    let first_is : c.open_each-first.result ≡ each_scope a.v (names_view (bits a.b.now) a.at) (front w) =
    c.open_each-first.ensures ∙ ap (each_scope a.v (names_view (bits a.b.now) a.at)) n in
    let l = c.loop-turn in
    let lw : World = world (topped l.q a.scopes l.c) l.page l.texts l.indent l.ent in
    let H = array_begun a.s.now a.b.now a.options w a.d a.at a.p a.v h.1 h.5 h.0.plan.answers h.0.small h.3 a.scopes sized a.rc c.deeper-q.result c.open_each-first.result c.names_of-names.result refl first_is c.names_of-names.ensures
    (c.deeper-q.ensures a.scopes c.open_each-first.result sized (front_current a.scopes a.rc a.front h.6) (ap (λ (x : Scope). x.count) first_is ∙ each_empty a.s.now a.b.now a.options w a.d a.at a.p a.v h.1 h.5 h.0.plan.answers h.0.small h.3))
    c.first_turn-turn.result (c.first_turn-turn.ensures (top w) h.5.stands) in
    let i = l.invariant h.1 h.5 h.0.plan.answers h.0.small h.3 H in
    omega (arith, (each_sizes a.s.now a.b.now a.options w a.d a.at a.p a.v h.1 h.5 h.0.plan.answers h.0.small h.3 lw l.k l.turn i).texts, c.render_elements-q.auto.texts)

pub render_turns-shape_of-indent-then-is_some : goal.render_turns-shape_of-indent-then-is_some
render_turns-shape_of-indent-then-is_some t c = let a = c.args in
    let h = c.requires in
    let w : World = world (whole a.rc a.scopes) a.page.now a.texts.now a.indent.now a.ent.now in
    let sized : length a.scopes ≡ 32 = array_sized a.s.now a.b.now a.rc a.scopes a.page.now a.texts.now a.indent.now a.ent.now h.1 in
    let n : a.front ≡ front w = front_is a.s.now a.b.now a.rc a.scopes a.page.now a.texts.now a.indent.now a.ent.now h.1 a.front h.6 in
    let first_is : c.open_each-first.result ≡ each_scope a.v (names_view (bits a.b.now) a.at) (front w) =
    c.open_each-first.ensures ∙ ap (each_scope a.v (names_view (bits a.b.now) a.at)) n in
    let l = c.loop-turn in
    let lw : World = world (topped l.q a.scopes l.c) l.page l.texts l.indent l.ent in
    let H = array_begun a.s.now a.b.now a.options w a.d a.at a.p a.v h.1 h.5 h.0.plan.answers h.0.small h.3 a.scopes sized a.rc c.deeper-q.result c.open_each-first.result c.names_of-names.result refl first_is c.names_of-names.ensures
    (c.deeper-q.ensures a.scopes c.open_each-first.result sized (front_current a.scopes a.rc a.front h.6) (ap (λ (x : Scope). x.count) first_is ∙ each_empty a.s.now a.b.now a.options w a.d a.at a.p a.v h.1 h.5 h.0.plan.answers h.0.small h.3))
    c.first_turn-turn.result (c.first_turn-turn.ensures (top w) h.5.stands) in
    let i = l.invariant h.1 h.5 h.0.plan.answers h.0.small h.3 H in
    omega (arith, (each_sizes a.s.now a.b.now a.options w a.d a.at a.p a.v h.1 h.5 h.0.plan.answers h.0.small h.3 lw l.k l.turn i).indent, c.render_elements-q.auto.indent)

pub render_turns-returns-then-is_some : goal.render_turns-returns-then-is_some
render_turns-returns-then-is_some t c = let a = c.args in
    let h = c.requires in
    let w : World = world (whole a.rc a.scopes) a.page.now a.texts.now a.indent.now a.ent.now in
    let sized : length a.scopes ≡ 32 = array_sized a.s.now a.b.now a.rc a.scopes a.page.now a.texts.now a.indent.now a.ent.now h.1 in
    let n : a.front ≡ front w = front_is a.s.now a.b.now a.rc a.scopes a.page.now a.texts.now a.indent.now a.ent.now h.1 a.front h.6 in
    let first_is : c.open_each-first.result ≡ each_scope a.v (names_view (bits a.b.now) a.at) (front w) =
    c.open_each-first.ensures ∙ ap (each_scope a.v (names_view (bits a.b.now) a.at)) n in
    let l = c.loop-turn in
    let lw : World = world (topped l.q a.scopes l.c) l.page l.texts l.indent l.ent in
    let H = array_begun a.s.now a.b.now a.options w a.d a.at a.p a.v h.1 h.5 h.0.plan.answers h.0.small h.3 a.scopes sized a.rc c.deeper-q.result c.open_each-first.result c.names_of-names.result refl first_is c.names_of-names.ensures
    (c.deeper-q.ensures a.scopes c.open_each-first.result sized (front_current a.scopes a.rc a.front h.6) (ap (λ (x : Scope). x.count) first_is ∙ each_empty a.s.now a.b.now a.options w a.d a.at a.p a.v h.1 h.5 h.0.plan.answers h.0.small h.3))
    c.first_turn-turn.result (c.first_turn-turn.ensures (top w) h.5.stands) in
    let i = l.invariant h.1 h.5 h.0.plan.answers h.0.small h.3 H in
    let item = c.in-Some.now.item in
    let key = c.in-Some.now.key in
    let object = c.in-Some.now.object in
    let last = c.in-Some.now.last in
    let E = subst (EachGoing a.s.now a.b.now a.options w a.d a.at a.p a.v h.1 h.5 h.0.plan.answers h.0.small h.3 lw l.k) c.in-Some.is i in
    let x = c.turn_scope-c.result in
    let is = turn_is l.c l.q.count item key l.k object last c.with_count.result x c.with_count.ensures c.turn_scope-c.ensures in
    let q₁ = c.set_current_template_name-q.result in
    let N = c.set_current_template_name-q.ensures in
    let D = unnamed-drawn a.s.now a.b.now a.options l.q q₁ N a.scopes x l.page l.texts l.indent l.ent c.render_elements-q.result c.render_elements-q.new.page c.render_elements-q.new.texts c.render_elements-q.new.indent c.render_elements-q.new.ent (body_rule a.b.now a.d a.p 0) c.render_elements-q.ensures in
    array_stopped a.s.now a.b.now a.options w a.d a.at a.p a.v h.1 h.5 h.0.plan.answers h.0.small h.3 a.scopes sized l.q l.c l.page l.texts l.indent l.ent l.k item key object last E x is c.render_elements-q.result c.render_elements-q.new.page c.render_elements-q.new.texts c.render_elements-q.new.indent c.render_elements-q.new.ent D (some_of _ (sym c.is_some.ensures ∙ c.if-is_some.true))

pub render_turns-overflow_add-k : goal.render_turns-overflow_add-k
render_turns-overflow_add-k t c = let a = c.args in
    let h = c.requires in
    let w : World = world (whole a.rc a.scopes) a.page.now a.texts.now a.indent.now a.ent.now in
    let sized : length a.scopes ≡ 32 = array_sized a.s.now a.b.now a.rc a.scopes a.page.now a.texts.now a.indent.now a.ent.now h.1 in
    let n : a.front ≡ front w = front_is a.s.now a.b.now a.rc a.scopes a.page.now a.texts.now a.indent.now a.ent.now h.1 a.front h.6 in
    let first_is : c.open_each-first.result ≡ each_scope a.v (names_view (bits a.b.now) a.at) (front w) =
    c.open_each-first.ensures ∙ ap (each_scope a.v (names_view (bits a.b.now) a.at)) n in
    let l = c.loop-turn in
    let lw : World = world (topped l.q a.scopes l.c) l.page l.texts l.indent l.ent in
    let H = array_begun a.s.now a.b.now a.options w a.d a.at a.p a.v h.1 h.5 h.0.plan.answers h.0.small h.3 a.scopes sized a.rc c.deeper-q.result c.open_each-first.result c.names_of-names.result refl first_is c.names_of-names.ensures
    (c.deeper-q.ensures a.scopes c.open_each-first.result sized (front_current a.scopes a.rc a.front h.6) (ap (λ (x : Scope). x.count) first_is ∙ each_empty a.s.now a.b.now a.options w a.d a.at a.p a.v h.1 h.5 h.0.plan.answers h.0.small h.3))
    c.first_turn-turn.result (c.first_turn-turn.ensures (top w) h.5.stands) in
    let i = l.invariant h.1 h.5 h.0.plan.answers h.0.small h.3 H in
    let item = c.in-Some.now.item in
    let key = c.in-Some.now.key in
    let object = c.in-Some.now.object in
    let last = c.in-Some.now.last in
    let E = subst (EachGoing a.s.now a.b.now a.options w a.d a.at a.p a.v h.1 h.5 h.0.plan.answers h.0.small h.3 lw l.k) c.in-Some.is i in
    let f = (each_item_fits a.s.now a.b.now a.options w a.d a.at a.p a.v h.1 h.5 h.0.plan.answers h.0.small h.3 lw l.k item key object last E).2 in
    search rules

pub render_turns-next_turn-turn-requires : goal.render_turns-next_turn-turn-requires
render_turns-next_turn-turn-requires t c = let a = c.args in
    let h = c.requires in
    let w : World = world (whole a.rc a.scopes) a.page.now a.texts.now a.indent.now a.ent.now in
    let sized : length a.scopes ≡ 32 = array_sized a.s.now a.b.now a.rc a.scopes a.page.now a.texts.now a.indent.now a.ent.now h.1 in
    let n : a.front ≡ front w = front_is a.s.now a.b.now a.rc a.scopes a.page.now a.texts.now a.indent.now a.ent.now h.1 a.front h.6 in
    let first_is : c.open_each-first.result ≡ each_scope a.v (names_view (bits a.b.now) a.at) (front w) =
    c.open_each-first.ensures ∙ ap (each_scope a.v (names_view (bits a.b.now) a.at)) n in
    let l = c.loop-turn in
    let lw : World = world (topped l.q a.scopes l.c) l.page l.texts l.indent l.ent in
    let H = array_begun a.s.now a.b.now a.options w a.d a.at a.p a.v h.1 h.5 h.0.plan.answers h.0.small h.3 a.scopes sized a.rc c.deeper-q.result c.open_each-first.result c.names_of-names.result refl first_is c.names_of-names.ensures
    (c.deeper-q.ensures a.scopes c.open_each-first.result sized (front_current a.scopes a.rc a.front h.6) (ap (λ (x : Scope). x.count) first_is ∙ each_empty a.s.now a.b.now a.options w a.d a.at a.p a.v h.1 h.5 h.0.plan.answers h.0.small h.3))
    c.first_turn-turn.result (c.first_turn-turn.ensures (top w) h.5.stands) in
    let i = l.invariant h.1 h.5 h.0.plan.answers h.0.small h.3 H in
    let item = c.in-Some.now.item in
    let key = c.in-Some.now.key in
    let object = c.in-Some.now.object in
    let last = c.in-Some.now.last in
    let E = subst (EachGoing a.s.now a.b.now a.options w a.d a.at a.p a.v h.1 h.5 h.0.plan.answers h.0.small h.3 lw l.k) c.in-Some.is i in
    let x = c.turn_scope-c.result in
    let is = turn_is l.c l.q.count item key l.k object last c.with_count.result x c.with_count.ensures c.turn_scope-c.ensures in
    let q₁ = c.set_current_template_name-q.result in
    let N = c.set_current_template_name-q.ensures in
    let D = unnamed-drawn a.s.now a.b.now a.options l.q q₁ N a.scopes x l.page l.texts l.indent l.ent c.render_elements-q.result c.render_elements-q.new.page c.render_elements-q.new.texts c.render_elements-q.new.indent c.render_elements-q.new.ent (body_rule a.b.now a.d a.p 0) c.render_elements-q.ensures in
    (h.0.plan, h.0.small, array_before a.s.now a.b.now a.options w a.d a.at a.p a.v h.1 h.5 h.0.plan.answers h.0.small h.3 a.scopes sized l.q l.c l.page l.texts l.indent l.ent l.k item key object last E x is c.render_elements-q.result c.render_elements-q.new.page c.render_elements-q.new.texts c.render_elements-q.new.indent c.render_elements-q.new.ent D (none_of _ (sym c.is_some.ensures ∙ c.if-is_some.false)))

pub render_turns-loop-turn-smaller : goal.render_turns-loop-turn-smaller
render_turns-loop-turn-smaller t c = let a = c.args in
    let h = c.requires in
    let w : World = world (whole a.rc a.scopes) a.page.now a.texts.now a.indent.now a.ent.now in
    let sized : length a.scopes ≡ 32 = array_sized a.s.now a.b.now a.rc a.scopes a.page.now a.texts.now a.indent.now a.ent.now h.1 in
    let n : a.front ≡ front w = front_is a.s.now a.b.now a.rc a.scopes a.page.now a.texts.now a.indent.now a.ent.now h.1 a.front h.6 in
    let first_is : c.open_each-first.result ≡ each_scope a.v (names_view (bits a.b.now) a.at) (front w) =
    c.open_each-first.ensures ∙ ap (each_scope a.v (names_view (bits a.b.now) a.at)) n in
    let l = c.loop-turn in
    let lw : World = world (topped l.q a.scopes l.c) l.page l.texts l.indent l.ent in
    let H = array_begun a.s.now a.b.now a.options w a.d a.at a.p a.v h.1 h.5 h.0.plan.answers h.0.small h.3 a.scopes sized a.rc c.deeper-q.result c.open_each-first.result c.names_of-names.result refl first_is c.names_of-names.ensures
    (c.deeper-q.ensures a.scopes c.open_each-first.result sized (front_current a.scopes a.rc a.front h.6) (ap (λ (x : Scope). x.count) first_is ∙ each_empty a.s.now a.b.now a.options w a.d a.at a.p a.v h.1 h.5 h.0.plan.answers h.0.small h.3))
    c.first_turn-turn.result (c.first_turn-turn.ensures (top w) h.5.stands) in
    let i = l.invariant h.1 h.5 h.0.plan.answers h.0.small h.3 H in
    let item = c.in-Some.now.item in
    let key = c.in-Some.now.key in
    let object = c.in-Some.now.object in
    let last = c.in-Some.now.last in
    let E = subst (EachGoing a.s.now a.b.now a.options w a.d a.at a.p a.v h.1 h.5 h.0.plan.answers h.0.small h.3 lw l.k) c.in-Some.is i in
    each_less a.s.now a.b.now a.options w a.d a.at a.p a.v h.1 h.5 h.0.plan.answers h.0.small h.3 lw l.k item key object last E

pub render_turns-loop-turn-preserved : goal.render_turns-loop-turn-preserved
render_turns-loop-turn-preserved t c = let a = c.args in
    let l = c.loop-turn in
    let lw : World = world (topped l.q a.scopes l.c) l.page l.texts l.indent l.ent in
    let w : World = world (whole a.rc a.scopes) a.page.now a.texts.now a.indent.now a.ent.now in
    λ r z ok small held H.
    let sized : length a.scopes ≡ 32 = array_sized a.s.now a.b.now a.rc a.scopes a.page.now a.texts.now a.indent.now a.ent.now r in
    let i = l.invariant r z ok small held H in
    let item = c.in-Some.now.item in
    let key = c.in-Some.now.key in
    let object = c.in-Some.now.object in
    let last = c.in-Some.now.last in
    let E = subst (EachGoing a.s.now a.b.now a.options w a.d a.at a.p a.v r z ok small held lw l.k) c.in-Some.is i in
    let x = c.turn_scope-c.result in
    let is = turn_is l.c l.q.count item key l.k object last c.with_count.result x c.with_count.ensures c.turn_scope-c.ensures in
    let q₁ = c.set_current_template_name-q.result in
    let N = c.set_current_template_name-q.ensures in
    let D = unnamed-drawn a.s.now a.b.now a.options l.q q₁ N a.scopes x l.page l.texts l.indent l.ent c.render_elements-q.result c.render_elements-q.new.page c.render_elements-q.new.texts c.render_elements-q.new.indent c.render_elements-q.new.ent (body_rule a.b.now a.d a.p 0) c.render_elements-q.ensures in
    array_again a.s.now a.b.now a.options w a.d a.at a.p a.v r z ok small held a.scopes sized l.q l.c l.page l.texts l.indent l.ent l.k item key object last E x is c.render_elements-q.result c.render_elements-q.new.page c.render_elements-q.new.texts c.render_elements-q.new.indent c.render_elements-q.new.ent D (none_of _ (sym c.is_some.ensures ∙ c.if-is_some.false)) c.next_turn-turn.result c.next_turn-turn.ensures
