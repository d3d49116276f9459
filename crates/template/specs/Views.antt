-- Elements and bodies: what the readers answer, what the answers say as the rules have it, and what stands at their places.
use Rattle.std.specs.Prelude.{ℕ, zero, suc, ◌+◌, Bool, ◌≡◌, eqb, Option as RustOption, Some, None}
use Rattle.std.proofs.Common.{ap}
use Rattle.rules.specs.Template as rule
use Rattle.rules.specs.Bits.{Bits}
use Rattle.rules.specs.Layout.{Layout, field}
use Rattle.rules.specs.Bundle.{string, call_of, param, block_names, maybe_body, indent}
use Rattle.rules.specs.Bundle.{element_of, Placed, placed, body}
use Rattle.layout.specs.Text.{text_at}
use Rattle.parts.specs.Holds.{Holds, end, value}
use Rattle.parts.specs.Views.{maybe_view}
use Rattle.parts.specs.Says.{names_at, MaybeHolds, indent_says}
use Rattle.calls.specs.Calls.{call_at}
use Rattle.template.specs.declared.Element.{Element}
use Rattle.template.specs.declared.Element.TheVariants.{RawString, HtmlExpression, Expression, HelperBlock, DecoratorExpression, DecoratorBlock, PartialExpression, PartialBlock, Comment}
use Rattle.template.specs.declared.ElementAt.{ElementAt}
use Rattle.template.specs.declared.Flagged.{Flagged}
use Rattle.template.specs.declared.Tail.{Tail}
use Rattle.template.specs.declared.Bodied.{Bodied}
use Rattle.template.specs.declared.Block.{Block}
use Rattle.template.specs.declared.Content.{Content}
use Rattle.template.specs.declared.Body.{Body}

-- What stands at a place, as the rules have it

abbrev pub template_at : ℕ → ℕ → Bits → ℕ → rule.Template
template_at w d b p = value rule.tnil (body w d) b p

-- the places of an element's parts; q is the place behind its kind

abbrev pub flag_at : Bits → ℕ → Bool
flag_at b p = eqb (field b 1 p) 1

abbrev pub tail_view : Bits → ℕ → Tail
tail_view b p = record { indent = maybe_view b p; before = flag_at b (end indent b p); next = end indent b p + 1 }

abbrev pub call_end : ℕ → Bits → ℕ → ℕ
call_end d b q = end (call_of (param d)) b q

abbrev pub flagged_view : ℕ → Bits → ℕ → Flagged
flagged_view d b q = record { before = flag_at b (call_end d b q); next = call_end d b q + 1 }

module _ (w d : ℕ) (b : Bits) where
  abbrev pub names_end : ℕ → ℕ
  names_end q = end block_names b (call_end d b q)

  abbrev pub template_end : ℕ → ℕ
  template_end q = end (maybe_body (body w d)) b (names_end q)

  abbrev pub inverse_end : ℕ → ℕ
  inverse_end q = end (maybe_body (body w d)) b (template_end q)

  abbrev pub body_end : ℕ → ℕ
  body_end q = end (body w d) b (call_end d b q)

  abbrev pub bodied_view : ℕ → Bodied
  bodied_view q = record {
    body = call_end d b q;
    indent = maybe_view b (body_end q);
    before = flag_at b (end indent b (body_end q));
    next = end indent b (body_end q) + 1;
  }

  abbrev pub block_view : ℕ → Block
  block_view q = record {
    names = call_end d b q;
    template = maybe_view b (names_end q);
    inverse = maybe_view b (template_end q);
    before = flag_at b (inverse_end q);
    next = inverse_end q + 1;
  }

  abbrev pub kind_view : ℕ → ℕ → Element
  kind_view q zero = RawString q
  kind_view q (suc zero) = HtmlExpression q (flagged_view d b q).before
  kind_view q (suc (suc zero)) = Expression q (flagged_view d b q).before
  kind_view q (suc (suc (suc zero))) = HelperBlock q (block_view q).names (block_view q).template (block_view q).inverse (block_view q).before
  kind_view q (suc (suc (suc (suc zero)))) = DecoratorExpression q (tail_view b (call_end d b q)).indent (tail_view b (call_end d b q)).before
  kind_view q (suc (suc (suc (suc (suc zero))))) = DecoratorBlock q (bodied_view q).body (bodied_view q).indent (bodied_view q).before
  kind_view q (suc (suc (suc (suc (suc (suc zero)))))) = PartialExpression q (tail_view b (call_end d b q)).indent (tail_view b (call_end d b q)).before
  kind_view q (suc (suc (suc (suc (suc (suc (suc zero))))))) = PartialBlock q (bodied_view q).body (bodied_view q).indent (bodied_view q).before
  kind_view q (suc (suc (suc (suc (suc (suc (suc (suc k)))))))) = Comment q

abbrev pub content_of : Element → ℕ → Content
content_of e n = record { element = e; next = n }

abbrev pub content_view : ℕ → ℕ → Bits → ℕ → Content
content_view w d b p = content_of (kind_view w d b (p + 4) (field b 4 p)) (end (element_of (call_of (param d)) (body w d)) b p)

-- an element of a body, with d depths left for what stands in it
abbrev pub in_body : ℕ → ℕ → Layout Placed
in_body w d = placed w (call_of (param d)) (body w d)

abbrev pub element_view : ℕ → ℕ → Bits → ℕ → ElementAt
element_view w d b p = record {
  line = field b w p;
  column = field b w (p + w);
  element = (content_view w d b (p + w + w)).element;
  next = (content_view w d b (p + w + w)).next;
}

-- an element of which only the content was read, with the line and column that stand before it
abbrev pub placed_element : ℕ → Bits → ℕ → Content → ElementAt
placed_element w b p x = record { line = field b w p; column = field b w (p + w); element = x.element; next = x.next }

pub placed_element_is : (w d : ℕ) (b : Bits) (p : ℕ) (x : Content) → x ≡ content_view w d b (p + w + w) → placed_element w b p x ≡ element_view w d b p
placed_element_is w d b p x e = ap (placed_element w b p) e

-- and of an element that was read, its content
pub element_content : (w d : ℕ) (b : Bits) (p : ℕ) (v : ElementAt) → v ≡ element_view w d b p → content_of v.element v.next ≡ content_view w d b (p + w + w)
element_content w d b p v e = ap (λ (v : ElementAt). content_of v.element v.next) e

abbrev pub body_view : Bits → ℕ → Body
body_view b p = record { count = field b 12 p; first = p + 12 }

-- What an answer says, and what stands

abbrev pub body_says : ℕ → ℕ → Bits → RustOption ℕ → rule.Body
body_says w d b (Some q) = rule.body (template_at w d b q)
body_says w d b None = rule.no_body

module _ (w d : ℕ) (b : Bits) where
  abbrev pub element_says : Element → rule.TemplateElement
  element_says (RawString q) = rule.raw_string (text_at b q)
  element_says (HtmlExpression c f) = rule.html_expression (call_at d b c) f
  element_says (Expression c f) = rule.expression (call_at d b c) f
  element_says (HelperBlock c n t i f) = rule.helper_block (call_at d b c) (names_at b n) (body_says w d b t) (body_says w d b i) f
  element_says (DecoratorExpression c i f) = rule.decorator_expression (call_at d b c) (indent_says b i) f
  element_says (DecoratorBlock c t i f) = rule.decorator_block (call_at d b c) (template_at w d b t) (indent_says b i) f
  element_says (PartialExpression c i f) = rule.partial_expression (call_at d b c) (indent_says b i) f
  element_says (PartialBlock c t i f) = rule.partial_block (call_at d b c) (template_at w d b t) (indent_says b i) f
  element_says (Comment q) = rule.comment (text_at b q)

  abbrev pub CallHolds : ℕ → Type 0
  CallHolds c = Holds (call_of (param d)) b c

  abbrev pub ElementHolds : Element → Type 0
  ElementHolds (RawString q) = Holds string b q
  ElementHolds (HtmlExpression c f) = CallHolds c
  ElementHolds (Expression c f) = CallHolds c
  ElementHolds (HelperBlock c n t i f) = CallHolds c × Holds block_names b n × MaybeHolds (body w d) b t × MaybeHolds (body w d) b i
  ElementHolds (DecoratorExpression c i f) = CallHolds c × MaybeHolds string b i
  ElementHolds (DecoratorBlock c t i f) = CallHolds c × Holds (body w d) b t × MaybeHolds string b i
  ElementHolds (PartialExpression c i f) = CallHolds c × MaybeHolds string b i
  ElementHolds (PartialBlock c t i f) = CallHolds c × Holds (body w d) b t × MaybeHolds string b i
  ElementHolds (Comment q) = Holds string b q
