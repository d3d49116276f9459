-- Raw texts, expressions that are a path alone, and lookups: s is the plan, b the bundle.
use Rattle.std.specs.Prelude.{ℕ, ◌+◌, ◌*◌, ◌<◌, Bool, true, false, List, ◌≡◌, eqb, Option as RustOption, Some, None}
use Rattle.rules.specs.Bytes.{Bytes, pick}
use Rattle.rules.specs.Bits.{Bits, bits}
use Rattle.rules.specs.Layout.{field}
use Rattle.rules.specs.Bundle.{string, path, param, call_of}
use Rattle.rules.specs.Render.{render_element}
use Rattle.output.specs.declared.Writer.{Writer}
use Rattle.parts.specs.Holds.{Holds, end}
use Rattle.parts.specs.Says.{path_at}
use Rattle.calls.specs.declared.Parameter.{Parameter}
use Rattle.calls.specs.declared.Parameter.TheVariants as parameter
use Rattle.calls.specs.Calls.{param_view}
use Rattle.template.specs.declared.Element.{Element}
use Rattle.template.specs.declared.Element.TheVariants.{RawString, HtmlExpression, Expression, HelperBlock, DecoratorExpression, DecoratorBlock, PartialExpression, PartialBlock, Comment}
use Rattle.template.specs.Views.{flag_at, call_end, content_of, content_view, element_says, element_view}
use Rattle.value.specs.Numbers.{decoded}
use Rattle.scope.specs.declared.Scope.{Scope}
use Rattle.context.specs.Start.{Newest, needs_all}
use Rattle.expand.specs.declared.Options.{Options}
use Rattle.helpers.specs.declared.Does.TheVariants as does
use Rattle.helpers.specs.declared.Shows.{Shows}
use Rattle.helpers.specs.declared.Shows.TheVariants as shows
use Rattle.helpers.specs.Does.{ExpressingCall}
use Rattle.state.specs.Context.{RenderContext}
use Rattle.state.specs.Setters.{failed, with_writer}
use Rattle.state.specs.World.{World}
use Rattle.drawing.specs.Renders.{Renders}
use Rattle.helping.specs.Decided.{DecidedBy}
use Rattle.plain.specs.declared.Plain.{Plain}
use Rattle.plain.specs.declared.Plain.TheVariants.{Text, Path, Call, Other}
use Rattle.plain.specs.declared.Shown.{Shown}
use Rattle.plain.specs.declared.Shown.TheVariants as shown
use Rattle.plain.specs.Looked.{lookup_view, Numbered}
use Rattle.error.specs.Reasons.{refusal}
use Rattle.error.specs.declared.RenderErrorReason.TheVariants.{BlockTextsLimit, PageLimit}
use Rattle.error.specs.declared.RenderErrorReason.{RenderErrorReason as Reason}

-- a context with another writer, and why it is refused, if it is
abbrev pub kept : RenderContext → Writer → RustOption Reason → RenderContext
kept c w n = failed (with_writer c w) n

-- what does not fit is 24 in a block text and 25 on the page
abbrev pub full_refusal : Writer → RustOption Reason
full_refusal w = pick w.full (Some (pick w.block_text BlockTextsLimit PageLimit)) None

-- What few reads tell of the element whose kind stands at p

-- a raw text of n bytes
pub record TextIs (d : ℕ) (b : Bits) (p n : ℕ) : Type 0 where
  pub seen : content_view 16 d b p ≡ content_of (RawString (p + 4)) (p + 20 + 8 * n)
  pub count : n ≡ field b 16 (p + 4)
  pub text : Holds string b (p + 4)

-- an expression, with escaping or without
abbrev pub expression_of : Bool → ℕ → Bool → Element
expression_of true q f = HtmlExpression q f
expression_of false q f = Expression q f

pub record ExpressionIs (d : ℕ) (b : Bits) (p : ℕ) (html : Bool) : Type 0 where
  pub seen : content_view 16 d b p ≡ content_of (expression_of html (p + 4) (flag_at b (call_end d b (p + 4)))) (call_end d b (p + 4) + 1)
  pub call : Holds (call_of (param d)) b (p + 4)

-- one that is the path at v alone; next is the place behind it
pub record PathIs (d : ℕ) (b : Bits) (p : ℕ) (html : Bool) (v next : ℕ) : Type 0 where
  pub before : Bool
  pub seen : content_view 16 d b p ≡ content_of (expression_of html (p + 4) before) next
  pub call : Holds (call_of (param d)) b (p + 4)
  pub named : param_view b (p + 4) ≡ parameter.Path v
  pub leads : Holds path b v
  pub bare : field b 8 (end path b v) ≡ 0

-- whether a call's name is a path, and there are neither parameters nor pairs
abbrev pub is_alone : Bits → Parameter → Bool
is_alone b (parameter.Name q) = false
is_alone b (parameter.Path q) = eqb (field b 8 (end path b q)) 0
is_alone b (parameter.Literal q) = false
is_alone b (parameter.Subexpression q) = false

-- whether an element is a raw text or an expression
abbrev pub is_shown : Element → Bool
is_shown (RawString q) = true
is_shown (HtmlExpression c f) = true
is_shown (Expression c f) = true
is_shown (HelperBlock c n t i f) = false
is_shown (DecoratorExpression c i f) = false
is_shown (DecoratorBlock c t i f) = false
is_shown (PartialExpression c i f) = false
is_shown (PartialBlock c t i f) = false
is_shown (Comment q) = false

-- whether it is an expression without escaping
abbrev pub is_html : Element → Bool
is_html (RawString q) = false
is_html (HtmlExpression c f) = true
is_html (Expression c f) = false
is_html (HelperBlock c n t i f) = false
is_html (DecoratorExpression c i f) = false
is_html (DecoratorBlock c t i f) = false
is_html (PartialExpression c i f) = false
is_html (PartialBlock c t i f) = false
is_html (Comment q) = false

abbrev pub PlainIs : ℕ → Bits → ℕ → Plain → Type 0
PlainIs d b p (Text n) = TextIs d b p n
PlainIs d b p (Path html v next) = PathIs d b p html v next
PlainIs d b p (Call html) = ExpressionIs d b p html × (is_alone b (param_view b (p + 4)) ≡ false)
PlainIs d b p Other = is_shown (content_view 16 d b p).element ≡ false

-- the element at p is drawn, and z is the place behind it
pub record OneDrawn (s b : Bytes) (o : Options) (d p : ℕ) (l l' : World) (z : ℕ) : Type 0 where
  pub next : z ≡ (element_view 16 d (bits b) p).next
  pub renders : Renders s b o l l' (λ g R. render_element g R (element_says 16 d (bits b) (element_view 16 d (bits b) p).element))

-- What is told of the element at once, by the front alone: off says whether escaping is disabled already

module _ (s b : Bytes) (ent : List ℕ) (front : Scope) (names : ℕ) (off : Bool) (o : Options) (d p : ℕ) where
  -- the expression does what a says, whatever scopes are open beneath the front
  abbrev pub ExpressesNear : Shows → Type 0
  ExpressesNear a = (l : List Scope) (used : ℕ) → Newest b ent front names l used → ExpressingCall s b ent l used o d (p + 4) a

  -- an expression that is a path alone does what a says; next is the place behind it
  pub record ShowsAt (html : Bool) (next : ℕ) (a : Shows) : Type 0 where
    pub path : ℕ
    pub is : PathIs d (bits b) p html path next
    pub escapes : html ≡ true → off ≡ false
    pub shows : ExpressesNear a

  -- one that is a lookup writes the value with the number v
  pub record LookupAt (v : ℕ) (html before : Bool) (next : ℕ) : Type 0 where
    pub seen : content_view 16 d (bits b) p ≡ content_of (expression_of html (p + 4) before) next
    pub escapes : html ≡ true → off ≡ false
    pub shows : ExpressesNear shows.Helper
    pub writes : (l : List Scope) (used : ℕ) → Newest b ent front names l used → DecidedBy s b ent l used o d (p + 4) false false (does.Write (decoded v))

  -- an element is left only in these cases
  pub data Untold : Type 0 where
    -- it is neither a raw text nor an expression
    other : is_shown (content_view 16 d (bits b) p).element ≡ false → Untold
    -- it is an expression without escaping, where escaping is disabled already
    disabled : is_html (content_view 16 d (bits b) p).element ≡ true → off ≡ true → Untold
    -- it is a path alone, and a helper has its name
    helper : (html : Bool) (next : ℕ) → ShowsAt html next shows.Helper → Untold
    -- or all scopes are needed to follow it
    far : (html : Bool) (v next : ℕ) → PathIs d (bits b) p html v next → needs_all b ent front names (path_at (bits b) v) ≡ true → Untold
    -- it is another expression, and no lookup, or one of which no value was found
    unfound : (html : Bool) → ExpressionIs d (bits b) p html → is_alone (bits b) (param_view (bits b) (p + 4)) ≡ false
        → (n : ℕ) → Numbered s b ent front names o (lookup_view (bits b) (p + 4)) n → n < 2 → Untold

  abbrev pub ShownIs : Shown → Type 0
  ShownIs (shown.Text n) = TextIs d (bits b) p n
  ShownIs (shown.Value v html next) = ShowsAt html next (shows.Value (decoded v))
  ShownIs (shown.Lookup v html before next) = LookupAt v html before next
  ShownIs (shown.Nothing next) = (html : Bool) × ShowsAt html next shows.Nothing
  ShownIs (shown.Bad e) = (html : Bool) × (next : ℕ) × ShowsAt html next (shows.Bad e)
  ShownIs shown.Other = Untold
