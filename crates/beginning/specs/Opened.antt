-- What the beginning of a partial leaves to be drawn: s is the plan, b the bundle.
use Rattle.std.specs.Prelude.{ℕ, ◌+◌, ◌-◌, ◌≤◌, ◌<◌, Bool, ◌||◌, ◌≡◌, length, Option as RustOption, Some, None}
use Rattle.std.proofs.lemmas.List.Edits.{sets}
use Rattle.std.proofs.Math.Seq.{slice}
use Rattle.rules.specs.Bytes.{Bytes}
use Rattle.rules.specs.Bits.{Bits, bits}
use Rattle.rules.specs.Bundle.{string, body}
use Rattle.rules.specs.State.{Draw, text_size}
use Rattle.rules.specs.Registry.{Registry}
use Rattle.rules.specs.Partial.{Rendering}
use Rattle.rules.specs.Render.{render_body, render_partial_element}
use Rattle.parts.specs.Holds.{Holds}
use Rattle.parts.specs.Says.{MaybeHolds, indent_says}
use Rattle.calls.specs.Calls.{call_at}
use Rattle.template.specs.Views.{body_says}
use Rattle.decorators.specs.Indents.{bytes_of}
use Rattle.expand.specs.declared.Options.{Options}
use Rattle.output.specs.declared.Writer.{Writer}
use Rattle.scope.specs.declared.Scope.{Scope}
use Rattle.state.specs.declared.RenderContext as code
use Rattle.state.specs.Context.{RenderContext}
use Rattle.state.specs.Setters.{with_template, finished_named}
use Rattle.state.specs.World.{World, world, Ready}
use Rattle.texts.specs.Setters.{text_closed, indented, concluded}
use Rattle.inlining.specs.Decorated.{is_at}
use Rattle.drawing.specs.Renders.{Named, Renders}
use Rattle.drawing.specs.Continues.{Continues}
use Rattle.drawing.specs.Renders.{body_rule}
use Rattle.beginning.specs.declared.Next.{Next}
use Rattle.beginning.specs.declared.Next.TheVariants.{Done, Fallback, Body, Text}
use Rattle.beginning.specs.declared.Begun.{Begun}

-- nothing is left to be drawn; x is the newest scope
abbrev pub done : code.RenderContext → Scope → Begun
done c x = record { rc = c; top = x; next = Done }

-- The body: its own indent stands at `at`, n is one more than the place of its name

abbrev pub body_context : Bits → RustOption ℕ → ℕ → RenderContext → RenderContext
body_context b at n c = with_template (indented c (c.writer.has_indent || is_at at) (c.writer.indent + text_size (indent_says b at))) n

-- w is the writer in front of it
abbrev pub body_buffer : Bits → RustOption ℕ → Writer → Bytes → Bytes
body_buffer b at w i = sets i w.indent (bytes_of (indent_says b at))

pub record BodyFits (b : Bits) (at : RustOption ℕ) (w : Writer) (room : ℕ) : Type 0 where
  pub held : MaybeHolds string b at
  pub fits : w.indent + text_size (indent_says b at) ≤ room

-- The block text: it was drawn from `begin` on; `block` says whether the output from before is a block text too

abbrev pub text_context : Bits → RustOption ℕ → ℕ → ℕ → Bool → RenderContext → RenderContext
text_context b at n begin block c = body_context b at n (text_closed c begin block)

-- w is the writer behind it
abbrev pub text_buffer : ℕ → Writer → Bytes → Bytes
text_buffer begin w ts = sets ts (w.high - (w.low - begin)) (slice begin w.low ts)

pub record TextEnds (b : Bits) (at : RustOption ℕ) (begin : ℕ) (w : Writer) (texts indent : ℕ) : Type 0 where
  pub from : begin ≤ w.low
  pub low : w.low ≤ w.high
  pub high : w.high ≤ texts
  pub short : w.low < begin + 65536
  pub body : BodyFits b at w indent

-- the world behind the two
abbrev pub text_ended : Bytes → RustOption ℕ → ℕ → ℕ → Bool → World → World
text_ended b at n begin block w =
    world (text_context (bits b) at n begin block w.rc) w.page (text_buffer begin w.rc.writer w.texts) (body_buffer (bits b) at w.rc.writer w.indent) w.ent

-- The element: its call at p, its own body and its own indent

abbrev pub partial_rule : Bytes → ℕ → ℕ → RustOption ℕ → RustOption ℕ → Bool → Registry → Rendering → Draw
partial_rule b d p own at before g R = render_partial_element g R (call_at d (bits b) p) (render_body g R (body_says 16 d (bits b) own)) (indent_says (bits b) at) before

-- the block text's body at t is drawn first; what comes behind it is the body of e depths at q, under the name at n
pub record TextBegun (s b : Bytes) (o : Options) (w w₁ : World) (d : ℕ) (rule : Registry → Rendering → Draw) (t q e n : ℕ) (at : RustOption ℕ) : Type 0 where
  pub text : Holds (body 16 d) (bits b) t
  pub depth : e ≤ 16
  pub body : Holds (body 16 e) (bits b) q
  pub named : Named b n
  pub ready : Ready s b w₁
  pub deeper : 1 + w.rc.used ≤ w₁.rc.used
  pub stop : (w₂ : World) → Renders s b o w₁ w₂ (body_rule b d t 0) → (w₂.rc.bad ≡ None → ⊥) → Renders s b o w w₂ rule
  pub ends : (w₂ : World) → Renders s b o w₁ w₂ (body_rule b d t 0) → w₂.rc.bad ≡ None → TextEnds (bits b) at w.rc.writer.low w₂.rc.writer (length w₂.texts) (length w₂.indent)
  pub goes : (w₂ : World) → Renders s b o w₁ w₂ (body_rule b d t 0) → w₂.rc.bad ≡ None
      → Continues s b o w (text_ended b at n w.rc.writer.low w.rc.writer.block_text w₂) 1 (body_rule b e q n) rule (concluded w.rc)

-- w is in front of the element, w₁ is what its beginning leaves; only an element with an own body has a fallback or a block text
abbrev pub PartialBegun : Bytes → Bytes → Options → World → World → ℕ → (Registry → Rendering → Draw) → RustOption ℕ → RustOption ℕ → Next → Type 0
PartialBegun s b o w w₁ d rule own at Done = Renders s b o w w₁ rule
PartialBegun s b o w w₁ d rule own at (Fallback q) =
    Holds (body 16 d) (bits b) q × (own ≡ Some q) × Continues s b o w w₁ 0 (body_rule b d q 0) rule (finished_named w.rc.template w.rc.writer)
PartialBegun s b o w w₁ d rule own at (Body q e n) = (e ≤ 16) × Holds (body 16 e) (bits b) q × Named b n × Continues s b o w w₁ 1 (body_rule b e q n) rule (concluded w.rc)
PartialBegun s b o w w₁ d rule own at (Text t q e n) = TextBegun s b o w w₁ d rule t q e n at × (own ≡ Some t)
