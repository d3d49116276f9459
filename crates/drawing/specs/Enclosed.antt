-- A partial whose scope is open: its block text, its indent, and its body.
use Rattle.std.specs.Prelude.{ℕ, zero, suc, ◌+◌, ◌-◌, ◌≤◌, ◌<◌, Bool, true, false, ◌||◌, List, [], ◌≡◌, refl, take, Option as RustOption, Some, None}
use Rattle.std.proofs.Math.Option.{Option, none, some}
use Rattle.std.proofs.Math.Path.{sym, ap, ap₂, subst}
use Rattle.std.proofs.Common.{◌∙◌, arith, length-take}
use Rattle.std.proofs.Math.ListN.{length}
use Rattle.std.proofs.lemmas.List.Edits.{sets}
use Rattle.std.proofs.Math.Seq.{length-sets}
use Rattle.rules.specs.Bytes.{Bytes, pick}
use Rattle.rules.specs.Bits.{bits}
use Rattle.rules.specs.Bundle.{string}
use Rattle.rules.specs.Template as template
use Rattle.rules.specs.State as rules
use Rattle.rules.specs.State.{Out, Res, ok, err, Draw, set_out, text_size, set_current_template_name, set_indent_string, ◌after◌}
use Rattle.rules.specs.Registry.{Registry}
use Rattle.rules.specs.BlockUtil.{Drawable}
use Rattle.rules.specs.Partial.{Rendering, cleanup, take_text, block_text_of, render_partial}
use Rattle.rules.specs.Render.{join_indent, is_some, render_body, render_elements, render_template}
use Rattle.output.proofs.Texts.{take_sets}
use Rattle.parts.specs.Says.{indent_says}
use Rattle.template.specs.Views.{template_at, body_says}
use Rattle.expand.specs.declared.Options.{Options}
use Rattle.decorators.specs.Indents.{own, bytes_of, in_force, join_is}
use Rattle.state.specs.Setters.{with_template}
use Rattle.state.specs.World.{World, world, over, front, name_at, abs, Ready, Goes, Draws}
use Rattle.state.specs.Laws.{draws_from}
use Rattle.state.specs.Steps.{Within, goes_template, abs_template}
use Rattle.texts.specs.Included.{Included}
use Rattle.texts.specs.Opening.{text_begun, text_done, text_none, indent_set, abs_begun, ready_begun, abs_done, included_text, abs_none, included_none, abs_indent, included_indent}
use Rattle.texts.specs.Cleanup.{draws_cleanup, draws_cleanup_stop}
use Rattle.texts.specs.Drawing.{draws_text_stop}
use Rattle.inlining.specs.Decorated.{is_at}
use Rattle.drawing.specs.Renders.{registry_of, Named, Renders, Joins, joined, target, Concludes, TextDrawn, BodyDrawn}

pub own_says : (b : Bytes) (m : RustOption ℕ) → own (bits b) m ≡ indent_says (bits b) m
own_says b (Some p) = refl
own_says b None = refl

own_at : (b : Bytes) (m : RustOption ℕ) → is_some (indent_says (bits b) m) ≡ is_at m
own_at b (Some p) = refl
own_at b None = refl

-- `include_body`: w₁ has the block text settled

module _ (s b : Bytes) (o : Options) (w₁ : World) (q e n : ℕ) (at : RustOption ℕ) (named : Named b n) (joins : Joins b w₁ at) (r₁ : Ready s b w₁) where
  abbrev m : ℕ
  m = w₁.rc.writer.indent + text_size (indent_says (bits b) at)

  abbrev buffer : Bytes
  buffer = sets w₁.indent w₁.rc.writer.indent (bytes_of (indent_says (bits b) at))

  abbrev has : Bool
  has = w₁.rc.writer.has_indent || is_at at

  abbrev w₂ : World
  w₂ = indent_set w₁ has m buffer

  abbrev w₃ : World
  w₃ = over (with_template w₂.rc n) w₂

  absent_is : (x : Bool) (a : RustOption ℕ) → (x ≡ false → w₁.rc.writer.indent ≡ 0) → (x || is_at a) ≡ false → w₁.rc.writer.indent + text_size (indent_says (bits b) a) ≡ 0
  absent_is true a f z = let k : ◌≡◌ {A = ℕ} 0 1 = cc in absurd (omega arith)
  absent_is false (Some p) f z = let k : ◌≡◌ {A = ℕ} 0 1 = cc in absurd (omega arith)
  absent_is false None f z = omega (arith, f refl)

  module _ (w : World) (r : Ready s b w) (h : Included s b w w₁) (same-has : w₁.rc.writer.has_indent ≡ w.rc.writer.has_indent) (same_indent : w₁.rc.writer.indent ≡ w.rc.writer.indent) where
    pub inside : Included s b w w₂
    inside =
        included_indent s b w₁ has m buffer w h joins (absent_is w₁.rc.writer.has_indent at r₁.absent) (omega (arith, same_indent)) (length-sets w₁.indent w₁.rc.writer.indent (bytes_of (indent_says (bits b) at)))
        (take_sets (bytes_of (indent_says (bits b) at)) w₁.indent w₁.rc.writer.indent w.rc.writer.indent (omega (arith, same_indent)))

    indent_before : in_force w₁.rc.writer.has_indent w₁.rc.writer.indent w₁.indent ≡ (abs s b w).kept.indent_string
    unfolding abs
    indent_before =
        ap₂ (λ (x : Bool) (k : ℕ). in_force x k w₁.indent) same-has same_indent ∙ ap (λ (x : Bytes). pick w.rc.writer.has_indent (some x) none) h.indent

    indent_is : in_force has m buffer ≡ joined s b w at
    indent_is =
        ap (λ (x : Bool). in_force (w₁.rc.writer.has_indent || x) m buffer) (sym (own_at b at))
        ∙ join_is w₁.rc.writer.has_indent w₁.rc.writer.indent w₁.indent (indent_says (bits b) at) r₁.absent (omega (arith, joins, r₁.buffer))
        ∙ ap (λ (i : Option Bytes). join_indent i (indent_says (bits b) at)) indent_before

    indented : abs s b w₂ ≡ set_indent_string (joined s b w at) (abs s b w₁)
    indented = abs_indent s b w₁ has m buffer ∙ ap (λ (i : Option Bytes). set_indent_string i (abs s b w₁)) indent_is

    module _ (w₆ : World) (D : Renders s b o w₃ w₆ (λ g R. render_elements g R (name_at b n) (template_at 16 e (bits b) q))) (k : ℕ) (le : 32 ≤ k + w₁.rc.used) where
      g : Registry
      g = registry_of s b o (length w₁.page)

      drawn : Draws s b w₂ w₆ (target (registry_of s b o (length w₁.page)) k b q e n (set_indent_string (joined s b w at) (abs s b w₁)))
      drawn =
          subst (λ (c : rules.RenderContext). Draws s b w₂ w₆ (target (registry_of s b o (length w₁.page)) k b q e n c)) indented
          (draws_from s b w₂ w₃ w₆ _ (goes_template s b w₂ inside.ready n named)
          (subst (λ (c : rules.RenderContext). Draws s b w₃ w₆ (render_elements (registry_of s b o (length w₁.page)) (render_template (registry_of s b o (length w₁.page)) k) (name_at b n) (template_at 16 e (bits b) q) c)) (abs_template s b w₂ n) (D.at k le)))

      pub body_concludes : Concludes s b w w₆ (cleanup (abs s b w).seen.current_template (abs s b w).kept.indent_string after target (registry_of s b o (length w₁.page)) k b q e n (set_indent_string (joined s b w at) (abs s b w₁)))
      body_concludes = record {
        fine = λ z. draws_cleanup s b w w₂ w₆ _ r inside drawn z;
        refused = λ z. draws_cleanup_stop s b w w₂ w₆ _ (cleanup (abs s b w).seen.current_template (abs s b w).kept.indent_string) drawn z;
      }

  pub body_drawn : (w₆ : World) → Renders s b o w₃ w₆ (λ g R. render_elements g R (name_at b n) (template_at 16 e (bits b) q)) → BodyDrawn s b o w₁ w₆ q e n at
  body_drawn w₆ D = record { at = λ w r h x y k le. body_concludes w r h x y w₆ D k le }

-- `include_text`

module _ (s b : Bytes) (o : Options) (w₁ : World) (d q e n : ℕ) (at : RustOption ℕ) where
  abbrev G : Registry
  G = registry_of s b o (length w₁.page)

  -- without a text
  pub text_nothing : (w₆ : World) → BodyDrawn s b o (text_none w₁) w₆ q e n at → TextDrawn s b o w₁ w₆ d q e n None at
  unfolding render_body block_text_of render_partial
  text_nothing w₆ D = record {
    at = λ w r h nb nt f k le ge.
        subst (λ (c : rules.RenderContext). Concludes s b w w₆ (cleanup (abs s b w).seen.current_template (abs s b w).kept.indent_string after target G k b q e n (set_indent_string (joined s b w at) c))) (abs_none s b w w₁ h nb nt)
        (D.at w r (included_none s b w w₁ h nb nt) h.grows.has_indent h.grows.indent k ge);
  }

  module _ (p : ℕ) (w₃ : World) (r₁ : Ready s b w₁) (D : Renders s b o (over (with_template (text_begun w₁).rc 0) (text_begun w₁)) w₃ (λ g R. render_elements g R none (template_at 16 d (bits b) p))) where
    abbrev O : ℕ → Draw
    O f u = render_elements G (render_template G f) none (template_at 16 d (bits b) p) (set_current_template_name none u)

    own_drawn : (f : ℕ) → 32 ≤ f + w₁.rc.used → Draws s b (text_begun w₁) w₃ (O f (abs s b (text_begun w₁)))
    own_drawn f le =
        draws_from s b (text_begun w₁) (over (with_template (text_begun w₁).rc 0) (text_begun w₁)) w₃ _ (goes_template s b (text_begun w₁) (ready_begun s b w₁ r₁) 0 (λ z. absurd (z refl)))
        (subst (λ (c : rules.RenderContext). Draws s b (over (with_template (text_begun w₁).rc 0) (text_begun w₁)) w₃ (render_elements G (render_template G f) none (template_at 16 d (bits b) p) c)) (abs_template s b (text_begun w₁) 0) (D.at f le))

    abbrev begun : ℕ → Res
    begun f = O f (set_out Out.block_text (abs s b w₁))

    own_is : (f : ℕ) → O f (abs s b (text_begun w₁)) ≡ begun f
    own_is f = ap (O f) (abs_begun s b w₁)

    pub text_refused : (w₃.rc.bad ≡ None → ⊥) → TextDrawn s b o w₁ w₃ d q e n (Some p) at
    unfolding render_body block_text_of
    text_refused z = record {
      at = λ w r h nb nt f k le ge.
          let x = draws_text_stop s b w (text_begun w₁) w₃ (begun f) (abs s b w₁).kept.out (render_partial (abs s b w).seen.current_template (abs s b w).kept.indent_string (joined s b w at) (target G k b q e n)) (subst (Draws s b (text_begun w₁) w₃) (own_is f) (own_drawn f le)) z in
          record { fine = λ y. absurd (z y); refused = λ y. x };
    }

    pub text_drawn : w₃.rc.bad ≡ None → (w₆ : World) → BodyDrawn s b o (text_done w₁ w₃) w₆ q e n at → TextDrawn s b o w₁ w₆ d q e n (Some p) at
    unfolding render_body block_text_of render_partial take_text
    text_drawn z w₆ B = record {
      at = λ w r h nb nt f k le ge.
          let t = own_drawn f le in
          let y = t.fine z in
          let is : begun f ≡ ok (abs s b w₃) y.text = sym (own_is f) ∙ y.is in
          let page : length w₃.page ≡ length w₁.page = y.goes.sizes.page in
          let used : w₃.rc.used ≡ w₁.rc.used = y.goes.used in
          subst (Concludes s b w w₆) (sym (ap (take_text (abs s b w₁).kept.out (render_partial (abs s b w).seen.current_template (abs s b w).kept.indent_string (joined s b w at) (target G k b q e n))) is))
          (subst (λ (c : rules.RenderContext). Concludes s b w w₆ (cleanup (abs s b w).seen.current_template (abs s b w).kept.indent_string after target G k b q e n (set_indent_string (joined s b w at) c))) (abs_done s b y.text w w₁ w₃ h nb nt y.goes)
          (subst (λ (j : ℕ). Concludes s b w w₆ (cleanup (abs s b w).seen.current_template (abs s b w).kept.indent_string after target (registry_of s b o j) k b q e n (set_indent_string (joined s b w at) (abs s b (text_done w₁ w₃))))) page
          (B.at w r (included_text s b y.text w w₁ w₃ h nb nt y.goes) (y.goes.grows.has_indent ∙ h.grows.has_indent) (y.goes.grows.indent ∙ h.grows.indent) k (omega (arith, used)))));
    }
