-- What a call holds as it draws, and what the members of the drawing promise: s is the plan, b the bundle.
use Rattle.std.specs.Prelude.{ℕ, suc, ◌+◌, ◌-◌, ◌≤◌, ◌<◌, Bool, false, List, [], ◌≡◌, length, Option as RustOption, None}
use Rattle.std.proofs.Math.Option.{Option, none, some}
use Rattle.rules.specs.Bytes.{Bytes}
use Rattle.rules.specs.Bits.{bits}
use Rattle.rules.specs.Template as template
use Rattle.rules.specs.Bundle.{string, templates, body}
use Rattle.rules.specs.Error.{got}
use Rattle.rules.specs.State as rules
use Rattle.rules.specs.State.{Res, Draw, or_fail, set_current_template_name, set_indent_string, text_size, ◌after◌}
use Rattle.rules.specs.Context.{merge_json}
use Rattle.rules.specs.Registry as registry
use Rattle.rules.specs.Registry.{Registry, paper_limits}
use Rattle.rules.specs.BlockUtil as block-util
use Rattle.rules.specs.BlockUtil.{Drawable}
use Rattle.rules.specs.Expand as expand
use Rattle.rules.specs.Partial.{Rendering, hash_ctx, partial_context, block_text_of, cleanup, render_partial, include, expand_partial}
use Rattle.rules.specs.Render.{render_elements, render_body, render_template, join_indent}
use Rattle.rules.specs.Layout.{field}
use Rattle.parts.specs.Holds.{Holds}
use Rattle.parts.specs.Says.{indent_says}
use Rattle.calls.specs.Calls.{call_at}
use Rattle.template.specs.Views.{template_at, body_says}
use Rattle.registry.specs.Templates.{templates_at}
use Rattle.registry.specs.Index.{Indexed}
use Rattle.places.specs.Accepted.{Accepted}
use Rattle.places.specs.Places.{json_at}
use Rattle.value.specs.declared.Value.{Value}
use Rattle.meaning.specs.Meaning.{is_missing}
use Rattle.meaning.specs.Standing.{Stands}
use Rattle.expand.specs.declared.Options.{Options}
use Rattle.expand.specs.declared.Expanded.{Expanded}
use Rattle.expand.specs.Answers.{Setting, IsExpanded}
use Rattle.helpers.specs.declared.Does.{Does}
use Rattle.helpers.specs.declared.Does.TheVariants.{Bad, Nothing, Template, Inverse, Within, Turns, Write}
use Rattle.helpers.specs.Does.{Helps}
use Rattle.state.specs.World.{World, over, front, top, name_at, abs, Ready, Draws}
use Rattle.state.specs.Steps as steps
use Rattle.texts.specs.Setters.{cleaned}
use Rattle.texts.specs.Included.{Included}
use Rattle.error.specs.declared.RenderErrorReason.TheVariants.{Other}

abbrev pub options_of : Options → registry.Options
options_of o = record { strict_mode = o.strict; recursive_lookup = o.recursive_lookup; guide_truth = o.guide_truth }

-- n is the length of the page
abbrev pub registry_of : Bytes → Bytes → Options → ℕ → Registry
registry_of s b o n = record { templates = templates_at 16 (bits b); plan = json_at s 0; options = options_of o; limits = paper_limits n }

-- plan and bundle passed their checks; index has the places of the templates
pub record Checked (s : Bytes) (tab : List ℕ) (b : Bytes) (index : List ℕ) : Type 0 where
  pub plan : Accepted s tab
  pub small : length b ≤ 65536
  pub bundle : Holds (templates 16) (bits b) 8
  pub listed : field (bits b) 8 8 ≤ length index
  pub indexed : Indexed (body 16 16) (bits b) (field (bits b) 8 8) index

-- one more than the place of a name, or 0 where there is none
abbrev pub Named : Bytes → ℕ → Type 0
Named b n = (n ≡ 0 → ⊥) → Holds string (bits b) (n - 1)

-- w' is what drawing by the rule makes of w. As many partials may open inside one another as scopes are left.
pub record Renders (s b : Bytes) (o : Options) (w w' : World) (rule : Registry → Rendering → Draw) : Type 0 where
  pub at : (f : ℕ) → 32 ≤ f + w.rc.used
      → Draws s b w w' (rule (registry_of s b o (length w.page)) (render_template (registry_of s b o (length w.page)) f) (abs s b w))

-- Helpers

-- a scope of v may be opened
pub record Openable (s b : Bytes) (w : World) (v : Value) : Type 0 where
  pub stands : Stands s b w.ent (top w) v
  pub present : is_missing v ≡ false
  pub room : w.rc.used < 32

abbrev pub Possible : Bytes → Bytes → World → Does → Type 0
Possible s b w (Bad e) = e ≡ Other 0 → ⊥
Possible s b w Nothing = Unit {0}
Possible s b w Template = Unit {0}
Possible s b w Inverse = Unit {0}
Possible s b w (Within v) = Openable s b w v
Possible s b w (Turns v) = Openable s b w v
Possible s b w (Write v) = Stands s b w.ent (top w) v

-- what a helper was found to do is drawn: T and I are its bodies
pub record Helped (s b : Bytes) (o : Options) (w w' : World) (ns : template.BlockParam) (T I : template.Body) (does : Does) : Type 0 where
  pub at : (f : ℕ) → 32 ≤ f + w.rc.used → (x : Res)
      → Helps s b w.ent (top w) w.rc.used ns (render_body (registry_of s b o (length w.page)) (render_template (registry_of s b o (length w.page)) f) T) (render_body (registry_of s b o (length w.page)) (render_template (registry_of s b o (length w.page)) f) I) (abs s b w) x does
      → Draws s b w w' x

-- Partials

-- what the call at p was worked out to: x by the code, e by the rules (before the marks were set)
pub record Worked (s b : Bytes) (o : Options) (w : World) (d p : ℕ) (x : Expanded) (e : block-util.Expanded) : Type 0 where
  pub st : rules.RenderContext
  pub setting : Setting s b w.ent w.rc.scopes w.rc.used o (registry_of s b o (length w.page)) st (top w)
  pub is : expand.try_from_template (registry_of s b o (length w.page)) st (call_at d (bits b) p) ≡ got e
  pub expanded : IsExpanded s b w.ent (top w) x e

abbrev pub SomeWorked : Bytes → Bytes → Options → World → ℕ → ℕ → Expanded → Type 0
SomeWorked s b o w d p x = (e : block-util.Expanded) × Worked s b o w d p x e

-- the indent in force and the element's own fit together
abbrev pub Joins : Bytes → World → RustOption ℕ → Type 0
Joins b w at = w.rc.writer.indent + text_size (indent_says (bits b) at) ≤ 256

abbrev pub joined : Bytes → Bytes → World → RustOption ℕ → Option Bytes
joined s b w at = join_indent (abs s b w).kept.indent_string (indent_says (bits b) at)

-- `expand_partial`
pub record PartialDrawn (s b : Bytes) (o : Options) (w w' : World) (d p : ℕ) (x : Expanded) (own ind : RustOption ℕ) : Type 0 where
  pub at : (f : ℕ) → 32 ≤ f + w.rc.used → (e : block-util.Expanded) → Worked s b o w d p x e
      → Draws s b w w' (expand_partial (registry_of s b o (length w.page)) (render_template (registry_of s b o (length w.page)) f) (render_body (registry_of s b o (length w.page)) (render_template (registry_of s b o (length w.page)) f) (body_says 16 d (bits b) own)) e (joined s b w ind) (abs s b w))

-- the body of e depths at q, under the name at the place n; f is as in Renders
abbrev pub target : Registry → ℕ → Bytes → ℕ → ℕ → ℕ → Draw
target g f b q e n u = render_elements g (render_template g f) (name_at b n) (template_at 16 e (bits b) q) (set_current_template_name (name_at b n) u)

-- the body of d depths at p; n is one more than the place of its name, 0 where it has none
abbrev pub body_rule : Bytes → ℕ → ℕ → ℕ → Registry → Rendering → Draw
body_rule b d p n g R = render_elements g R (name_at b n) (template_at 16 d (bits b) p)

-- a partial that was found is drawn by D, which is that body where a scope may be opened; own is its block text's body
pub record IncludeDrawn (s b : Bytes) (o : Options) (w w' : World) (d p : ℕ) (x : Expanded) (q e n : ℕ) (own ind : RustOption ℕ) : Type 0 where
  pub at : (f k : ℕ) → 32 ≤ f + suc w.rc.used → 32 ≤ k + suc w.rc.used → (y : block-util.Expanded) → Worked s b o w d p x y
      → (D : Draw) → (w.rc.used < 32 → D ≡ target (registry_of s b o (length w.page)) k b q e n)
      → Draws s b w w' (or_fail (partial_context (registry_of s b o (length w.page)) (abs s b w) y.params) (λ j.
      include (registry_of s b o (length w.page)) (some D) (render_body (registry_of s b o (length w.page)) (render_template (registry_of s b o (length w.page)) f) (body_says 16 d (bits b) own)) D (hash_ctx y.hash) (joined s b w ind) (merge_json j (hash_ctx y.hash)) (abs s b w)))

-- x is drawn from w₁ on, inside the partial's scope, and ends behind it: w is what it was before, w₂ what is left inside
pub record Concludes (s b : Bytes) (w w₂ : World) (x : Res) : Type 0 where
  pub fine : w₂.rc.bad ≡ None → Draws s b w (over (cleaned w₂.rc w.rc) w₂) x
  pub refused : (w₂.rc.bad ≡ None → ⊥) → Draws s b w w₂ x

-- the drawing of a partial whose scope is open
pub record TextDrawn (s b : Bytes) (o : Options) (w₁ w₂ : World) (d q e n : ℕ) (own ind : RustOption ℕ) : Type 0 where
  pub at : (w : World) → Ready s b w → steps.Within s b [] w w₁ → (front w₁).block ≡ 0 → (front w₁).text ≡ 0 → (f k : ℕ) → 32 ≤ f + w₁.rc.used → 32 ≤ k + w₁.rc.used
      → Concludes s b w w₂ (block_text_of (some (target (registry_of s b o (length w₁.page)) k b q e n)) (render_body (registry_of s b o (length w₁.page)) (render_template (registry_of s b o (length w₁.page)) f) (body_says 16 d (bits b) own))
      (render_partial (abs s b w).seen.current_template (abs s b w).kept.indent_string (joined s b w ind) (target (registry_of s b o (length w₁.page)) k b q e n)) (abs s b w₁))

-- the same where its block text is settled
pub record BodyDrawn (s b : Bytes) (o : Options) (w₁ w₂ : World) (q e n : ℕ) (ind : RustOption ℕ) : Type 0 where
  pub at : (w : World) → Ready s b w → Included s b w w₁ → w₁.rc.writer.has_indent ≡ w.rc.writer.has_indent → w₁.rc.writer.indent ≡ w.rc.writer.indent → (k : ℕ) → 32 ≤ k + w₁.rc.used
      → Concludes s b w w₂ (cleanup (abs s b w).seen.current_template (abs s b w).kept.indent_string
      after target (registry_of s b o (length w₁.page)) k b q e n (set_indent_string (joined s b w ind) (abs s b w₁)))
