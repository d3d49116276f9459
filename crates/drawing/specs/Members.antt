-- What the members of the drawing cite, over plain variables.
use Rattle.std.specs.Prelude.{ℕ, zero, suc, ◌+◌, ◌-◌, ◌≤◌, ◌<◌, Bool, true, false, List, [], ◌≡◌, refl, length, Option as RustOption}
use Rattle.std.proofs.Math.Option.{Option, none, some}
use Rattle.std.proofs.Common.{sym, ap, ◌∙◌, subst, arith}
use Rattle.rules.specs.Bytes.{Bytes, pick}
use Rattle.rules.specs.Bits.{bits}
use Rattle.rules.specs.Template as template
use Rattle.rules.specs.State as rules
use Rattle.rules.specs.State.{Res, ok, err, Draw, fail, set_current_template_name}
use Rattle.rules.specs.Registry.{Registry}
use Rattle.rules.specs.BlockUtil.{render_or_nothing}
use Rattle.rules.specs.Partial.{Rendering}
use Rattle.rules.specs.Render.{render_elements, render_body, render_template}
use Rattle.meaning.specs.Standing.{Stands}
use Rattle.scope.specs.Standing.{ScopesStand}
use Rattle.expand.specs.declared.Options.{Options}
use Rattle.expand.specs.Answers.{Alike, Setting}
use Rattle.helpers.specs.Does.{Fails}
use Rattle.state.specs.Setters.{failed, with_template}
use Rattle.state.specs.World.{World, over, top, name_at, abs, Ready, Goes, Draws}
use Rattle.state.specs.Laws.{draws_nothing, draws_fail, draws_from}
use Rattle.state.specs.Steps.{goes_template, abs_template, blocks_abs, depth_abs}
use Rattle.drawing.specs.Renders.{registry_of, Renders}
use Rattle.error.specs.Reasons.{refusal}
use Rattle.error.specs.declared.RenderErrorReason.{RenderErrorReason as Reason}

-- the registry and the state as the code's leaves know them
module _ (s b : Bytes) (o : Options) (w : World) (r : Ready s b w) where
  pub alike : (n : ℕ) → Alike w.rc.used o (registry_of s b o n) (abs s b w)
  alike n = record { strict = refl; scopes = refl; deep = depth_abs s b w r.one }

  pub setting : (n : ℕ) → Setting s b w.ent w.rc.scopes w.rc.used o (registry_of s b o n) (abs s b w) (top w)
  setting n = record { alike = alike n; plan = refl; recursive = refl; open_scopes = blocks_abs s b w r.one; stand = r.scopes }

  -- a refusal
  pub draws_failed : (x : Res) (n : RustOption Reason) → Fails x n → Draws s b w (over (failed w.rc n) w) x
  draws_failed x n f = subst (Draws s b w (over (failed w.rc n) w)) (sym f.is) (draws_fail s b w (over (failed w.rc n) w) f.reason (sym f.by_reason) r.nowhere r.nameless)

-- the same drawing by another rule
pub renders_as : (s b : Bytes) (o : Options) (w w' : World) (f g : Registry → Rendering → Draw) → ((r : Registry) (R : Rendering) → g r R (abs s b w) ≡ f r R (abs s b w)) → Renders s b o w w' f → Renders s b o w w' g
renders_as s b o w w' f g e h = record {
  at = λ k le. subst (Draws s b w w') (sym (e (registry_of s b o (length w.page)) (render_template (registry_of s b o (length w.page)) k))) (h.at k le);
}

-- what draws the same with any registry
pub renders_plain : (s b : Bytes) (o : Options) (w w' : World) (f : Registry → Rendering → Draw) → ((r : Registry) (R : Rendering) → Draws s b w w' (f r R (abs s b w))) → Renders s b o w w' f
renders_plain s b o w w' f h = record { at = λ k le. h (registry_of s b o (length w.page)) (render_template (registry_of s b o (length w.page)) k) }

-- a step that writes nothing in front
pub renders_from : (s b : Bytes) (o : Options) (w w₁ w' : World) (f g : Registry → Rendering → Draw) → Goes s b [] w w₁ → ((r : Registry) (R : Rendering) → g r R (abs s b w) ≡ f r R (abs s b w₁)) → Renders s b o w₁ w' f → Renders s b o w w' g
renders_from s b o w w₁ w' f g h e d = record {
  at = λ k le.
      let n : length w₁.page ≡ length w.page = h.sizes.page in
      subst (Draws s b w w') (sym (e (registry_of s b o (length w.page)) (render_template (registry_of s b o (length w.page)) k)))
      (draws_from s b w w₁ w' _ h
      (subst (λ (m : ℕ). Draws s b w₁ w' (f (registry_of s b o m) (render_template (registry_of s b o m) k) (abs s b w₁))) n (d.at k (subst (λ (m : ℕ). 32 ≤ k + m) (sym h.used) le))));
}

-- Bodies

pub body_nothing : (s b : Bytes) (o : Options) (w : World) → Ready s b w → Renders s b o w w (λ g R. render_or_nothing (render_body g R template.no_body))
unfolding render_body
body_nothing s b o w r = record { at = λ f le. draws_nothing s b w r }

pub body_drawn : (s b : Bytes) (o : Options) (w w' : World) (T : template.Template) → Ready s b w → Renders s b o (over (with_template w.rc 0) w) w' (λ g R. render_elements g R none T)
    → Renders s b o w w' (λ g R. render_or_nothing (render_body g R (template.body T)))
unfolding render_body
body_drawn s b o w w' T r d =
    renders_from s b o w (over (with_template w.rc 0) w) w' (λ g R. render_elements g R none T) (λ g R. render_or_nothing (render_body g R (template.body T)))
    (goes_template s b w r 0 (λ n. absurd (n refl))) (λ g R. ap (render_elements g R none T) (sym (abs_template s b w 0))) d
