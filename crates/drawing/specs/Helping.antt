-- A helper is found, and what it was found to do is drawn.
use Rattle.std.specs.Prelude.{ℕ, zero, suc, ◌+◌, ◌≤◌, ◌<◌, Bool, true, false, ◌&&◌, ◌||◌, List, [], ◌≡◌, length, Option as RustOption, Some, None}
use Rattle.std.proofs.Math.Option.{Option, none, some}
use Rattle.std.proofs.Math.Path.{refl, ap}
use Rattle.std.proofs.Common.{sym, ◌∙◌, subst, arith}
use Rattle.rules.specs.Bytes.{Bytes, pick}
use Rattle.rules.specs.Bits.{bits}
use Rattle.rules.specs.Error.{RenderErrorReason, Got, got, bad, helper-not-found}
use Rattle.rules.specs.Template as template
use Rattle.rules.specs.State as rules
use Rattle.rules.specs.State.{Res, ok, err, Draw, fail, either, or_fail}
use Rattle.rules.specs.Registry as registry
use Rattle.rules.specs.Registry.{Registry, get_helper}
use Rattle.rules.specs.BlockUtil as block-util
use Rattle.rules.specs.BlockUtil.{Drawable}
use Rattle.rules.specs.Helpers.{call_helper}
use Rattle.rules.specs.Expand.{try_from_template}
use Rattle.rules.specs.Partial.{Rendering}
use Rattle.rules.specs.Render.{indent_aware, call_indent_aware, render_helper, render_body, render_template}
use Rattle.template.specs.Views.{body_says}
use Rattle.value.specs.declared.Value.{Value}
use Rattle.expand.specs.declared.Options.{Options}
use Rattle.expand.specs.declared.Expanded.{Expanded}
use Rattle.expand.specs.declared.HelperDef.{HelperDef}
use Rattle.expand.specs.declared.HelperDef.TheVariants.{Unknown}
use Rattle.expand.specs.Answers.{Refuses, IsExpanded, IsTemplate, helper_of}
use Rattle.helpers.specs.declared.Does.{Does}
use Rattle.helpers.specs.declared.Does.TheVariants as does
use Rattle.helpers.specs.Does.{Guided, Fails, Helps, Decides, has}
use Rattle.state.specs.Setters.{failed, marked, settled}
use Rattle.state.specs.World.{World, over, top, abs, Ready, Draws}
use Rattle.state.specs.Steps.{goes_marks}
use Rattle.state.specs.Marks.{aware_done, aware_stop}
use Rattle.inlining.specs.Decorated.{is_at}
use Rattle.drawing.specs.Parts.{before_helper}
use Rattle.drawing.specs.Renders.{registry_of, Renders, Possible, Helped}
use Rattle.drawing.specs.Members.{alike, draws_failed}
use Rattle.error.specs.declared.RenderErrorReason.TheVariants.{HelperNotFound}
use Rattle.error.specs.Reasons.{listed, not_other}
use Rattle.error.specs.declared.RenderErrorReason.{RenderErrorReason as Reason}

pub has_body : (g : Registry) (R : Rendering) (d : ℕ) (b : Bytes) (m : RustOption ℕ) → is_at m ≡ has (render_body g R (body_says 16 d (bits b) m))
unfolding render_body
has_body g R d b (Some p) = refl
has_body g R d b None = refl

-- what a helper was found to do can be done
pub possible : (s b : Bytes) (w : World) (ns : template.BlockParam) (T I : Drawable) (st : rules.RenderContext) (x : Res) (a : Does) → Helps s b w.ent (top w) w.rc.used ns T I st x a → Possible s b w a
possible s b w ns T I st x (does.Bad e) h = not_other e 0 (listed h.reason e h.by_reason)
possible s b w ns T I st x does.Nothing h = tt
possible s b w ns T I st x does.Template h = tt
possible s b w ns T I st x does.Inverse h = tt
possible s b w ns T I st x (does.Within v) h = record { stands = h.stands; present = h.present; room = h.room }
possible s b w ns T I st x (does.Turns v) h = record { stands = h.stands; present = h.present; room = h.room }
possible s b w ns T I st x (does.Write v) h = h.stands

-- a call that could not be worked out
pub not_worked : (s b : Bytes) (o : Options) (w : World) (r : Ready s b w) {A : Type 0} (x : Got A) (n : RustOption Reason) → Refuses x n → (f : A → Res) → Draws s b w (over (failed w.rc n) w) (or_fail x f)
unfolding or_fail
not_worked s b o w r x n h f = draws_failed s b o w r (or_fail x f) n (record { reason = h.reason; is = ap (λ q. or_fail q f) h.is; by_reason = h.by_reason })

module _ (s b : Bytes) (o : Options) (w : World) (r : Ready s b w) (c : template.Call) (before : Bool) (ns : template.BlockParam) (d : ℕ) (tm im : RustOption ℕ) (x : Expanded) (h : HelperDef) (a : Does)
    (worked : IsTemplate s b w.ent (top w) (try_from_template (registry_of s b o (length w.page)) (abs s b w) c) x)
    (named : (e : block-util.Expanded) → IsExpanded s b w.ent (top w) x e → h ≡ helper_of (get_helper e.name))
    (decided : Decides s b w.ent w.rc.used o h x (is_at tm) (is_at im) a) where
  abbrev g : Registry
  g = registry_of s b o (length w.page)

  abbrev w₁ : World
  w₁ = over (marked w.rc (before_helper w.rc.writer before)) w

  abbrev T : ℕ → Drawable
  T f = render_body g (render_template g f) (body_says 16 d (bits b) tm)

  abbrev I : ℕ → Drawable
  I f = render_body g (render_template g f) (body_says 16 d (bits b) im)

  pub helper_stop : (x.bad ≡ None → ⊥) → Renders s b o w (over (failed w.rc x.bad) w) (λ g R. render_helper g c before ns (render_body g R (body_says 16 d (bits b) tm)) (render_body g R (body_says 16 d (bits b) im)))
  unfolding render_helper
  helper_stop n = record { at = λ f le. not_worked s b o w r (try_from_template g (abs s b w) c) x.bad (worked.refused n) (λ e. call_indent_aware g before ns (T f) (I f) e (abs s b w)) }

  module _ (fine : x.bad ≡ None) where
    abbrev e : block-util.Expanded
    e = (worked.fine fine).0

    is_expanded : IsExpanded s b w.ent (top w) x e
    is_expanded = (worked.fine fine).2

    guided : Guided w.rc.used o g (abs s b w₁)
    guided = record { alike = alike s b o w₁ (goes_marks s b w r false (before_helper w.rc.writer before)).ready (length w.page); guide = refl }

    -- by the helper that the rules find
    helps : (f : ℕ) (k : registry.HelperDef) → get_helper e.name ≡ some k → Helps s b w.ent (top w) w.rc.used ns (T f) (I f) (abs s b w₁) (call_helper g k e ns (T f) (I f) (abs s b w₁)) a
    helps f k q =
        decided.known k (named e is_expanded ∙ ap helper_of q) g (abs s b w₁) (top w) e ns (T f) (I f) guided is_expanded (has_body g (render_template g f) d b tm) (has_body g (render_template g f) d b im)

    unknown : get_helper e.name ≡ none → a ≡ does.Bad HelperNotFound
    unknown q = decided.unknown (named e is_expanded ∙ ap helper_of q)

    not_found : Fails (fail helper-not-found) (Some HelperNotFound)
    not_found = record { reason = helper-not-found; is = refl; by_reason = refl }

    pub helper_possible : Possible s b w₁ a
    helper_possible = go (get_helper e.name) refl
      where
        go : (q : Option registry.HelperDef) → get_helper e.name ≡ q → Possible s b w₁ a
        go none q = subst (Possible s b w₁) (sym (unknown q)) (not_other HelperNotFound 0 refl)
        go (some k) q = possible s b w₁ ns (T 0) (I 0) (abs s b w₁) (call_helper g k e ns (T 0) (I 0) (abs s b w₁)) a (helps 0 k q)

    abbrev found : ℕ → Option registry.HelperDef → Res
    found f none = fail helper-not-found
    found f (some k) = indent_aware (before_helper w.rc.writer before) (call_helper g k e ns (T f) (I f)) (abs s b w)

    found_is : (f : ℕ) (q : Option registry.HelperDef) → either q (λ _. fail helper-not-found) (λ k. indent_aware (before_helper w.rc.writer before) (call_helper g k e ns (T f) (I f)) (abs s b w)) ≡ found f q
    unfolding either
    found_is f none = refl
    found_is f (some k) = refl

    unfolded : (f : ℕ) → render_helper g c before ns (T f) (I f) (abs s b w) ≡ found f (get_helper e.name)
    unfolding render_helper or_fail call_indent_aware abs
    unfolded f = ap (λ q. or_fail q (λ e. call_indent_aware g before ns (T f) (I f) e (abs s b w))) (worked.fine fine).1 ∙ found_is f (get_helper e.name)

    module _ (w₂ : World) (D : Helped s b o w₁ w₂ ns (body_says 16 d (bits b) tm) (body_says 16 d (bits b) im) a) where
      inner : (f : ℕ) → 32 ≤ f + w.rc.used → (y : Res) → Helps s b w.ent (top w) w.rc.used ns (T f) (I f) (abs s b w₁) y a → Draws s b w₁ w₂ y
      inner f le y q = D.at f le y q

      pub helper_refused : (w₂.rc.bad ≡ None → ⊥) → Renders s b o w w₂ (λ g R. render_helper g c before ns (render_body g R (body_says 16 d (bits b) tm)) (render_body g R (body_says 16 d (bits b) im)))
      helper_refused n = record { at = λ f le. subst (Draws s b w w₂) (sym (unfolded f)) (go f le (get_helper e.name) refl) }
        where
          go : (f : ℕ) → 32 ≤ f + w.rc.used → (q : Option registry.HelperDef) → get_helper e.name ≡ q → Draws s b w w₂ (found f q)
          go f le none q = record { fine = λ z. absurd (n z); refused = λ z. (inner f le (fail helper-not-found) (subst (Helps s b w.ent (top w) w.rc.used ns (T f) (I f) (abs s b w₁) (fail helper-not-found)) (sym (unknown q)) not_found)).refused z }
          go f le (some k) q = aware_stop s b w w₂ r (before_helper w.rc.writer before) (call_helper g k e ns (T f) (I f)) (inner f le (call_helper g k e ns (T f) (I f) (abs s b w₁)) (helps f k q)) n

      pub helper_done : w₂.rc.bad ≡ None → Renders s b o w (over (settled w₂.rc w.rc.writer) w₂) (λ g R. render_helper g c before ns (render_body g R (body_says 16 d (bits b) tm)) (render_body g R (body_says 16 d (bits b) im)))
      helper_done z = record { at = λ f le. subst (Draws s b w (over (settled w₂.rc w.rc.writer) w₂)) (sym (unfolded f)) (go f le (get_helper e.name) refl) }
        where
          clash : {A : Type 0} (t : rules.RenderContext) (v : Bytes) → fail helper-not-found ≡ ok t v → A
          clash t v q = let n : ◌≡◌ {A = ℕ} 0 1 = cc in absurd (omega arith)

          go : (f : ℕ) → 32 ≤ f + w.rc.used → (q : Option registry.HelperDef) → get_helper e.name ≡ q → Draws s b w (over (settled w₂.rc w.rc.writer) w₂) (found f q)
          go f le none q =
              let y = (inner f le (fail helper-not-found) (subst (Helps s b w.ent (top w) w.rc.used ns (T f) (I f) (abs s b w₁) (fail helper-not-found)) (sym (unknown q)) not_found)).fine z in
              clash (abs s b w₂) y.text y.is
          go f le (some k) q = aware_done s b w w₂ r (before_helper w.rc.writer before) (call_helper g k e ns (T f) (I f)) (inner f le (call_helper g k e ns (T f) (I f) (abs s b w₁)) (helps f k q)) z
