-- Laws of expressions.
use Rattle.std.specs.Prelude.{ℕ, Bool, true, List, [], ◌∷◌, ◌≡◌, length, None, Some}
use Rattle.std.proofs.Math.Bool.{false}
use Rattle.std.proofs.Math.Option.{none}
use Rattle.std.proofs.Common.{sym, arith}
use Rattle.std.proofs.Math.Path.{subst}
use types.Run.{OneOf, miss}
use denote.Enum.Declared.{tag_of}
use Rattle.rules.specs.Bytes.{Bytes}
use Rattle.rules.specs.Bits.{bits}
use Rattle.rules.specs.Template as template
use Rattle.rules.specs.Template.{no_names, no_body}
use Rattle.rules.specs.State.{Draw, ◌after◌}
use Rattle.rules.specs.Output.{do_escape, indent_aware_write}
use Rattle.rules.specs.Value.{render}
use Rattle.rules.specs.Registry.{Registry}
use Rattle.rules.specs.Partial.{Rendering}
use Rattle.rules.specs.Render.{render_helper, render_body, render_expression, render_html_expression}
use Rattle.calls.specs.Calls.{call_at}
use Rattle.value.specs.declared.Value.{Value}
use Rattle.meaning.specs.Meaning.{json_of}
use Rattle.meaning.specs.Forms.{Known}
use Rattle.meaning.specs.Means.{stands_known}
use Rattle.meaning.specs.Standing.{Stands}
use Rattle.scope.specs.declared.Scope.{Scope}
use Rattle.expand.specs.declared.Options.{Options}
use Rattle.expand.specs.Answers.{Setting}
use Rattle.helpers.specs.declared.Does.{Does}
use Rattle.helpers.specs.declared.Does.TheVariants as does
use Rattle.helpers.specs.declared.Shows.{Shows}
use Rattle.helpers.specs.declared.Shows.TheVariants as shows
use Rattle.helpers.specs.Does.{Expresses, ExpressingCall}
use Rattle.helpers.specs.contracts.Does.{the_type as does-type}
use Rattle.writing.specs.Writes.{Writes}
use Rattle.state.specs.Context.{RenderContext}
use Rattle.state.specs.Setters.{failed, marked, finished, with_escape}
use Rattle.state.specs.World.{World, world, over, top, abs, Ready, Draws}
use Rattle.state.specs.Laws.{draws_nothing}
use Rattle.state.specs.Steps.{goes_escape, goes_marks}
use Rattle.state.specs.Marks.{html_done, html_stop}
use Rattle.drawing.specs.Parts.{before_helper}
use Rattle.drawing.specs.Renders.{registry_of, Renders, Possible, Helped}
use Rattle.drawing.specs.Members.{setting, draws_failed}
use Rattle.helping.specs.Decided.{marks_set, Drawable, Decided}
use Rattle.expressions.specs.Bare.{bare_rule, Printable, BareDrawn}
use Rattle.error.specs.declared.RenderErrorReason.{RenderErrorReason as Reason}

-- v is written, whatever entries there are
abbrev Prints : Bytes → Bytes → RenderContext → RenderContext → Bytes → Bytes → Bytes → Bytes → Bytes → Value → Type 0
Prints s b c x page texts indent page' texts' v =
    (ent : List ℕ) (t : ℕ) → Stands s b ent t v → Writes s b (world c page texts indent ent) (world x page' texts' indent ent) (λ k. indent_aware_write (do_escape k (render (json_of s b ent v))) k)

-- What a helper without bodies was found to do

-- `with` opens its scope and closes it again, and `each` takes no turns without a template
nothing_drawn : (s b : Bytes) (o : Options) (w : World) → Ready s b w → (a : Does) → OneOf (1 ∷ 2 ∷ 3 ∷ 4 ∷ 5 ∷ []) (tag_of does-type a) → Helped s b o w w no_names no_body no_body a
unfolding ◌after◌ render_body
nothing_drawn s b o w r (does.Bad n) k = absurd (miss (1 ∷ 2 ∷ 3 ∷ 4 ∷ 5 ∷ []) 0 tt k)
nothing_drawn s b o w r does.Nothing k = record { at = λ f le x e. subst (Draws s b w w) (sym e) (draws_nothing s b w r) }
nothing_drawn s b o w r does.Template k = record { at = λ f le x e. subst (Draws s b w w) (sym e) (draws_nothing s b w r) }
nothing_drawn s b o w r does.Inverse k = record { at = λ f le x e. subst (Draws s b w w) (sym e) (draws_nothing s b w r) }
nothing_drawn s b o w r (does.Within v) k = record { at = λ f le x h. subst (Draws s b w w) (sym h.is) (draws_nothing s b w r) }
nothing_drawn s b o w r (does.Turns v) k = record {
  at = λ f le x t.
      let y : false ≡ true = t.drawn in
      let z : ◌≡◌ {A = ℕ} 0 1 = cc in
      absurd (omega arith);
}
nothing_drawn s b o w r (does.Write v) k = absurd (miss (1 ∷ 2 ∷ 3 ∷ 4 ∷ 5 ∷ []) 6 tt k)

module _ (s b : Bytes) (c : RenderContext) (page texts indent : Bytes) (a : Does) where
  pub bare_refused : (n : Reason) → a ≡ does.Bad n → (x : RenderContext) → x ≡ failed c (Some n) → BareDrawn s b c x page texts indent page texts a
  bare_refused n e x q =
      subst (BareDrawn s b c x page texts indent page texts) (sym e)
      (subst (λ (k : RenderContext). BareDrawn s b c k page texts indent page texts (does.Bad n)) (sym q)
      (record { at = λ o ent r m. record { at = λ f le y h. draws_failed s b o (world c page texts indent ent) r y (Some n) h } }))

  pub bare_written : (v : Value) → a ≡ does.Write v → (x : RenderContext) (page' texts' : Bytes) → Prints s b c x page texts indent page' texts' v → BareDrawn s b c x page texts indent page' texts' a
  bare_written v e x page' texts' W =
      subst (BareDrawn s b c x page texts indent page' texts') (sym e)
      (record {
        at = λ o ent r m.
            let w : World = world c page texts indent ent in
            record { at = λ f le y h. subst (Draws s b w (world x page' texts' indent ent)) (sym h.is) (W ent (top w) m r) };
      })

  pub bare_nothing : OneOf (1 ∷ 2 ∷ 3 ∷ 4 ∷ 5 ∷ []) (tag_of does-type a) → BareDrawn s b c c page texts indent page texts a
  bare_nothing k = record { at = λ o ent r m. nothing_drawn s b o (world c page texts indent ent) r a k }

-- The helper with its marks

module _ (s b : Bytes) (o : Options) (w : World) (r : Ready s b w) (d p : ℕ) (before : Bool) (a : Does) (D : Decided s b w.ent o w.rc d p None None a) where
  can : Drawable s b o w d p before no_names None None a
  can = D.at w.page w.texts w.indent before no_names r

  pub bare_printable : Printable s b a
  bare_printable v e = stands_known s b w.ent _ _ (subst (Possible s b (marks_set w before)) e can.possible)

  -- x is what is left behind it; c and u are the contexts in front of what it does and behind that
  pub bare_rendered : (c u x : RenderContext) (page texts : Bytes) → c ≡ marked w.rc (before_helper w.rc.writer before) → BareDrawn s b c u w.page w.texts w.indent page texts a
      → x ≡ finished w.rc.writer u → Renders s b o w (world x page texts w.indent w.ent) (bare_rule b d p before)
  unfolding render_body
  bare_rendered c u x page texts e B q =
      let y : BareDrawn s b (marks_set w before).rc u w.page w.texts w.indent page texts a = subst (λ (k : RenderContext). BareDrawn s b k u w.page w.texts w.indent page texts a) e B in
      let z = can.done (world u page texts w.indent w.ent) (y.at o w.ent (goes_marks s b w r false (before_helper w.rc.writer before)).ready can.possible) in
      subst (λ (k : RenderContext). Renders s b o w (world k page texts w.indent w.ent) (bare_rule b d p before)) (sym q) (record { at = z.at })

-- Expressions: the call at p; l are the open scopes as they were read

module _ (s b : Bytes) (o : Options) (w : World) (r : Ready s b w) (d p : ℕ) (before : Bool) (a : Shows) (l : List Scope) (same : w.rc.scopes ≡ l)
    (E : ExpressingCall s b w.ent l w.rc.used o d p a) where
  abbrev c : template.Call
  c = call_at d (bits b) p

  abbrev rule : Registry → Rendering → Draw
  rule g R = render_expression g c before

  abbrev g : Registry
  g = registry_of s b o (length w.page)

  here : Setting s b w.ent l w.rc.used o g (abs s b w) (top w)
  here = subst (λ (k : List Scope). Setting s b w.ent k w.rc.used o g (abs s b w) (top w)) same (setting s b o w r (length w.page))

  expressed : (k : Shows) → a ≡ k → Expresses s b w.ent (top w) g c before (abs s b w) (render_expression g c before (abs s b w)) k
  expressed k e = subst (Expresses s b w.ent (top w) g c before (abs s b w) (render_expression g c before (abs s b w))) e (E g (abs s b w) (top w) before here)

  pub expression_refused : (n : Reason) → a ≡ shows.Bad n → (x : RenderContext) → x ≡ failed w.rc (Some n) → Renders s b o w (over x w) rule
  expression_refused n e x q = subst (λ (k : RenderContext). Renders s b o w (over k w) rule) (sym q) (record { at = λ f le. draws_failed s b o w r (render_expression g c before (abs s b w)) (Some n) (expressed (shows.Bad n) e) })

  pub expression_helper : a ≡ shows.Helper → (u : World) → Renders s b o w u (λ g R. render_helper g c before no_names none none) → Renders s b o w u rule
  expression_helper e u R = record { at = λ f le. subst (Draws s b w u) (sym (expressed shows.Helper e)) (R.at f le) }

  pub expression_known : (v : Value) → a ≡ shows.Value v → Known s b v
  expression_known v e = stands_known s b w.ent _ _ (expressed (shows.Value v) e).stands

  pub expression_written : (v : Value) → a ≡ shows.Value v → (x : RenderContext) (page texts : Bytes) → Prints s b w.rc x w.page w.texts w.indent page texts v → Renders s b o w (world x page texts w.indent w.ent) rule
  expression_written v e x page texts W = let y = expressed (shows.Value v) e in record { at = λ f le. subst (Draws s b w (world x page texts w.indent w.ent)) (sym y.is) (W w.ent (top w) y.stands r) }

  pub expression_nothing : a ≡ shows.Nothing → Renders s b o w w rule
  expression_nothing e = record { at = λ f le. subst (Draws s b w w) (sym (expressed shows.Nothing e)) (draws_nothing s b w r) }

-- without escaping: c₁ is the context in which the expression is drawn

module _ (s b : Bytes) (o : Options) (w : World) (r : Ready s b w) (c : template.Call) (before : Bool) (c₁ : RenderContext) (set : c₁ ≡ with_escape w.rc true) where
  pub html_ready : Ready s b (over c₁ w)
  html_ready = subst (λ (k : RenderContext). Ready s b (over k w)) (sym set) (goes_escape s b w r true).ready

  module _ (u : World) (D : Renders s b o (over c₁ w) u (λ g R. render_expression g c before)) where
    inside : Renders s b o (over (with_escape w.rc true) w) u (λ g R. render_expression g c before)
    inside = subst (λ (k : RenderContext). Renders s b o (over k w) u (λ g R. render_expression g c before)) set D

    pub html_refused : (u.rc.bad ≡ None → ⊥) → Renders s b o w u (λ g R. render_html_expression g c before)
    unfolding render_html_expression
    html_refused n = record { at = λ f le. html_stop s b w u r (render_expression (registry_of s b o (length w.page)) c before) (inside.at f le) n }

    pub html_drawn : u.rc.bad ≡ None → (x : RenderContext) → x ≡ with_escape u.rc false → Renders s b o w (over x u) (λ g R. render_html_expression g c before)
    unfolding render_html_expression
    html_drawn e x q =
        subst (λ (k : RenderContext). Renders s b o w (over k u) (λ g R. render_html_expression g c before)) (sym q)
        (record { at = λ f le. html_done s b w u r (render_expression (registry_of s b o (length w.page)) c before) (inside.at f le) e })
