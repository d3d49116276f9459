-- Laws of the beginning of a partial.
use Rattle.std.proofs.lemmas.Option.{none-some}
use Rattle.std.specs.Prelude.{ℕ, ◌+◌, ◌-◌, ◌≤◌, Bool, ◌++◌, ◌≡◌, length, take, drop, Option as RustOption, Some, None}
use Rattle.std.proofs.Math.Bool.{true, false}
use Rattle.std.proofs.Math.Option.{Option, none, some}
use Rattle.std.proofs.Math.Path.{refl, ap}
use Rattle.std.proofs.Common.{sym, ◌∙◌, subst, arith, length-take-le}
use Rattle.std.proofs.Math.ListN.{length-append}
use borrow.Author.Tests.{leb-true}
use Rattle.rules.specs.Bytes.{Bytes, pick}
use Rattle.rules.specs.Bits.{bits}
use Rattle.rules.specs.Bundle.{body}
use Rattle.rules.specs.State.{Draw, text_size}
use Rattle.rules.specs.Registry.{Registry}
use Rattle.rules.specs.BlockUtil as block-util
use Rattle.rules.specs.Expand.{try_from_template}
use Rattle.rules.specs.Partial.{Rendering}
use Rattle.rules.specs.Render.{join_indent, indent_fits}
use Rattle.rules.specs.Output.{write}
use Rattle.parts.specs.Says.{MaybeHolds, indent_says}
use Rattle.calls.specs.Calls.{call_at}
use Rattle.decorators.specs.Indents.{own as own-indent}
use Rattle.meaning.specs.Standing.{Stands}
use Rattle.expand.specs.declared.Options.{Options}
use Rattle.expand.specs.declared.Expanded.{Expanded}
use Rattle.expand.specs.Answers.{IsTemplate}
use Rattle.output.specs.declared.Writer.{Writer}
use Rattle.state.specs.Context.{RenderContext}
use Rattle.state.specs.Setters.{failed, marked, settled, with_template, unless_bad, finished}
use Rattle.state.specs.World.{World, over, top, abs, Ready, Draws}
use Rattle.state.specs.Steps.{goes_marks, goes_template}
use Rattle.texts.specs.Setters.{cleaned, concluded}
use Rattle.drawing.specs.Parts.{before_partial}
use Rattle.drawing.specs.Renders.{registry_of, Renders, Worked, joined, PartialDrawn}
use Rattle.drawing.specs.Continues.{Continues, unless_refused, unless_both}
use Rattle.drawing.specs.Enclosed.{own_says}
use Rattle.drawing.specs.Expanding.{partial_stop, partial_too_long, partial_worked, partial_refused, partial_done}
use Rattle.targets.specs.declared.Target.TheVariants as to
use Rattle.targets.specs.Target.{Leads}
use Rattle.drawing.specs.Renders.{body_rule}
use Rattle.beginning.specs.declared.Next.{Next}
use Rattle.beginning.specs.declared.Next.TheVariants.{Done, Fallback, Body, Text}
use Rattle.beginning.specs.Opened.{partial_rule, PartialBegun}
use Rattle.beginning.specs.Entering.{BodyEntered, EnteredNext}
use Rattle.error.specs.declared.RenderErrorReason.TheVariants.{IndentLimit}
use Rattle.error.specs.declared.RenderErrorReason.{RenderErrorReason as Reason}

-- Limit 21, by the code's test y

module _ (s b : Bytes) (o : Options) (w : World) (at : RustOption ℕ) (r : Ready s b w) where
  abbrev i : Bytes
  i = take w.rc.writer.indent w.indent

  long : length i ≡ w.rc.writer.indent
  long = length-take-le w.rc.writer.indent w.indent (omega (arith, r.indent, r.buffer))

  pub fits_is : (y : Bool) → ((g : Registry) (v : Bytes) → g.limits.indent ≡ 256 → length v ≡ w.rc.writer.indent → y ≡ indent_fits g (join_indent (pick w.rc.writer.has_indent (some v) none) (own-indent (bits b) at)))
      → y ≡ indent_fits (registry_of s b o (length w.page)) (joined s b w at)
  unfolding abs
  fits_is y h = h (registry_of s b o (length w.page)) i refl long ∙ ap (λ (z : Option Bytes). indent_fits (registry_of s b o (length w.page)) (join_indent (pick w.rc.writer.has_indent (some i) none) z)) (own_says b at)

  pub fits_joins : indent_fits (registry_of s b o (length w.page)) (joined s b w at) ≡ true → w.rc.writer.indent + text_size (indent_says (bits b) at) ≤ 256
  unfolding abs
  fits_joins e = go w.rc.writer.has_indent refl (indent_says (bits b) at) e
    where
      go : (h : Bool) → w.rc.writer.has_indent ≡ h → (z : Option Bytes) → indent_fits (registry_of s b o (length w.page)) (join_indent (pick h (some i) none) z) ≡ true → w.rc.writer.indent + text_size z ≤ 256
      go true q none e = omega (arith, r.indent)
      go true q (some j) e = omega (arith, leb-true (length (i ++ j)) 256 e, length-append i j, long)
      go false q none e = omega (arith, r.indent)
      go false q (some j) e = omega (arith, leb-true (length j) 256 e, r.absent q)

module _ (s b : Bytes) (o : Options) (w : World) (d p : ℕ) (own at : RustOption ℕ) (before : Bool) (r : Ready s b w) (x : Expanded)
    (worked : IsTemplate s b w.ent (top w) (try_from_template (registry_of s b o (length w.page)) (abs s b w) (call_at d (bits b) p)) x) where
  abbrev rule : Registry → Rendering → Draw
  rule = partial_rule b d p own at before

  abbrev m : Writer
  m = w.rc.writer

  pub begun_stop : (x.bad ≡ None → ⊥) → Renders s b o w (over (failed w.rc x.bad) w) rule
  begun_stop n = partial_stop s b o w r d p (call_at d (bits b) p) at own before x worked n

  module _ (fine : x.bad ≡ None) where
    pub begun_long : indent_fits (registry_of s b o (length w.page)) (joined s b w at) ≡ false → Renders s b o w (over (failed w.rc (Some IndentLimit)) w) rule
    begun_long e = partial_too_long s b o w r d p (call_at d (bits b) p) at own before x worked fine e

    abbrev w₁ : World
    w₁ = over (marked w.rc (before_partial m at before)) w

    pub marks_ready : Ready s b w₁
    marks_ready = (goes_marks s b w r false (before_partial m at before)).ready

    abbrev e : block-util.Expanded
    e = (worked.fine fine).0

    pub worked_there : Worked s b o w₁ d p x e
    worked_there = partial_worked s b o w r d p (call_at d (bits b) p) at own before x worked fine refl

    pub name_there : Stands s b w.ent (top w) x.name
    name_there = (worked.fine fine).2.name_stands

    module _ (fits : indent_fits (registry_of s b o (length w.page)) (joined s b w at) ≡ true) where
      refused : (u : World) → PartialDrawn s b o w₁ u d p x own at → (u.rc.bad ≡ None → ⊥) → Renders s b o w u rule
      refused u D n = partial_refused s b o w r d p (call_at d (bits b) p) at own before x worked fine refl fits u D n

      finishes : (u : World) → PartialDrawn s b o w₁ u d p x own at → Renders s b o w (over (finished m u.rc) u) rule
      finishes u D = unless_refused (λ v. Renders s b o w v rule) (λ c. settled c m) u (partial_done s b o w r d p (call_at d (bits b) p) at own before x worked fine refl fits u D) (refused u D)

      -- the same where something is done first
      finishes_by : (g : RenderContext → RenderContext) → ((c : RenderContext) → (g c).bad ≡ c.bad) → (u : World) → PartialDrawn s b o w₁ (over (unless_bad g u.rc) u) d p x own at → Renders s b o w (over (unless_bad (λ c. settled (g c) m) u.rc) u) rule
      finishes_by g same u D = subst (λ (c : RenderContext). Renders s b o w (over c u) rule) (unless_both (λ c. settled c m) g same u.rc) (finishes (over (unless_bad g u.rc) u) D)

      -- (any number may be the reason: `Leads` also tells that it is one of the rules')
      pub begun_bad : (n : Reason)
          → PartialDrawn s b o w₁ (over (failed w₁.rc (Some n)) w₁) d p x own at
          → Renders s b o w (over (failed w₁.rc (Some n)) w₁) rule
      begun_bad n D = refused (over (failed w₁.rc (Some n)) w₁) D (λ z. none-some n (sym z))

      pub begun_text : (f n : ℕ) → Leads s b o w₁ d p x own at (to.Text f n) → (u : World) → Draws s b w₁ u (write (take n (drop f w.texts)) (abs s b w₁)) → Renders s b o w (over (finished m u.rc) u) rule
      begun_text f n L u D = finishes u (L.2 u D)

      pub begun_fallback : (t : ℕ) → Leads s b o w₁ d p x own at (to.Fallback t) → PartialBegun s b o w (over (with_template w₁.rc 0) w₁) d rule own at (Fallback t)
      begun_fallback t L = (
        L.0,
        L.1,
        record {
          ready = (goes_template s b w₁ marks_ready 0 (λ z. absurd (z refl))).ready;
          deeper = omega arith;
          done = λ u R. finishes_by (λ c. with_template c w.rc.template) (λ c. refl) u (L.2 u R);
        },
      )

      -- the partial that was found is entered
      module _ (q i n : ℕ) (own' : RustOption ℕ) (L : Leads s b o w₁ d p x own at (to.Body q i n own')) where
        continues : (u : World) → BodyEntered s b o w₁ u d p x q i n own' at → Continues s b o w u 1 (body_rule b i q n) rule (concluded w.rc)
        continues u B = record {
          ready = B.ready;
          deeper = omega (arith, B.deeper);
          done = λ v R. finishes_by (λ c. cleaned c w.rc) (λ c. refl) v (L.4 _ (B.done v R));
        }

        pub begun_entered : (u : World) (next : Next) → EnteredNext s b o w₁ u d p x q i n own' at next → PartialBegun s b o w u d rule own at next
        begun_entered u Done E = refused u (L.4 u E.0) E.1
        begun_entered u (Fallback t) E = absurd E
        begun_entered u (Body t j k) E =
            let step : PartialBegun s b o w u d rule own at (Body q i n) = (L.0, L.1, L.2, continues u E.3) in
            subst (λ (a : ℕ). PartialBegun s b o w u d rule own at (Body a j k)) (sym E.0) (subst (λ (a : ℕ). PartialBegun s b o w u d rule own at (Body q a k)) (sym E.1) (subst (λ (a : ℕ). PartialBegun s b o w u d rule own at (Body q i a)) (sym E.2) step))
        begun_entered u (Text z t j k) E =
            let T = E.4 in
            let step : PartialBegun s b o w u d rule own at (Text z q i n) = (
              record {
                text = subst (MaybeHolds (body 16 d) (bits b)) E.0 L.3;
                depth = L.0;
                body = L.1;
                named = L.2;
                ready = T.ready;
                deeper = omega (arith, T.deeper);
                stop = λ v R y. refused v (L.4 v (T.stop v R y)) y;
                ends = λ v R y. T.ends v R y;
                goes = λ v R y. continues _ (T.goes v R y);
              },
              L.5 z E.0,
            ) in
            subst (λ (a : ℕ). PartialBegun s b o w u d rule own at (Text z a j k)) (sym E.1) (subst (λ (a : ℕ). PartialBegun s b o w u d rule own at (Text z q a k)) (sym E.2) (subst (λ (a : ℕ). PartialBegun s b o w u d rule own at (Text z q i a)) (sym E.3) step))
