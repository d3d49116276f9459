-- `expand_partial`: what a partial's name stands for, and the marks around it.
use Prim.Native.Nat.{ℕ, zero, suc, ◌+◌, ◌-◌, ◌≤◌, ◌<◌}
use Rattle.std.specs.Prelude.{Bool, ◌&&◌, ◌||◌, List, [], ◌≡◌, length, Option as RustOption, Some, None}
use Rattle.std.proofs.Math.Bool.{true, false}
use Rattle.std.proofs.Math.Option.{Option, none, some}
use Rattle.std.proofs.Math.Path.{refl, ap, ap₂, subst}
use Rattle.std.proofs.Common.{sym, ◌∙◌}
use native.Mathlib.Omega.{arith}
use Rattle.rules.specs.Bytes.{Bytes, pick, same, ascii}
use Rattle.rules.specs.Bits.{bits}
use Rattle.rules.specs.Bundle.{body}
use Rattle.rules.specs.Error.{Got, got, bad, cannot-include-self, indent-limit, partial-not-found}
use Rattle.rules.specs.Template as template
use Rattle.rules.specs.State as rules
use Rattle.rules.specs.State.{Res, ok, err, Draw, fail, choose, or_fail, set_current_template_name, peek_partial_block, blocks}
use Rattle.rules.specs.Context.{merge_json}
use Rattle.rules.specs.Registry.{Registry, get_template}
use Rattle.rules.specs.BlockUtil as block-util
use Rattle.rules.specs.BlockUtil.{Drawable}
use Rattle.rules.specs.Expand.{try_from_template}
use Rattle.rules.specs.Partial.{Rendering, get_partial, find_partial, hash_ctx, partial_context, include, include_found, is_current_template, render_partial_block, expand_partial, block_text_of}
use Rattle.rules.specs.Render.{indent_aware, join_indent, indent_fits, is_some, render_partial_element, render_body, render_elements, render_template}
use Rattle.parts.specs.Holds.{value}
use Rattle.parts.specs.Says.{indent_says}
use Rattle.calls.specs.Calls.{call_at}
use Rattle.template.specs.Views.{template_at, body_says}
use Rattle.scope.specs.Scopes.{blocks_of}
use Rattle.expand.specs.declared.Options.{Options}
use Rattle.expand.specs.declared.Expanded.{Expanded}
use Rattle.expand.specs.Answers.{IsExpanded, IsTemplate}
use Rattle.partials.specs.declared.Found.{Found}
use Rattle.partials.specs.declared.Found.TheVariants as found
use Rattle.partials.specs.Finding.{FoundIs, drawn, found_drawn, template_name}
use Rattle.state.specs.Setters.{failed, marked, settled}
use Rattle.state.specs.World.{World, over, top, name_at, abs, Ready, Draws}
use Rattle.state.specs.Laws.{draws_fail}
use Rattle.state.specs.Steps.{goes_marks, blocks_abs}
use Rattle.state.specs.Marks.{aware_done, aware_stop}
use Rattle.inlining.specs.Decorated.{is_at}
use Rattle.drawing.specs.Parts.{before_partial}
use Rattle.drawing.specs.Renders.{registry_of, Renders, Worked, joined, PartialDrawn, IncludeDrawn, target}
use Rattle.drawing.specs.Members.{setting}
use Rattle.drawing.specs.Helping.{not_worked}
use Rattle.error.specs.declared.RenderErrorReason.TheVariants.{CannotIncludeSelf, IndentLimit, PartialNotFound}

pub names_agree : (b : Bytes) (n : ℕ) → template_name (bits b) n ≡ name_at b n
names_agree b zero = refl
names_agree b (suc n) = refl

is_own : (b : Bytes) (m : RustOption ℕ) → is_some (indent_says (bits b) m) ≡ is_at m
is_own b (Some p) = refl
is_own b None = refl

-- `render_partial`: the element

module _ (s b : Bytes) (o : Options) (w : World) (r : Ready s b w) (d p : ℕ) (c : template.Call) (at : RustOption ℕ) (own : RustOption ℕ) (before : Bool) (x : Expanded)
    (worked : IsTemplate s b w.ent (top w) (try_from_template (registry_of s b o (length w.page)) (abs s b w) c) x) where
  abbrev g : Registry
  g = registry_of s b o (length w.page)

  abbrev R : ℕ → Rendering
  R f = render_template g f

  abbrev O : ℕ → Drawable
  O f = render_body g (R f) (body_says 16 d (bits b) own)

  abbrev rule : Registry → Rendering → Draw
  rule g R = render_partial_element g R c (render_body g R (body_says 16 d (bits b) own)) (indent_says (bits b) at) before

  abbrev after : ℕ → block-util.Expanded → Res
  after f e =
      choose (indent_fits g (joined s b w at)) (λ _.
      indent_aware (before && ((abs s b w).seen.marks.trailing_newline || is_some (indent_says (bits b) at))) (expand_partial g (R f) (O f) e (joined s b w at)) (abs s b w)) (λ _. fail indent-limit)

  pub partial_stop : (x.bad ≡ None → ⊥) → Renders s b o w (over (failed w.rc x.bad) w) rule
  unfolding render_partial_element
  partial_stop n = record { at = λ f le. not_worked s b o w r (try_from_template g (abs s b w) c) x.bad (worked.refused n) (after f) }

  module _ (fine : x.bad ≡ None) where
    abbrev e : block-util.Expanded
    e = (worked.fine fine).0

    unfolded : (f : ℕ) → rule g (R f) (abs s b w) ≡ after f e
    unfolding render_partial_element or_fail
    unfolded f = ap (λ q. or_fail q (after f)) (worked.fine fine).1

    pub partial_too_long : indent_fits g (joined s b w at) ≡ false → Renders s b o w (over (failed w.rc (Some IndentLimit)) w) rule
    unfolding choose
    partial_too_long q = record {
      at = λ f le.
          subst (Draws s b w (over (failed w.rc (Some IndentLimit)) w)) (sym (unfolded f ∙ ap (λ (y : Bool). choose y (λ _. indent_aware (before && ((abs s b w).seen.marks.trailing_newline || is_some (indent_says (bits b) at))) (expand_partial g (R f) (O f) e (joined s b w at)) (abs s b w)) (λ _. fail indent-limit)) q))
          (draws_fail s b w (over (failed w.rc (Some IndentLimit)) w) indent-limit refl r.nowhere r.nameless);
    }

    abbrev w₁ : World
    w₁ = over (marked w.rc (before_partial w.rc.writer at before)) w

    pub partial_worked : c ≡ call_at d (bits b) p → Worked s b o w₁ d p x e
    partial_worked q = record { st = abs s b w; setting = setting s b o w r (length w.page); is = ap (try_from_template g (abs s b w)) (sym q) ∙ (worked.fine fine).1; expanded = (worked.fine fine).2 }

    module _ (q : c ≡ call_at d (bits b) p) (fits : indent_fits g (joined s b w at) ≡ true) (w₂ : World) (D : PartialDrawn s b o w₁ w₂ d p x own at) where
      same_indent : joined s b w₁ at ≡ joined s b w at
      unfolding abs
      same_indent = refl

      marks_are : before_partial w.rc.writer at before ≡ (before && ((abs s b w).seen.marks.trailing_newline || is_some (indent_says (bits b) at)))
      unfolding abs
      marks_are = ap (λ (y : Bool). before && (w.rc.writer.trailing_newline || y)) (sym (is_own b at))

      whole : (f : ℕ) → rule g (R f) (abs s b w) ≡ indent_aware (before_partial w.rc.writer at before) (expand_partial g (R f) (O f) e (joined s b w at)) (abs s b w)
      unfolding choose
      whole f =
          unfolded f ∙ ap (λ (y : Bool). choose y (λ _. indent_aware (before && ((abs s b w).seen.marks.trailing_newline || is_some (indent_says (bits b) at))) (expand_partial g (R f) (O f) e (joined s b w at)) (abs s b w)) (λ _. fail indent-limit)) fits
          ∙ ap (λ (y : Bool). indent_aware y (expand_partial g (R f) (O f) e (joined s b w at)) (abs s b w)) (sym marks_are)

      inner : (f : ℕ) → 32 ≤ f + w.rc.used → Draws s b w₁ w₂ (expand_partial g (R f) (O f) e (joined s b w at) (abs s b w₁))
      inner f le = subst (λ (i : Option Bytes). Draws s b w₁ w₂ (expand_partial g (R f) (O f) e i (abs s b w₁))) same_indent (D.at f le e (partial_worked q))

      pub partial_refused : (w₂.rc.bad ≡ None → ⊥) → Renders s b o w w₂ rule
      partial_refused n = record { at = λ f le. subst (Draws s b w w₂) (sym (whole f)) (aware_stop s b w w₂ r (before_partial w.rc.writer at before) (expand_partial g (R f) (O f) e (joined s b w at)) (inner f le) n) }

      pub partial_done : w₂.rc.bad ≡ None → Renders s b o w (over (settled w₂.rc w.rc.writer) w₂) rule
      partial_done z = record { at = λ f le. subst (Draws s b w (over (settled w₂.rc w.rc.writer) w₂)) (sym (whole f)) (aware_done s b w w₂ r (before_partial w.rc.writer at before) (expand_partial g (R f) (O f) e (joined s b w at)) (inner f le) z) }

-- `expand_partial`

module _ (s b : Bytes) (o : Options) (w : World) (r : Ready s b w) (d p : ℕ) (x : Expanded) (own at : RustOption ℕ) where
  abbrev G : Registry
  G = registry_of s b o (length w.page)

  abbrev own_body : ℕ → Drawable
  own_body f = render_body G (render_template G f) (body_says 16 d (bits b) own)

  abbrev by_name : ℕ → block-util.Expanded → Res
  by_name f e =
      choose (same e.name (ascii "@partial-block")) (λ _. render_partial_block (peek_partial_block (abs s b w).kept.partial_block_stack) (own_body f) (abs s b w)) (λ _.
      include_found G (find_partial G (render_template G f) e.name (blocks (abs s b w))) (own_body f) e (joined s b w at) (abs s b w))

  not_self : (f : ℕ) (e : block-util.Expanded) (y : Bool) → is_current_template (abs s b w).seen.current_template e.name ≡ y
      → expand_partial G (render_template G f) (own_body f) e (joined s b w at) (abs s b w) ≡ choose y (λ _. fail cannot-include-self) (λ _. by_name f e)
  unfolding expand_partial
  not_self f e y q = ap (λ (z : Bool). choose z (λ _. fail cannot-include-self) (λ _. by_name f e)) q

  pub includes_self : ((e : block-util.Expanded) → Worked s b o w d p x e → is_current_template (abs s b w).seen.current_template e.name ≡ true) → PartialDrawn s b o w (over (failed w.rc (Some CannotIncludeSelf)) w) d p x own at
  unfolding choose
  includes_self q = record {
    at = λ f le e k. subst (Draws s b w (over (failed w.rc (Some CannotIncludeSelf)) w)) (sym (not_self f e true (q e k))) (draws_fail s b w (over (failed w.rc (Some CannotIncludeSelf)) w) cannot-include-self refl r.nowhere r.nameless);
  }

  module _ (other : (e : block-util.Expanded) → Worked s b o w d p x e → is_current_template (abs s b w).seen.current_template e.name ≡ false) where
    pub is_block : ((e : block-util.Expanded) → Worked s b o w d p x e → same e.name (ascii "@partial-block") ≡ true) → (w₂ : World)
        → Renders s b o w w₂ (λ g R st. render_partial_block (peek_partial_block st.kept.partial_block_stack) (render_body g R (body_says 16 d (bits b) own)) st) → PartialDrawn s b o w w₂ d p x own at
    unfolding choose
    is_block q w₂ D = record {
      at = λ f le e k.
          subst (Draws s b w w₂)
          (sym (not_self f e false (other e k) ∙ ap (λ (z : Bool). choose z (λ _. render_partial_block (peek_partial_block (abs s b w).kept.partial_block_stack) (own_body f) (abs s b w)) (λ _. include_found G (find_partial G (render_template G f) e.name (blocks (abs s b w))) (own_body f) e (joined s b w at) (abs s b w))) (q e k)))
          (D.at f le);
    }

    module _ (plain : (e : block-util.Expanded) → Worked s b o w d p x e → same e.name (ascii "@partial-block") ≡ false) (v : Found)
        (is : (e : block-util.Expanded) → Worked s b o w d p x e → FoundIs (bits b) e.name (get_partial (blocks (abs s b w)) e.name) (get_template G.templates e.name) v) where
      whole_by : (f : ℕ) (e : block-util.Expanded) → Worked s b o w d p x e
          → expand_partial G (render_template G f) (own_body f) e (joined s b w at) (abs s b w) ≡ include_found G (drawn (bits b) (render_template G f) v) (own_body f) e (joined s b w at) (abs s b w)
      unfolding choose
      whole_by f e k =
          not_self f e false (other e k)
          ∙ ap (λ (z : Bool). choose z (λ _. render_partial_block (peek_partial_block (abs s b w).kept.partial_block_stack) (own_body f) (abs s b w)) (λ _. include_found G (find_partial G (render_template G f) e.name (blocks (abs s b w))) (own_body f) e (joined s b w at) (abs s b w))) (plain e k)
          ∙ ap (λ (z : Drawable). include_found G z (own_body f) e (joined s b w at) (abs s b w)) (found_drawn (bits b) e.name G (render_template G f) (blocks (abs s b w)) v (is e k))

      -- a partial of the newest scopes or a template of the bundle; its body stands at q
      module _ (q e n : ℕ) (w₂ : World) (nm : Option Bytes) (named : nm ≡ name_at b n) where
        given : (f : ℕ) → w.rc.used < 32 → 32 ≤ f + w.rc.used → ◌≡◌ {A = Draw} (render_template G f nm (template_at 16 e (bits b) q)) (target G (f - 1) b q e n)
        unfolding render_template
        given f lt le =
            let z : f ≡ suc (f - 1) = omega arith in
            ap (λ (m : ℕ). render_template G m nm (template_at 16 e (bits b) q)) z ∙ ap (λ (m : Option Bytes). render_template G (suc (f - 1)) m (template_at 16 e (bits b) q)) named

        pub found_done : ((f : ℕ) → drawn (bits b) (render_template G f) v ≡ some (render_template G f nm (template_at 16 e (bits b) q))) → IncludeDrawn s b o w w₂ d p x q e n own at → PartialDrawn s b o w w₂ d p x own at
        unfolding include_found
        found_done is-v D = record {
          at = λ f le y k.
              subst (Draws s b w w₂) (sym (whole_by f y k ∙ ap (λ (z : Drawable). include_found G z (own_body f) y (joined s b w at) (abs s b w)) (is-v f)))
              (D.at f (f - 1) (omega arith) (omega arith) y k (render_template G f nm (template_at 16 e (bits b) q)) (λ lt. given f lt le));
        }

      -- nothing is found
      pub found_nothing : v ≡ found.Nothing → own ≡ None → PartialDrawn s b o w (over (failed w.rc (Some PartialNotFound)) w) d p x own at
      unfolding include_found render_body
      found_nothing a c = record {
        at = λ f le y k.
            subst (Draws s b w (over (failed w.rc (Some PartialNotFound)) w))
            (sym (whole_by f y k ∙ ap₂ (λ (z : Found) (m : RustOption ℕ). include_found G (drawn (bits b) (render_template G f) z) (render_body G (render_template G f) (body_says 16 d (bits b) m)) y (joined s b w at) (abs s b w)) a c))
            (draws_fail s b w (over (failed w.rc (Some PartialNotFound)) w) partial-not-found refl r.nowhere r.nameless);
      }

      -- the element's own body, which then is no block text
      pub found_own : v ≡ found.Nothing → (q : ℕ) → own ≡ Some q → (w₂ : World) → IncludeDrawn s b o w w₂ d p x q d 0 None at → PartialDrawn s b o w w₂ d p x own at
      unfolding include_found render_body include block_text_of
      found_own a q c w₂ D = record {
        at = λ f le y k.
            subst (Draws s b w w₂)
            (sym (whole_by f y k ∙ ap₂ (λ (z : Found) (m : RustOption ℕ). include_found G (drawn (bits b) (render_template G f) z) (render_body G (render_template G f) (body_says 16 d (bits b) m)) y (joined s b w at) (abs s b w)) a c))
            (D.at f f (omega arith) (omega arith) y k (target G f b q d 0) (λ lt. refl));
      }
