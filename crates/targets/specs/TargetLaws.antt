-- Laws of what a partial's name stands for.
use Rattle.std.specs.Prelude.{ℕ, suc, ◌+◌, ◌-◌, ◌≤◌, ◌<◌, Bool, true, false, List, ◌≡◌, length, take, drop, Option as RustOption, Some, None}
use Rattle.std.proofs.Math.Option.{Option, none, some}
use Rattle.std.proofs.Math.Path.{refl, sym, ap, ap₂, subst}
use Rattle.std.proofs.Common.{◌∙◌, arith}
use Rattle.rules.specs.Bytes.{Bytes, same, ascii}
use Rattle.rules.specs.Bits.{bits}
use Rattle.rules.specs.Bundle.{body}
use Rattle.rules.specs.Error.{partial-block-not-found}
use Rattle.rules.specs.State as rules
use Rattle.rules.specs.State.{Res, Draw, fail, blocks, peek_partial_block, set_current_template_name, set_indent_string, ◌after◌}
use Rattle.rules.specs.Output.{write}
use Rattle.rules.specs.Registry.{Registry, get_template}
use Rattle.rules.specs.BlockUtil as block-util
use Rattle.rules.specs.Value.{render}
use Rattle.rules.specs.Partial.{Rendering, get_partial, is_current_template, render_partial_block}
use Rattle.rules.specs.Render.{render_body, render_elements, render_template}
use Rattle.parts.specs.Holds.{Holds, value}
use Rattle.parts.specs.Says.{MaybeHolds}
use Rattle.registry.specs.Templates.{templates_at}
use Rattle.template.specs.Views.{template_at, body_says}
use Rattle.value.specs.declared.Value.{Value}
use Rattle.meaning.specs.Meaning.{json_of}
use Rattle.meaning.specs.Means.{Means}
use Rattle.meaning.specs.Standing.{Stands}
use Rattle.scope.specs.Scopes.{blocks_of}
use Rattle.expand.specs.declared.Options.{Options}
use Rattle.expand.specs.declared.Expanded.{Expanded}
use Rattle.expand.specs.Answers.{name_of}
use Rattle.partials.specs.declared.Found.{Found}
use Rattle.partials.specs.declared.Found.TheVariants as found
use Rattle.partials.specs.Finding.{FoundIs, drawn, template_name}
use Rattle.state.specs.Context.{RenderContext}
use Rattle.state.specs.Setters.{failed, with_template, unless_bad}
use Rattle.state.specs.World.{World, world, over, top, name_at, abs, Ready, Draws}
use Rattle.state.specs.Laws.{draws_fail, draws_from, draws_stop_after}
use Rattle.state.specs.Steps.{blocks_abs, goes_template, abs_template}
use Rattle.texts.specs.declared.Peek.{Peek}
use Rattle.texts.specs.declared.Peek.TheVariants as peek
use Rattle.texts.specs.Peeking.{peeked, text_of, Inside, peek_abs, peek_inside}
use Rattle.texts.specs.Drawing.{draws_fallback}
use Rattle.drawing.specs.Renders.{registry_of, Named, Renders, Worked, PartialDrawn, IncludeDrawn}
use Rattle.drawing.specs.Continues.{unless_refused}
use Rattle.drawing.specs.Expanding.{names_agree, includes_self, is_block, found_done, found_nothing, found_own}
use Rattle.targets.specs.declared.Target.{Target}
use Rattle.targets.specs.declared.Target.TheVariants.{Bad, Text, Fallback, Body}
use Rattle.targets.specs.Target.{fallback, by_peek, block_target, own_target, nothing_at, Leads, Decided}
use Rattle.drawing.specs.Renders.{body_rule}
use Rattle.error.specs.declared.RenderErrorReason.TheVariants.{CannotIncludeSelf, PartialBlockNotFound}

-- `@partial-block`: what is drawn for its target

module _ (s b : Bytes) (o : Options) (w : World) (d : ℕ) (own : RustOption ℕ) (r : Ready s b w) where
  abbrev rule : Registry → Rendering → Draw
  rule g R st = render_partial_block (peek_partial_block st.kept.partial_block_stack) (render_body g R (body_says 16 d (bits b) own)) st

  abbrev P : Peek
  P = peeked w.rc.scopes w.rc.used w.rc.writer.high

  by : (g : Registry) (R : Rendering) → rule g R (abs s b w) ≡ render_partial_block (text_of w.texts P) (render_body g R (body_says 16 d (bits b) own)) (abs s b w)
  by g R = ap (λ (x : Option Bytes). render_partial_block x (render_body g R (body_says 16 d (bits b) own)) (abs s b w)) (peek_abs s b w)

  text_drawn : (h n : ℕ) → P ≡ peek.Text h n → (w₂ : World) → Draws s b w w₂ (write (take n (drop h w.texts)) (abs s b w)) → Renders s b o w w₂ rule
  unfolding render_partial_block
  text_drawn h n e w₂ D = record {
    at = λ f le.
        let g : Registry = registry_of s b o (length w.page) in
        subst (Draws s b w w₂) (sym (by g (render_template g f) ∙ ap (λ (x : Peek). render_partial_block (text_of w.texts x) (render_body g (render_template g f) (body_says 16 d (bits b) own)) (abs s b w)) e)) D;
  }

  -- no text is there
  module _ (e : text_of w.texts P ≡ none) where
    without : own ≡ None → Renders s b o w (over (failed w.rc (Some PartialBlockNotFound)) w) rule
    unfolding render_partial_block render_body
    without q = record {
      at = λ f le.
          let g : Registry = registry_of s b o (length w.page) in
          subst (Draws s b w (over (failed w.rc (Some PartialBlockNotFound)) w)) (sym (by g (render_template g f) ∙ ap₂ (λ (x : Option Bytes) (m : RustOption ℕ). render_partial_block x (render_body g (render_template g f) (body_says 16 d (bits b) m)) (abs s b w)) e q))
          (draws_fail s b w (over (failed w.rc (Some PartialBlockNotFound)) w) partial-block-not-found refl r.nowhere r.nameless);
    }

    fallback_drawn : (p : ℕ) → own ≡ Some p → (w₂ : World) → Renders s b o (over (with_template w.rc 0) w) w₂ (body_rule b d p 0) → (u : World) → ((x : Res) → Draws s b w w₂ x → Draws s b w u ((λ c. set_indent_string (abs s b w).kept.indent_string (set_current_template_name (abs s b w).seen.current_template c)) after x)) → Renders s b o w u rule
    unfolding render_partial_block render_body
    fallback_drawn p q w₂ D u k = record {
      at = λ f le.
          let g : Registry = registry_of s b o (length w.page) in
          let x : Draws s b w w₂ (render_elements g (render_template g f) none (template_at 16 d (bits b) p) (set_current_template_name none (abs s b w))) =
          draws_from s b w (over (with_template w.rc 0) w) w₂ _ (goes_template s b w r 0 (λ z. absurd (z refl)))
          (subst (λ (c : rules.RenderContext). Draws s b (over (with_template w.rc 0) w) w₂ (render_elements g (render_template g f) none (template_at 16 d (bits b) p) c)) (abs_template s b w 0) (D.at f le)) in
          subst (Draws s b w u) (sym (by g (render_template g f) ∙ ap₂ (λ (y : Option Bytes) (m : RustOption ℕ). render_partial_block y (render_body g (render_template g f) (body_says 16 d (bits b) m)) (abs s b w)) e q)) (k _ x);
    }

    pub fallback_done : (p : ℕ) → own ≡ Some p → (w₂ : World) → Renders s b o (over (with_template w.rc 0) w) w₂ (body_rule b d p 0) → Renders s b o w (over (unless_bad (λ c. with_template c w.rc.template) w₂.rc) w₂) rule
    fallback_done p q w₂ D =
        unless_refused (λ u. Renders s b o w u rule) (λ c. with_template c w.rc.template) w₂
        (λ z. fallback_drawn p q w₂ D _ (λ x y. draws_fallback s b w w₂ x r y z))
        (λ z. fallback_drawn p q w₂ D w₂ (λ x y. draws_stop_after s b w w₂ x _ y z))

-- `expand_partial`

module _ (s b : Bytes) (ent : List ℕ) (c : RenderContext) (d : ℕ) (name : Value) (own : RustOption ℕ) (y : Bool) (self : Means s b name (λ j. y ≡ is_current_template (template_name (bits b) c.template) (render j))) where
  -- a call that has the name
  module _ (page texts indent : Bytes) (o : Options) (p : ℕ) (x : Expanded) (ind : RustOption ℕ) (named : x.name ≡ name) (r : Ready s b (world c page texts indent ent)) where
    abbrev w : World
    w = world c page texts indent ent

    module _ (e : block-util.Expanded) (k : Worked s b o w d p x e) where
      name_is : e.name ≡ name_of s b ent name
      name_is = k.expanded.name ∙ ap (name_of s b ent) named

      stands : Stands s b ent (top w) name
      stands = subst (Stands s b ent (top w)) named k.expanded.name_stands

      current : is_current_template (abs s b w).seen.current_template e.name ≡ y
      unfolding abs
      current = ap₂ is_current_template (sym (names_agree b c.template)) name_is ∙ sym (self.at ent (top w) stands)

  pub decided_self : y ≡ true → Decided s b ent c d name own (Bad CannotIncludeSelf)
  decided_self q = record {
    at = λ page texts indent o p x ind named r. (refl, includes_self s b o (w page texts indent o p x ind named r) r d p x own ind (λ e k. current page texts indent o p x ind named r e k ∙ q));
  }

  module _ (other : y ≡ false) (z : Bool) (block : Means s b name (λ j. z ≡ same (render j) (ascii "@partial-block"))) where
    module _ (page texts indent : Bytes) (o : Options) (p : ℕ) (x : Expanded) (ind : RustOption ℕ) (named : x.name ≡ name) (r : Ready s b (world c page texts indent ent)) (e : block-util.Expanded) (k : Worked s b o (world c page texts indent ent) d p x e) where
      not_self : is_current_template (abs s b (world c page texts indent ent)).seen.current_template e.name ≡ false
      not_self = current page texts indent o p x ind named r e k ∙ other

      is_name : same e.name (ascii "@partial-block") ≡ z
      is_name = ap (λ (n : Bytes). same n (ascii "@partial-block")) (name_is page texts indent o p x ind named r e k) ∙ sym (block.at ent (top (world c page texts indent ent)) (stands page texts indent o p x ind named r e k))

    pub decided_block : z ≡ true → MaybeHolds (body 16 d) (bits b) own → Decided s b ent c d name own (block_target own c)
    decided_block q h = record { at = λ page texts indent o p x ind named r. go page texts indent o p x ind named r (peeked c.scopes c.used c.writer.high) refl }
      where
        drawn_so : (page texts indent : Bytes) (o : Options) (p : ℕ) (x : Expanded) (ind : RustOption ℕ) (named : x.name ≡ name) (r : Ready s b (world c page texts indent ent)) (u : World) → Renders s b o (world c page texts indent ent) u (rule s b o (world c page texts indent ent) d own r) → PartialDrawn s b o (world c page texts indent ent) u d p x own ind
        drawn_so page texts indent o p x ind named r u R =
            is_block s b o (world c page texts indent ent) r d p x own ind (λ e k. not_self page texts indent o p x ind named r e k) (λ e k. is_name page texts indent o p x ind named r e k ∙ q) u (record { at = R.at })

        by_own : (page texts indent : Bytes) (o : Options) (p : ℕ) (x : Expanded) (ind : RustOption ℕ) (named : x.name ≡ name) (r : Ready s b (world c page texts indent ent)) → text_of texts (peeked c.scopes c.used c.writer.high) ≡ none
            → (m : RustOption ℕ) → own ≡ m → MaybeHolds (body 16 d) (bits b) m → Leads s b o (world c page texts indent ent) d p x own ind (fallback m)
        by_own page texts indent o p x ind named r n (Some t) e hm = (hm, e, λ w₂ R. drawn_so page texts indent o p x ind named r _ (fallback_done s b o (world c page texts indent ent) d own r n t e w₂ R))
        by_own page texts indent o p x ind named r n None e hm = (refl, drawn_so page texts indent o p x ind named r _ (without s b o (world c page texts indent ent) d own r n e))

        go : (page texts indent : Bytes) (o : Options) (p : ℕ) (x : Expanded) (ind : RustOption ℕ) (named : x.name ≡ name) (r : Ready s b (world c page texts indent ent)) (k : Peek) → peeked c.scopes c.used c.writer.high ≡ k → Leads s b o (world c page texts indent ent) d p x own ind (by_peek own k)
        go page texts indent o p x ind named r peek.Absent e = by_own page texts indent o p x ind named r (ap (text_of texts) e) own refl h
        go page texts indent o p x ind named r peek.Nothing e = by_own page texts indent o p x ind named r (ap (text_of texts) e) own refl h
        go page texts indent o p x ind named r (peek.Text f n) e =
            let i : Inside c.writer.high (length texts) (peek.Text f n) = subst (Inside c.writer.high (length texts)) e (peek_inside s b (world c page texts indent ent) r) in
            (i.0, i.1, λ w₂ D. drawn_so page texts indent o p x ind named r w₂ (text_drawn s b o (world c page texts indent ent) d own r f n e w₂ D))

    module _ (plain : z ≡ false) (v : Found) (is : FoundIs (bits b) (name_of s b ent name) (get_partial (blocks_of s b ent c.scopes c.used) (name_of s b ent name)) (get_template (templates_at 16 (bits b)) (name_of s b ent name)) v)
        (h : MaybeHolds (body 16 d) (bits b) own) (below : d ≤ 16) where
      module _ (page texts indent : Bytes) (o : Options) (p : ℕ) (x : Expanded) (ind : RustOption ℕ) (named : x.name ≡ name) (r : Ready s b (world c page texts indent ent)) (e : block-util.Expanded) (k : Worked s b o (world c page texts indent ent) d p x e) where
        not_block : same e.name (ascii "@partial-block") ≡ false
        not_block = is_name page texts indent o p x ind named r e k ∙ plain

        found_is : FoundIs (bits b) e.name (get_partial (blocks (abs s b (world c page texts indent ent))) e.name) (get_template (templates_at 16 (bits b)) e.name) v
        found_is =
            subst (λ (n : Bytes). FoundIs (bits b) n (get_partial (blocks (abs s b (world c page texts indent ent))) n) (get_template (templates_at 16 (bits b)) n) v) (sym (name_is page texts indent o p x ind named r e k))
            (subst (λ l. FoundIs (bits b) (name_of s b ent name) (get_partial l (name_of s b ent name)) (get_template (templates_at 16 (bits b)) (name_of s b ent name)) v) (sym (blocks_abs s b (world c page texts indent ent) r.one)) is)

      pub decided_inline : (q e : ℕ) → v ≡ found.Inline q e → Decided s b ent c d name own (Body q e 0 own)
      decided_inline q e i =
          let f = subst (FoundIs (bits b) (name_of s b ent name) (get_partial (blocks_of s b ent c.scopes c.used) (name_of s b ent name)) (get_template (templates_at 16 (bits b)) (name_of s b ent name))) i is in
          record {
            at = λ page texts indent o p x ind named r.
                let w₀ : World = world c page texts indent ent in (
                  f.depth,
                  f.inside,
                  (λ n. absurd (n refl)),
                  h,
                  λ w₂ I. found_done s b o w₀ r d p x own ind (λ e k. not_self page texts indent o p x ind named r e k) (λ e k. not_block page texts indent o p x ind named r e k) v (λ e k. found_is page texts indent o p x ind named r e k)
                      q e 0 w₂ none refl (λ m. ap (drawn (bits b) (render_template (registry_of s b o (length page)) m)) i) I,
                  λ t m. m,
                );
          }

      pub decided_template : (n q : ℕ) → v ≡ found.Template n q → Decided s b ent c d name own (Body q 16 (n + 1) own)
      decided_template n q i =
          let f = subst (FoundIs (bits b) (name_of s b ent name) (get_partial (blocks_of s b ent c.scopes c.used) (name_of s b ent name)) (get_template (templates_at 16 (bits b)) (name_of s b ent name))) i is in
          let z : n + 1 - 1 ≡ n = omega arith in
          let y : n + 1 ≡ suc n = omega arith in
          record {
            at = λ page texts indent o p x ind named r.
                let w₀ : World = world c page texts indent ent in (
                  omega arith,
                  f.inside,
                  (λ m. rw z f.name),
                  h,
                  λ w₂ I. found_done s b o w₀ r d p x own ind (λ e k. not_self page texts indent o p x ind named r e k) (λ e k. not_block page texts indent o p x ind named r e k) v (λ e k. found_is page texts indent o p x ind named r e k)
                      q 16 (n + 1) w₂ (name_at b (suc n)) (ap (name_at b) (sym y)) (λ m. ap (drawn (bits b) (render_template (registry_of s b o (length page)) m)) i) I,
                  λ t m. m,
                );
          }

      pub decided_nothing : v ≡ found.Nothing → Decided s b ent c d name own (own_target own d)
      decided_nothing i = record { at = λ page texts indent o p x ind named r. go page texts indent o p x ind named r own refl h }
        where
          go : (page texts indent : Bytes) (o : Options) (p : ℕ) (x : Expanded) (ind : RustOption ℕ) (named : x.name ≡ name) (r : Ready s b (world c page texts indent ent)) (m : RustOption ℕ) → own ≡ m → MaybeHolds (body 16 d) (bits b) m → Leads s b o (world c page texts indent ent) d p x own ind (own_target m d)
          go page texts indent o p x ind named r (Some t) e hm =
              (below, hm, (λ n. absurd (n refl)), tt, λ w₂ I. found_own s b o (world c page texts indent ent) r d p x own ind (λ e k. not_self page texts indent o p x ind named r e k) (λ e k. not_block page texts indent o p x ind named r e k) v (λ e k. found_is page texts indent o p x ind named r e k) i t e w₂ I, λ j m. nothing_at j m)
          go page texts indent o p x ind named r None e hm =
              (refl, found_nothing s b o (world c page texts indent ent) r d p x own ind (λ e k. not_self page texts indent o p x ind named r e k) (λ e k. not_block page texts indent o p x ind named r e k) v (λ e k. found_is page texts indent o p x ind named r e k) i e)
