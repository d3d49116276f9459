-- Laws of the beginning of a helper.
use Rattle.std.proofs.lemmas.Option.{none-some}
use Rattle.error.specs.Reasons.{not_none, listed, not_other}
use Rattle.std.specs.Prelude.{ℕ, ◌-◌, ◌*◌, ◌≤◌, Bool, List, [], refl, length, Option as RustOption, Some, None}
use Rattle.std.proofs.Math.Bool.{true, false}
use Rattle.std.proofs.Math.Option.{none}
use Rattle.std.proofs.Math.Path.{◌≡◌, sym, ap, subst}
use Rattle.std.proofs.Common.{◌∙◌, arith}
use Rattle.rules.specs.Bytes.{Bytes}
use Rattle.rules.specs.Bits.{bits}
use Rattle.rules.specs.Error.{bad}
use Rattle.rules.specs.Template as template
use Rattle.rules.specs.Bundle.{body, block_names}
use Rattle.rules.specs.State as rules
use Rattle.rules.specs.State.{Res, ok, Draw, fail, or_fail, push_block, pop_block, ◌after◌}
use Rattle.rules.specs.Output.{do_escape, indent_aware_write}
use Rattle.rules.specs.Value.{render}
use Rattle.rules.specs.Registry.{Registry, get_helper}
use Rattle.rules.specs.BlockUtil as block-util
use Rattle.rules.specs.BlockUtil.{render_or_nothing}
use Rattle.rules.specs.HelperWith.{with_block}
use Rattle.rules.specs.Expand.{try_from_template}
use Rattle.rules.specs.Partial.{Rendering}
use Rattle.rules.specs.Render.{render_helper, render_body, render_elements, render_template, call_indent_aware}
use Rattle.parts.specs.declared.BlockParam.{BlockParam}
use Rattle.parts.specs.declared.BlockParam.TheVariants as names
use Rattle.parts.specs.Holds.{Holds}
use Rattle.parts.specs.Views.{names_view}
use Rattle.parts.specs.Says.{names_at, names_says, NamesHold, names_stand, MaybeHolds}
use Rattle.calls.specs.Calls.{call_at}
use Rattle.template.specs.Views.{template_at, body_says}
use Rattle.output.specs.declared.Writer.{Writer}
use Rattle.value.specs.declared.Value.{Value}
use Rattle.value.specs.Numbers.{Fits}
use Rattle.meaning.specs.Meaning.{json_of, scoped_of}
use Rattle.scope.specs.declared.Scope.{Scope}
use Rattle.scope.specs.NameBits.{Covers}
use Rattle.blocks.specs.Opened.{with_scope}
use Rattle.blocks.specs.Laws.{within_with}
use Rattle.expand.specs.declared.Options.{Options}
use Rattle.expand.specs.declared.Expanded.{Expanded}
use Rattle.expand.specs.declared.HelperDef.{HelperDef}
use Rattle.expand.specs.Answers.{Setting, IsExpanded, IsTemplate, ExpandedHeld, helper_of}
use Rattle.helpers.specs.declared.Does.{Does}
use Rattle.helpers.specs.declared.Does.TheVariants as does
use Rattle.helpers.specs.Does.{Fails, Decides, has}
use Rattle.state.specs.declared.RenderContext as code
use Rattle.state.specs.Context.{RenderContext, whole, Current, Front}
use Rattle.state.specs.Setters.{failed, settled, pushed, closed, finished}
use Rattle.state.specs.World.{World, world, over, front, top, abs, Ready, Draws}
use Rattle.state.specs.Laws.{draws_nothing, draws_refused}
use Rattle.state.specs.Steps.{goes_marks, goes_template}
use Rattle.inlining.specs.Decorated.{is_at, SomeReady}
use Rattle.drawing.specs.Parts.{before_helper}
use Rattle.drawing.specs.Renders.{registry_of, Renders, Openable, Possible, Helped}
use Rattle.drawing.specs.Arrays.{array_scopes}
use Rattle.drawing.specs.Members.{setting, draws_failed, body_nothing, body_drawn}
use Rattle.drawing.specs.Helping.{helper_possible, helper_refused, helper_done}
use Rattle.drawing.specs.Withs.{with_done, with_stop}
use Rattle.drawing.specs.Continues.{unless_refused, unless_fine, unless_not}
use Rattle.helping.specs.declared.Next.TheVariants as next
use Rattle.helping.specs.Decided.{helper_rule, marks_set, Drawable, Decided, DecidedBy, CallWorked, Doable}
use Rattle.helping.specs.Begun.{done, body_next, within_next, turns_next, HelperBegun}
use Rattle.drawing.specs.EachLoop.{each_rule}
use Rattle.error.specs.declared.RenderErrorReason.{RenderErrorReason as Reason}

-- `decide`

module _ (s b : Bytes) (ent : List ℕ) (o : Options) (c : RenderContext) (d p : ℕ) (tm im : RustOption ℕ) (x : Expanded)
    (worked : (g : Registry) (st : rules.RenderContext) (t : ℕ) → Setting s b ent c.scopes c.used o g st t → IsTemplate s b ent t (try_from_template g st (call_at d (bits b) p)) x) where
  module _ (page texts indent : Bytes) (r : Ready s b (world c page texts indent ent)) where
    abbrev w : World
    w = world c page texts indent ent

    given : IsTemplate s b ent (top w) (try_from_template (registry_of s b o (length page)) (abs s b w) (call_at d (bits b) p)) x
    given = worked (registry_of s b o (length page)) (abs s b w) (top w) (setting s b o w r (length page))

  pub decided_refused : (k : Reason) → x.bad ≡ Some k → Decided s b ent o c d p tm im (does.Bad k)
  unfolding render_helper or_fail
  decided_refused k q = record {
    at = λ page texts indent before ns r.
        let w₀ : World = world c page texts indent ent in
        let z = (given page texts indent r).refused (not_none k q) in
        record {
          possible = not_other k 0 (listed z.reason k (z.by_reason ∙ q));
          done = λ w₂ D. record {
            at = λ f le.
                let g : Registry = registry_of s b o (length page) in
                let X : Res = helper_rule b d p before ns tm im g (render_template g f) (abs s b w₀) in
                let F : Fails X (Some k) = record { reason = z.reason; is = ap (λ q. or_fail q (λ e. call_indent_aware g before ns (render_body g (render_template g f) (body_says 16 d (bits b) tm)) (render_body g (render_template g f) (body_says 16 d (bits b) im)) e (abs s b w₀))) z.is; by_reason = z.by_reason ∙ q } in
                let E : Draws s b (marks_set w₀ before) w₂ X = D.at f le X F in
                unless_refused (λ u. Draws s b w₀ u X) (λ q. settled q c.writer) w₂ (λ e. clash X z.reason (abs s b w₂) (E.fine e).text F.is (E.fine e).is) (λ e. draws_refused s b w₀ (marks_set w₀ before) w₂ X E e);
          };
        };
  }
    where
      clash : {A : Type 0} (x : Res) (r : _) (t : rules.RenderContext) (v : Bytes) → x ≡ fail r → x ≡ ok t v → A
      clash x r t v e q = let n : ◌≡◌ {A = ℕ} 0 1 = cc in absurd (omega arith)

  pub decided_fine : x.bad ≡ None → (h : HelperDef) (a : Does) → ((t : ℕ) (e : block-util.Expanded) → IsExpanded s b ent t x e → h ≡ helper_of (get_helper e.name))
      → Decides s b ent c.used o h x (is_at tm) (is_at im) a → Decided s b ent o c d p tm im a
  decided_fine z h a named decides = record {
    at = λ page texts indent before ns r.
        let w₀ : World = world c page texts indent ent in
        let g₀ = given page texts indent r in
        record {
          possible = helper_possible s b o w₀ r (call_at d (bits b) p) before ns d tm im x h a g₀ (named (top w₀)) decides z;
          done = λ w₂ D.
              unless_refused (λ u. Renders s b o w₀ u (helper_rule b d p before ns tm im)) (λ q. settled q c.writer) w₂ (helper_done s b o w₀ r (call_at d (bits b) p) before ns d tm im x h a g₀ (named (top w₀)) decides z w₂ D)
              (helper_refused s b o w₀ r (call_at d (bits b) p) before ns d tm im x h a g₀ (named (top w₀)) decides z w₂ D);
        };
  }

  -- the values that were worked out stand
  pub some_held : x.bad ≡ None → SomeReady s b c ent → ExpandedHeld s b ent x
  some_held z h =
      let w₀ : World = world c h.page h.texts h.indent ent in
      let e = ((given h.page h.texts h.indent h.ready).fine z).2 in
      let room : 2 * top w₀ ≤ length ent = omega (arith, h.ready.enough, h.ready.few, h.ready.table) in
      record { used = top w₀; room = room; name = e.name_stands; first = e.params.first; second = e.params.second }

-- what can be done behind the marks can be done in front of them
possible_marks : (s b : Bytes) (w : World) (before : Bool) (a : Does) → Possible s b (marks_set w before) a → Possible s b w a
possible_marks s b w before (does.Bad n) h = h
possible_marks s b w before does.Nothing h = tt
possible_marks s b w before does.Template h = tt
possible_marks s b w before does.Inverse h = tt
possible_marks s b w before (does.Within v) h = record { stands = h.stands; present = h.present; room = h.room }
possible_marks s b w before (does.Turns v) h = record { stands = h.stands; present = h.present; room = h.room }
possible_marks s b w before (does.Write v) h = h

-- The array l stands beside the context rc

module _ (s b : Bytes) (ent : List ℕ) (rc : code.RenderContext) (l : List Scope) (page texts indent : Bytes) (r : Ready s b (world (whole rc l) page texts indent ent)) where
  -- what was decided by the scopes of an array that knows of all inline partials
  pub decided_whole : (o : Options) (d p : ℕ) (tm im : RustOption ℕ) (a : Does) → Current l rc → DecidedBy s b ent l rc.used o d p (is_at tm) (is_at im) a → Decided s b ent o (whole rc l) d p tm im a
  decided_whole o d p tm im a e h = h (whole rc l) tm im (array_scopes s b rc l page texts indent ent r e) refl refl refl

  -- the values that a call was worked out to stand
  pub call_held : (o : Options) (d p : ℕ) (x : Expanded) → Current l rc → CallWorked s b ent l rc.used o d p x → x.bad ≡ None → ExpandedHeld s b ent x
  call_held o d p x e worked z =
      some_held s b ent o (whole rc l) d p None None x
      (λ g st t S. worked g st t (subst (λ (k : List Scope). Setting s b ent k rc.used o g st t) (array_scopes s b rc l page texts indent ent r e) S)) z
      (record { page = page; texts = texts; indent = indent; ready = r })

  -- what was decided can be done
  pub doable : (front : Scope) (o : Options) (d p : ℕ) (tm im : RustOption ℕ) (a : Does) → Front l rc front → Decided s b ent o (whole rc l) d p tm im a → Doable s b ent front rc a
  doable front o d p tm im a f h = record {
    stack = l;
    newest = f;
    ready = record { page = page; texts = texts; indent = indent; ready = r };
    possible = possible_marks s b (world (whole rc l) page texts indent ent) false a (h.at page texts indent false template.no_names r).possible;
  }

-- `begin`

module _ (s b : Bytes) (o : Options) (w : World) (d p n : ℕ) (before : Bool) (tm im : RustOption ℕ) (r : Ready s b w) (held : Holds block_names (bits b) n) (small : length b ≤ 65536) where
  abbrev rule : Registry → Rendering → Draw
  rule = helper_rule b d p before (names_at (bits b) n) tm im

  abbrev w₁ : World
  w₁ = marks_set w before

  abbrev m : Writer
  m = w.rc.writer

  abbrev Can : Does → Type 0
  Can a = Drawable s b o w d p before (names_at (bits b) n) tm im a

  abbrev Drawn : World → Does → Type 0
  Drawn u a = Helped s b o w₁ u (names_at (bits b) n) (body_says 16 d (bits b) tm) (body_says 16 d (bits b) im) a

  pub ready₁ : Ready s b w₁
  ready₁ = (goes_marks s b w r false (before_helper m before)).ready

  -- what draws nothing more
  settles : (a : Does) → Can a → Drawn w₁ a → Renders s b o w (over (settled w₁.rc m) w₁) rule
  settles a D h = subst (λ (c : RenderContext). Renders s b o w (over c w₁) rule) (unless_fine (λ q. settled q m) w₁.rc r.fine) (D.done w₁ h)

  pub begun_bad : (k : Reason) → Can (does.Bad k) → Renders s b o w (over (failed w₁.rc (Some k)) w₁) rule
  begun_bad k D =
      subst (λ (c : RenderContext). Renders s b o w (over c w₁) rule) (unless_not (λ q. settled q m) (failed w₁.rc (Some k)) (λ z. none-some k (sym z)))
      (D.done (over (failed w₁.rc (Some k)) w₁) (record { at = λ f le x h. draws_failed s b o w₁ ready₁ x (Some k) h }))

  pub begun_nothing : Can does.Nothing → Renders s b o w (over (settled w₁.rc m) w₁) rule
  begun_nothing D = settles does.Nothing D (record { at = λ f le x e. subst (Draws s b w₁ w₁) (sym e) (draws_nothing s b w₁ ready₁) })

  -- a body in the scopes that are open: the template or the inverse
  abbrev Body : RustOption ℕ → Does → Type 0
  Body bm a = (u : World) → Renders s b o w₁ u (λ g R. render_or_nothing (render_body g R (body_says 16 d (bits b) bm))) → Drawn u a

  body_template : Body tm does.Template
  body_template u B = record { at = λ f le x e. subst (Draws s b w₁ u) (sym e) (B.at f le) }

  body_inverse : Body im does.Inverse
  body_inverse u B = record { at = λ f le x e. subst (Draws s b w₁ u) (sym e) (B.at f le) }

  begun_body : (a : Does) → Can a → (bm : RustOption ℕ) → Body bm a → MaybeHolds (body 16 d) (bits b) bm → HelperBegun s b o w (over (body_next bm w₁.rc m).rc w₁) d p n tm im before (body_next bm w₁.rc m).next
  begun_body a D (Some q) B h = (
    h,
    record {
      ready = (goes_template s b w₁ ready₁ 0 (λ z. absurd (z refl))).ready;
      deeper = omega arith;
      done = λ w₂ R. D.done w₂ (B w₂ (body_drawn s b o w₁ w₂ (template_at 16 d (bits b) q) ready₁ R));
    },
  )
  begun_body a D None B h = settles a D (B w₁ (body_nothing s b o w₁ ready₁))

  pub begun_template : Can does.Template → MaybeHolds (body 16 d) (bits b) tm → HelperBegun s b o w (over (body_next tm w₁.rc m).rc w₁) d p n tm im before (body_next tm w₁.rc m).next
  begun_template D h = begun_body does.Template D tm body_template h

  pub begun_inverse : Can does.Inverse → MaybeHolds (body 16 d) (bits b) im → HelperBegun s b o w (over (body_next im w₁.rc m).rc w₁) d p n tm im before (body_next im w₁.rc m).next
  begun_inverse D h = begun_body does.Inverse D im body_inverse h

  pub begun_write : (v : Value) → Can (does.Write v) → (w₂ : World) → Draws s b w₁ w₂ (indent_aware_write (do_escape (abs s b w₁) (render (json_of s b w.ent v))) (abs s b w₁)) → Renders s b o w (over (finished m w₂.rc) w₂) rule
  begun_write v D w₂ d = D.done w₂ (record { at = λ f le x h. subst (Draws s b w₁ w₂) (sym h.is) d })

  -- `with`

  module _ (v : Value) (fits : Fits v) where
    abbrev ns : BlockParam
    ns = names_view (bits b) n

    named : names_at (bits b) n ≡ names_says (bits b) ns
    named = (names_stand (bits b) n held).is

    names_held : NamesHold (bits b) ns
    names_held = (names_stand (bits b) n held).parts

    -- drawn in a scope of its own
    within_drawn : Openable s b w₁ v → (u : World) → Renders s b o w₁ u (λ g R st. pop_block after render_or_nothing (render_body g R (body_says 16 d (bits b) tm)) (push_block (with_block st (names_says (bits b) ns) (scoped_of s b w.ent v)) st)) → Drawn u (does.Within v)
    within_drawn q u R = record {
      at = λ f le x h.
          subst (Draws s b w₁ u) (sym (h.is ∙ ap (λ (k : template.BlockParam). pop_block after render_or_nothing (render_body (registry_of s b o (length w.page)) (render_template (registry_of s b o (length w.page)) f) (body_says 16 d (bits b) tm)) (push_block (with_block (abs s b w₁) k (scoped_of s b w.ent v)) (abs s b w₁))) named)) (R.at f le);
    }

    -- without a template the scope is opened and closed again
    without : tm ≡ None → (f : ℕ) → (pop_block after render_or_nothing (render_body (registry_of s b o (length w.page)) (render_template (registry_of s b o (length w.page)) f) (body_says 16 d (bits b) tm)) (push_block (with_block (abs s b w₁) (names_at (bits b) n) (scoped_of s b w.ent v)) (abs s b w₁))) ≡ ok (abs s b w₁) []
    unfolding ◌after◌ render_body
    without e f = ap (λ (k : RustOption ℕ). pop_block after render_or_nothing (render_body (registry_of s b o (length w.page)) (render_template (registry_of s b o (length w.page)) f) (body_says 16 d (bits b) k)) (push_block (with_block (abs s b w₁) (names_at (bits b) n) (scoped_of s b w.ent v)) (abs s b w₁))) e

    -- its block names are in the set k
    module _ (k : ℕ) (covers : Covers k b w.ent (with_scope v ns (front w₁))) where
      abbrev w₂ : World
      w₂ = over (pushed w₁.rc (with_scope v ns (front w₁)) k) w₁

      pub begun_within : Can (does.Within v) → MaybeHolds (body 16 d) (bits b) tm → HelperBegun s b o w (over (within_next (bits b) n tm v w₁.rc m k).rc w₁) d p n tm im before (within_next (bits b) n tm v w₁.rc m k).next
      begun_within D h = go tm refl h
        where
          q : Openable s b w₁ v
          q = D.possible

          opened : Ready s b w₂
          opened = (within_with s b w₁ v ready₁ q.room q.stands q.present fits ns names_held k covers).ready

          nothing : tm ≡ None → Drawn w₁ (does.Within v)
          nothing e = record { at = λ f le x h. subst (Draws s b w₁ w₁) (sym (h.is ∙ without e f)) (draws_nothing s b w₁ ready₁) }

          go : (y : RustOption ℕ) → tm ≡ y → MaybeHolds (body 16 d) (bits b) y → HelperBegun s b o w (over (within_next (bits b) n y v w₁.rc m k).rc w₁) d p n tm im before (within_next (bits b) n y v w₁.rc m k).next
          go (Some z) e hz = (
            hz,
            record {
              ready = (goes_template s b w₂ opened 0 (λ x. absurd (x refl))).ready;
              deeper = omega arith;
              done = λ u R.
                  let B : Renders s b o w₂ u (λ g R. render_or_nothing (render_body g R (body_says 16 d (bits b) tm))) =
                  subst (λ (k : RustOption ℕ). Renders s b o w₂ u (λ g R. render_or_nothing (render_body g R (body_says 16 d (bits b) k)))) (sym e) (body_drawn s b o w₂ u (template_at 16 d (bits b) z) opened R) in
                  unless_refused (λ x. Renders s b o w x rule) (λ c. settled (closed w.rc c) m) u
                  (λ y. subst (λ (c : RenderContext). Renders s b o w (over c u) rule) (unless_fine (λ q. settled q m) (closed w.rc u.rc) y) (D.done (over (closed w.rc u.rc) u) (within_drawn q (over (closed w.rc u.rc) u) (with_done s b o w₁ v ns (body_says 16 d (bits b) tm) ready₁ q fits names_held k covers u B y))))
                  (λ y. subst (λ (c : RenderContext). Renders s b o w (over c u) rule) (unless_not (λ q. settled q m) u.rc y) (D.done u (within_drawn q u (with_stop s b o w₁ v ns (body_says 16 d (bits b) tm) ready₁ q fits names_held k covers u B y))));
            },
          )
          go None e hz = settles (does.Within v) D (nothing e)

  -- `each`

  module _ (v : Value) where
    drawn : (z : ℕ) → tm ≡ Some z → (u : World) → Renders s b o w₁ u (each_rule s b w₁ d n z v) → Drawn u (does.Turns v)
    unfolding render_body
    drawn z e u R = record {
      at = λ f le x t.
          let g : Registry = registry_of s b o (length w.page) in
          subst (Draws s b w₁ u) (sym (t.is (λ st. render_elements g (render_template g f) none (template_at 16 d (bits b) z) (rules.set_current_template_name none st)) (ap (λ (k : RustOption ℕ). render_body g (render_template g f) (body_says 16 d (bits b) k)) e))) (R.at f le);
    }

    never : tm ≡ None → Drawn w₁ (does.Turns v)
    unfolding render_body
    never e = record {
      at = λ f le x t.
          let g : Registry = registry_of s b o (length w.page) in
          let y : false ≡ true = sym (ap (λ (k : RustOption ℕ). has (render_body g (render_template g f) (body_says 16 d (bits b) k))) e) ∙ t.drawn in
          let z : ◌≡◌ {A = ℕ} 0 1 = cc in
          absurd (omega arith);
    }

    pub begun_turns : Can (does.Turns v) → MaybeHolds (body 16 d) (bits b) tm → HelperBegun s b o w (over (turns_next tm v w₁.rc m).rc w₁) d p n tm im before (turns_next tm v w₁.rc m).next
    begun_turns D h = go tm refl h
      where
        go : (k : RustOption ℕ) → tm ≡ k → MaybeHolds (body 16 d) (bits b) k → HelperBegun s b o w (over (turns_next k v w₁.rc m).rc w₁) d p n tm im before (turns_next k v w₁.rc m).next
        go (Some z) e hz = (hz, D.possible, record { ready = ready₁; deeper = omega arith; done = λ u R. D.done u (drawn z e u R) })
        go None e hz = settles (does.Turns v) D (never e)
