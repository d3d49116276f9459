-- Laws of the elements that are drawn with the writer alone.
use Rattle.std.specs.Prelude.{ℕ, zero, suc, ◌+◌, ◌*◌, Bool, true, not, ◌&&◌, ◌||◌, List, ◌≡◌, refl, length, None, Some, Option as RustOption}
use Rattle.std.proofs.lemmas.Option.{none-some}
use Rattle.std.proofs.Math.Bool.{false}
use Rattle.std.proofs.Common.{sym, ap₂, ◌∙◌, subst, arith}
use Rattle.std.proofs.Math.Path.{ap}
use Rattle.rules.specs.Bytes.{Bytes, pick}
use Rattle.rules.specs.Order.{differ}
use Rattle.rules.specs.Bits.{Bits, bits}
use Rattle.rules.specs.Output.{do_escape, indent_aware_write}
use Rattle.rules.specs.Value.{render}
use Rattle.rules.specs.Template as template
use Rattle.rules.specs.Render.{render_html_expression, render_expression}
use Rattle.bits.specs.Packed.{bytes_at}
use Rattle.output.specs.declared.Writer.{Writer}
use Rattle.output.specs.Outputs.{outputs}
use Rattle.support.specs.Feed.{escaped, fed}
use Rattle.layout.specs.Text.{text_at}
use Rattle.calls.specs.Calls.{call_at}
use Rattle.template.specs.declared.Content.{Content}
use Rattle.template.specs.Views.{flag_at, call_end, content_view, element_view}
use Rattle.value.specs.declared.Value.{Value}
use Rattle.meaning.specs.Meaning.{json_of}
use Rattle.meaning.specs.Means.{Means}
use Rattle.meaning.specs.Standing.{Stands}
use Rattle.expand.specs.declared.Options.{Options}
use Rattle.expand.specs.Answers.{Setting}
use Rattle.scope.specs.declared.Scope.{Scope}
use Rattle.context.specs.Start.{Newest}
use Rattle.helpers.specs.declared.Shows.{Shows}
use Rattle.helpers.specs.declared.Shows.TheVariants as shows
use Rattle.helpers.specs.Does.{Expresses, ExpressingCall, ExpressingBare}
use Rattle.state.specs.Context.{RenderContext}
use Rattle.state.specs.Setters.{wrote, failed, with_writer, with_escape}
use Rattle.state.specs.World.{World, world, over, abs, Ready, Draws}
use Rattle.writing.specs.Writes.{Wrote}
use Rattle.writing.specs.Laws.{draws_fed, escape_is, wrote_by}
use Rattle.drawing.specs.Renders.{Renders}
use Rattle.drawing.specs.Elements.{element_raw, element_html, element_expression}
use Rattle.expressions.specs.Laws.{expression_refused, expression_written, expression_nothing, html_ready, html_refused, html_drawn}
use Rattle.expressions.specs.Laws.{expression_known}
use Rattle.meaning.specs.Forms.{Known}
use Rattle.state.specs.World.{top, error_of}
use Rattle.drawing.specs.Members.{setting}
use Rattle.drawing.specs.Renders.{registry_of}
use Rattle.plain.specs.Plain.{kept, full_refusal, expression_of, TextIs, ExpressionIs, PathIs, is_html, OneDrawn, ShowsAt}
use Rattle.error.specs.Reasons.{refusal, Listed, listed}
use Rattle.error.specs.declared.RenderErrorReason.TheVariants.{BlockTextsLimit, PageLimit}
use Rattle.error.specs.declared.RenderErrorReason.{RenderErrorReason as Reason}

-- a writer that has written
pub kept_wrote : (c : RenderContext) (w u : Writer) → kept c u (full_refusal u) ≡ wrote (kept c w None) u
kept_wrote c w u = by u.full
  where
    by : (t : Bool) → kept c u (pick t (Some (pick u.block_text BlockTextsLimit PageLimit)) None) ≡ pick t (kept (kept c w None) u (Some (pick u.block_text BlockTextsLimit PageLimit))) (kept c u None)
    by true = refl
    by false = refl

pub full_none : (w : Writer) → w.full ≡ false → full_refusal w ≡ None
full_none w e = ap (λ (t : Bool). pick t (Some (pick w.block_text BlockTextsLimit PageLimit)) None) e

-- v is printed in the context x, and u is the writer behind it
pub value_prints : (s b page texts indent : Bytes) (x y : RenderContext) (v : Value) (u : Writer) (page' texts' : Bytes) → y ≡ wrote x u
    → Means s b v (λ j. outputs u page' texts' ≡ fed indent (escaped (not x.disable_escape) (render j)) (outputs x.writer page texts))
    → (ent : List ℕ) (t : ℕ) → Stands s b ent t v → Ready s b (world x page texts indent ent)
    → Draws s b (world x page texts indent ent) (world y page' texts' indent ent) (indent_aware_write (do_escape (abs s b (world x page texts indent ent)) (render (json_of s b ent v))) (abs s b (world x page texts indent ent)))
value_prints s b page texts indent x y v u page' texts' hy M ent t st ready =
    let l = world x page texts indent ent in
    let j = render (json_of s b ent v) in
    subst (λ (k : Bytes). Draws s b l (world y page' texts' indent ent) (indent_aware_write k (abs s b l))) (escape_is s b l j)
    (draws_fed s b l y page' texts' ready (escaped (not x.disable_escape) j) (wrote_by x y u page' texts' (fed indent (escaped (not x.disable_escape) j) (outputs x.writer page texts)) (M.at ent t st) hy))

-- c is the context with the writer w in front of the element at p
module _ (s b : Bytes) (o : Options) (d p : ℕ) (c : RenderContext) (w : Writer) (page texts indent : Bytes) (ent : List ℕ) (r : Ready s b (world (kept c w None) page texts indent ent)) where
  abbrev before : World
  before = world (kept c w None) page texts indent ent

  -- the text was fed, and u is the writer behind it
  pub text_drawn : (n : ℕ) → TextIs d (bits b) (p + 16 + 16) n → (u : Writer) (page' texts' : Bytes) → outputs u page' texts' ≡ fed indent (bytes_at (bits b) (p + 16 + 16 + 20) n) (outputs w page texts)
      → OneDrawn s b o d p before (world (kept c u (full_refusal u)) page' texts' indent ent) (p + 16 + 16 + 20 + 8 * n)
  text_drawn n T u page' texts' h =
      let q = p + 16 + 16 in
      let a : q + 20 ≡ q + 4 + 16 = omega arith in
      let v : bytes_at (bits b) (q + 20) n ≡ text_at (bits b) (q + 4) = ap₂ (bytes_at (bits b)) a T.count in
      let z : Wrote (kept c w None) (kept c u (full_refusal u)) page' texts' (fed indent (text_at (bits b) (q + 4)) (outputs w page texts)) =
      wrote_by (kept c w None) (kept c u (full_refusal u)) u page' texts' (fed indent (text_at (bits b) (q + 4)) (outputs w page texts))
      (h ∙ ap (λ (x : Bytes). fed indent x (outputs w page texts)) v) (kept_wrote c w u) in
      record {
        next = sym (ap (λ (x : Content). x.next) T.seen);
        renders = element_raw s b o before (world (kept c u (full_refusal u)) page' texts' indent ent) d (element_view 16 d (bits b) p).element (q + 4)
            (ap (λ (x : Content). x.element) T.seen) (draws_fed s b before (kept c u (full_refusal u)) page' texts' r (text_at (bits b) (q + 4)) z);
      }

  -- a is what an expression with a path alone does, by the open scopes l. One without escaping is drawn only where escaping is not disabled already: behind it, it is not.
  module _ (html : Bool) (v next : ℕ) (P : PathIs d (bits b) (p + 16 + 16) html v next) (a : Shows) (l : List Scope) (same : c.scopes ≡ l) (E : ExpressingCall s b ent l c.used o d (p + 16 + 16 + 4) a) where
    abbrev call : template.Call
    call = call_at d (bits b) (p + 16 + 16 + 4)

    abbrev inside : RenderContext
    inside = with_escape (kept c w None) true

    drawn : (x : World) → Renders s b o before x (λ g R. render_expression g call P.before) → html ≡ false → OneDrawn s b o d p before x next
    drawn x R h = record {
      next = sym (ap (λ (y : Content). y.next) P.seen);
      renders = element_expression s b o before x d (element_view 16 d (bits b) p).element (p + 16 + 16 + 4) P.before
          (ap (λ (y : Content). y.element) P.seen ∙ ap (λ (t : Bool). expression_of t (p + 16 + 16 + 4) P.before) h) R;
    }

    drawn_html : (x : World) → Renders s b o before x (λ g R. render_html_expression g call P.before) → html ≡ true → OneDrawn s b o d p before x next
    drawn_html x R h = record {
      next = sym (ap (λ (y : Content). y.next) P.seen);
      renders = element_html s b o before x d (element_view 16 d (bits b) p).element (p + 16 + 16 + 4) P.before
          (ap (λ (y : Content). y.element) P.seen ∙ ap (λ (t : Bool). expression_of t (p + 16 + 16 + 4) P.before) h) R;
    }

    ready : Ready s b (over inside before)
    ready = html_ready s b o before r call P.before inside refl

    -- behind what was drawn without escaping: u is the writer there, n the refusal, if there is one
    outside : c.disable_escape ≡ false → html ≡ true → (u : Writer) (n : RustOption Reason) (page' texts' : Bytes) → Renders s b o (over inside before) (world (with_escape (kept c u n) true) page' texts' indent ent) (λ g R. render_expression g call P.before)
        → OneDrawn s b o d p before (world (kept c u n) page' texts' indent ent) next
    unfolding error_of
    outside off h u n page' texts' D = drawn_html (world (kept c u n) page' texts' indent ent) (by n D refl) h
      where
        left_off : (n : RustOption Reason) → kept c u n ≡ with_escape (kept c u n) false
        left_off n = ap (with_escape (kept c u n)) off

        by : (m : RustOption Reason) → Renders s b o (over inside before) (world (with_escape (kept c u m) true) page' texts' indent ent) (λ g R. render_expression g call P.before) → n ≡ m
            → Renders s b o before (world (kept c u m) page' texts' indent ent) (λ g R. render_html_expression g call P.before)
        by None D k = html_drawn s b o before r call P.before inside refl (world (with_escape (kept c u None) true) page' texts' indent ent) D refl (kept c u None) (left_off None)
        by (Some m) D k = record {
          at = λ f le.
              let z = (html_refused s b o before r call P.before inside refl (world (with_escape (kept c u (Some m)) true) page' texts' indent ent) D (λ q. none-some m (sym q))).at f le in
              record { fine = λ q. absurd (none-some m (sym q)); refused = λ q. z.refused q };
        }

    pub path_refused : (html ≡ true → c.disable_escape ≡ false) → (n : Reason) → a ≡ shows.Bad n → OneDrawn s b o d p before (world (kept c w (Some n)) page texts indent ent) next
    path_refused off n h = by html refl
      where
        by : (t : Bool) → html ≡ t → OneDrawn s b o d p before (world (kept c w (Some n)) page texts indent ent) next
        by true k = outside (off k) k w (Some n) page texts (expression_refused s b o (over inside before) ready d (p + 16 + 16 + 4) P.before a l same E n h (with_escape (kept c w (Some n)) true) refl)
        by false k = drawn (world (kept c w (Some n)) page texts indent ent) (expression_refused s b o before r d (p + 16 + 16 + 4) P.before a l same E n h (kept c w (Some n)) refl) k

    pub path_listed : (n : Reason) → a ≡ shows.Bad n → Listed n
    path_listed n h =
        let g = registry_of s b o (length page) in
        let S : Setting s b ent l c.used o g (abs s b before) (top before) =
        subst (λ (k : List Scope). Setting s b ent k c.used o g (abs s b before) (top before)) same (setting s b o before r (length page)) in
        let f : Expresses s b ent (top before) g call P.before (abs s b before) (render_expression g call P.before (abs s b before)) (shows.Bad n) =
        subst (Expresses s b ent (top before) g call P.before (abs s b before) (render_expression g call P.before (abs s b before))) h (E g (abs s b before) (top before) P.before S) in
        listed f.reason n f.by_reason

    pub path_nothing : (html ≡ true → c.disable_escape ≡ false) → a ≡ shows.Nothing → OneDrawn s b o d p before (world (kept c w (full_refusal w)) page texts indent ent) next
    path_nothing off h = subst (λ (n : RustOption Reason). OneDrawn s b o d p before (world (kept c w n) page texts indent ent) next) (sym (full_none w r.sound.goes)) (by html refl)
      where
        by : (t : Bool) → html ≡ t → OneDrawn s b o d p before before next
        by true k = outside (off k) k w None page texts (expression_nothing s b o (over inside before) ready d (p + 16 + 16 + 4) P.before a l same E h)
        by false k = drawn before (expression_nothing s b o before r d (p + 16 + 16 + 4) P.before a l same E h) k

    inside_wrote : (u : Writer) → with_escape (kept c u (full_refusal u)) true ≡ wrote inside u
    inside_wrote u = ap (λ (k : RenderContext). with_escape k true) (kept_wrote c w u) ∙ by u.full
      where
        by : (t : Bool) → with_escape (pick t (failed (with_writer (kept c w None) u) (Some (pick u.block_text BlockTextsLimit PageLimit))) (with_writer (kept c w None) u)) true ≡ pick t (failed (with_writer inside u) (Some (pick u.block_text BlockTextsLimit PageLimit))) (with_writer inside u)
        by true = refl
        by false = refl

    pub path_written : (html ≡ true → c.disable_escape ≡ false) → (y : Value) → a ≡ shows.Value y → (u : Writer) (page' texts' : Bytes)
        → Means s b y (λ j. outputs u page' texts' ≡ fed indent (escaped (not (html || c.disable_escape)) (render j)) (outputs w page texts))
        → OneDrawn s b o d p before (world (kept c u (full_refusal u)) page' texts' indent ent) next
    path_written off y h u page' texts' = by html refl
      where
        by : (t : Bool) → html ≡ t → Means s b y (λ j. outputs u page' texts' ≡ fed indent (escaped (not (t || c.disable_escape)) (render j)) (outputs w page texts))
            → OneDrawn s b o d p before (world (kept c u (full_refusal u)) page' texts' indent ent) next
        by true k M =
            outside (off k) k u (full_refusal u) page' texts'
            (expression_written s b o (over inside before) ready d (p + 16 + 16 + 4) P.before a l same E y h (with_escape (kept c u (full_refusal u)) true) page' texts' (value_prints s b page texts indent inside (with_escape (kept c u (full_refusal u)) true) y u page' texts' (inside_wrote u) M))
        by false k M =
            drawn (world (kept c u (full_refusal u)) page' texts' indent ent)
            (expression_written s b o before r d (p + 16 + 16 + 4) P.before a l same E y h (kept c u (full_refusal u)) page' texts' (value_prints s b page texts indent (kept c w None) (kept c u (full_refusal u)) y u page' texts' (kept_wrote c w u) M)) k

-- Elements one after the other

-- a context that holds no error
pub kept_same : (c : RenderContext) → c.bad ≡ None → c ≡ kept c c.writer None
kept_same c e = ap (λ (n : RustOption Reason). kept c c.writer n) e

-- the same in front of any element of a body: c is the context there
module _ (s b : Bytes) (o : Options) (d p : ℕ) (c : RenderContext) (page texts indent : Bytes) (ent : List ℕ) (r : Ready s b (world c page texts indent ent)) where
  abbrev here : World
  here = world c page texts indent ent

  abbrev same : c ≡ kept c c.writer None
  same = kept_same c r.fine

  ready_kept : Ready s b (world (kept c c.writer None) page texts indent ent)
  ready_kept = subst (λ (x : RenderContext). Ready s b (world x page texts indent ent)) same r

  from_here : (l : World) (z : ℕ) → OneDrawn s b o d p (world (kept c c.writer None) page texts indent ent) l z → OneDrawn s b o d p here l z
  from_here l z = subst (λ (x : RenderContext). OneDrawn s b o d p (world x page texts indent ent) l z) (sym same)

  -- u is the writer behind what was written
  written_here : (u : Writer) (page' texts' : Bytes) (z : ℕ) → OneDrawn s b o d p (world (kept c c.writer None) page texts indent ent) (world (kept c u (full_refusal u)) page' texts' indent ent) z
      → OneDrawn s b o d p here (world (wrote c u) page' texts' indent ent) z
  written_here u page' texts' z O =
      from_here (world (wrote c u) page' texts' indent ent) z
      (subst (λ (x : RenderContext). OneDrawn s b o d p (world (kept c c.writer None) page texts indent ent) (world x page' texts' indent ent) z) (kept_wrote c c.writer u ∙ ap (λ (x : RenderContext). wrote x u) (sym same)) O)

  pub text_here : (n : ℕ) → TextIs d (bits b) (p + 16 + 16) n → (u : Writer) (page' texts' : Bytes)
      → outputs u page' texts' ≡ fed indent (bytes_at (bits b) (p + 16 + 16 + 20) n) (outputs c.writer page texts)
      → OneDrawn s b o d p here (world (wrote c u) page' texts' indent ent) (p + 16 + 16 + 20 + 8 * n)
  text_here n T u page' texts' h = written_here u page' texts' (p + 16 + 16 + 20 + 8 * n) (text_drawn s b o d p c c.writer page texts indent ent ready_kept n T u page' texts' h)

  -- l is the array that is handed on, and front its newest scope
  module _ (front : Scope) (names : ℕ) (l : List Scope) (same-scopes : c.scopes ≡ l) (N : Newest b ent front names l c.used) (html : Bool) (next : ℕ) (a : Shows)
      (A : ShowsAt s b ent front names c.disable_escape o d (p + 16 + 16) html next a) where
    pub value_known : (v : Value) → a ≡ shows.Value v → Known s b v
    value_known v h = expression_known s b o here r d (p + 16 + 16 + 4) A.is.before a l same-scopes (A.shows l c.used N) v h

    pub value_here : (v : Value) → a ≡ shows.Value v → (u : Writer) (page' texts' : Bytes)
        → Means s b v (λ j. outputs u page' texts' ≡ fed indent (escaped (not (html || c.disable_escape)) (render j)) (outputs c.writer page texts))
        → OneDrawn s b o d p here (world (wrote c u) page' texts' indent ent) next
    value_here v h u page' texts' M =
        written_here u page' texts' next (path_written s b o d p c c.writer page texts indent ent ready_kept html A.path next A.is a l same-scopes (A.shows l c.used N) A.escapes v h u page' texts' M)

    pub nothing_here : a ≡ shows.Nothing → OneDrawn s b o d p here here next
    nothing_here h =
        from_here here next
        (subst (λ (x : RenderContext). OneDrawn s b o d p (world (kept c c.writer None) page texts indent ent) (world x page texts indent ent) next)
        (ap (kept c c.writer) (full_none c.writer r.sound.goes) ∙ sym same)
        (path_nothing s b o d p c c.writer page texts indent ent ready_kept html A.path next A.is a l same-scopes (A.shows l c.used N) A.escapes h))

    pub refused_here : (n : Reason) → a ≡ shows.Bad n → OneDrawn s b o d p here (world (failed c (Some n)) page texts indent ent) next
    refused_here n h =
        from_here (world (failed c (Some n)) page texts indent ent) next
        (path_refused s b o d p c c.writer page texts indent ent ready_kept html A.path next A.is a l same-scopes (A.shows l c.used N) A.escapes n h)

    pub refusal_listed : (n : Reason) → a ≡ shows.Bad n → Listed n
    refusal_listed n h = path_listed s b o d p c c.writer page texts indent ent ready_kept html A.path next A.is a l same-scopes (A.shows l c.used N) n h

-- a writer that is not full has written all
pub wrote_all : (c : RenderContext) (u : Writer) → u.full ≡ false → wrote c u ≡ with_writer c u
wrote_all c u e = ap (λ (t : Bool). pick t (failed (with_writer c u) (Some (pick u.block_text BlockTextsLimit PageLimit))) (with_writer c u)) e

pub both_true : (x y : Bool) → (x && y) ≡ true → (x ≡ true) × (y ≡ true)
both_true true y h = (refl, h)
both_true false y h = differ (sym h)

-- What is told of a path alone

pub path_shows : (s b : Bytes) (ent : List ℕ) (front : Scope) (names : ℕ) (off : Bool) (o : Options) (d p : ℕ) (html : Bool) (v next : ℕ) → PathIs d (bits b) p html v next → (html && off) ≡ false → (a : Shows)
    → ((l : List Scope) (used : ℕ) → Newest b ent front names l used → ExpressingBare s b ent l used o v a) → ShowsAt s b ent front names off o d p html next a
path_shows s b ent front names off o d p html v next P on a B = record {
  path = v;
  is = P;
  escapes = λ k. sym (ap (λ (t : Bool). t && off) k) ∙ on;
  shows = λ l used N g st t ibw S. B l used N g st t d (p + 4) ibw S P.call P.named P.bare;
}

-- an expression without escaping, by either view of it
pub path_html : (d : ℕ) (b : Bits) (p : ℕ) (html : Bool) (v next : ℕ) → html ≡ true → PathIs d b p html v next → is_html (content_view 16 d b p).element ≡ true
path_html d b p html v next h P = ap (λ (y : Content). is_html y.element) P.seen ∙ ap (λ (t : Bool). is_html (expression_of t (p + 4) P.before)) h

pub call_html : (d : ℕ) (b : Bits) (p : ℕ) (html : Bool) → html ≡ true → ExpressionIs d b p html → is_html (content_view 16 d b p).element ≡ true
call_html d b p html h E = ap (λ (y : Content). is_html y.element) E.seen ∙ ap (λ (t : Bool). is_html (expression_of t (p + 4) (flag_at b (call_end d b (p + 4))))) h

pub not_first : (t u : Bool) → true ≡ pick t false u → u ≡ true
not_first true u h = differ h
not_first false u h = sym h
