-- Laws of lookups.
use Rattle.std.proofs.lemmas.Option.{none-some}
use Rattle.std.specs.Prelude.{ℕ, zero, suc, ◌+◌, ◌-◌, ◌≤◌, Bool, not, ◌||◌, List, ◌≡◌, ltb, None, Some, Ok, Option as RustOption}
use Rattle.std.proofs.Math.Bool.{true, false}
use Rattle.std.proofs.Math.Option.{Option, none}
use Rattle.std.proofs.Math.Path.{refl, subst}
use Rattle.std.proofs.Common.{sym, ap, ap₂, ◌∙◌, arith, ne_eqb, lt-ltb, ltb-true, ltb-false}
use Rattle.rules.specs.Bytes.{Bytes, pick}
use Rattle.rules.specs.Order.{differ}
use Rattle.rules.specs.Json.{Json}
use Rattle.rules.specs.Bits.{bits}
use Rattle.rules.specs.Bundle.{string}
use Rattle.rules.specs.Error.{got}
use Rattle.rules.specs.HelperLookup.{looked_up}
use Rattle.rules.specs.Value.{derived, render}
use Rattle.rules.specs.State as rules
use Rattle.rules.specs.Registry.{Registry, get_helper}
use Rattle.rules.specs.Expand.{expand, try_from_template}
use Rattle.rules.specs.Template as template
use Rattle.rules.specs.Template.{name_only}
use Rattle.rules.specs.Render.{render_element, render_expression, render_html_expression}
use Rattle.output.specs.declared.Writer.{Writer}
use Rattle.output.specs.Outputs.{outputs}
use Rattle.support.specs.Feed.{escaped, fed}
use Rattle.layout.specs.Text.{text_at}
use Rattle.parts.specs.Holds.{Holds}
use Rattle.parts.specs.Says.{path_at, literal_at}
use Rattle.calls.specs.Calls.{call_at, param_view}
use Rattle.template.specs.declared.Content.{Content}
use Rattle.template.specs.Views.{content_of, element_says, element_view}
use Rattle.value.specs.declared.Value.{Value}
use Rattle.value.specs.declared.Value.TheVariants as value
use Rattle.value.specs.Numbers.{decoded}
use Rattle.meaning.specs.Meaning.{json_of}
use Rattle.meaning.specs.MeaningLaws.{plain_is}
use Rattle.meaning.specs.Forms.{Known}
use Rattle.meaning.specs.Means.{Means}
use Rattle.meaning.specs.Standing.{plain}
use Rattle.scope.specs.declared.Scope.{Scope}
use Rattle.lookup.specs.Answers.{IsFound, Finds}
use Rattle.lookup.specs.Numbers.{numbered_found}
use Rattle.lookup.proofs.Leading.{finds_eq}
use Rattle.context.specs.Start.{Newest}
use Rattle.expand.specs.declared.Options.{Options}
use Rattle.expand.specs.declared.Expanded.{Expanded}
use Rattle.expand.specs.declared.HelperDef.TheVariants as helper
use Rattle.expand.specs.Answers.{Setting, Expands, IsTemplate, helper_of, joined, gathered}
use Rattle.expand.proofs.Parts.{no_params_given, joined_given, no_hash_given, gathered_given, string_given}
use Rattle.helpers.specs.declared.Does.TheVariants as does
use Rattle.helpers.specs.declared.Shows.TheVariants as shows
use Rattle.helpers.specs.Does.{given, ExpressingCall}
use Rattle.helpers.proofs.Deciding.{lookup_found, by_lookup}
use Rattle.helpers.proofs.Expressing.{called}
use Rattle.state.specs.declared.RenderContext as code
use Rattle.state.specs.Context.{RenderContext, whole, Front}
use Rattle.state.specs.Setters.{with_writer, with_escape, failed, marked, settled, wrote, finished}
use Rattle.state.specs.World.{World, world, error_of, Ready}
use Rattle.drawing.specs.Parts.{before_helper}
use Rattle.drawing.specs.Renders.{Renders}
use Rattle.drawing.specs.Elements.{element_html, element_expression}
use Rattle.drawing.specs.Continues.{unless_fine}
use Rattle.drawing.specs.Arrays.{front_current, array_scopes, array_newest}
use Rattle.helping.specs.Decided.{CallWorked, Decided, DecidedBy}
use Rattle.helping.proofs.Deciding.{Gets, gets_value, by_text}
use Rattle.expressions.specs.Laws.{bare_printable, bare_written, bare_rendered, expression_helper, html_ready, html_drawn, html_refused}
use Rattle.plain.specs.declared.Lookup.{Lookup}
use Rattle.plain.specs.declared.Lookup.TheVariants as lookup
use Rattle.plain.specs.declared.Shown.{Shown}
use Rattle.plain.specs.declared.Shown.TheVariants as shown
use Rattle.plain.specs.Looked.{lookup_view, CallIs, LookedAt, PathsAre, LiteralIs, LookupIs, Keyed, KeyedPaths, KeyedLiteral, Numbered, found_view, shown_by, LookupShown}
use Rattle.plain.specs.Plain.{expression_of, ExpressionIs, is_alone, OneDrawn, LookupAt, unfound, ShownIs}
use Rattle.plain.specs.Drawn.{marks_in, left_by, HelperWrote}
use Rattle.plain.specs.Laws.{value_prints}
use Rattle.error.specs.declared.RenderErrorReason.TheVariants.{BlockTextsLimit, PageLimit}
use Rattle.error.specs.declared.RenderErrorReason.{RenderErrorReason as Reason}

-- What the helper does: it writes the value that is found

-- the string at q as the name, and two values
abbrev both : ℕ → Value → Value → Expanded
both q v w = gathered (Ok (value.Text q)) 2 (joined (Ok v) (joined (Ok w) (record { first = value.Missing; second = value.Missing; bad = None }))) (record { zero = false; bad = None })

module _ (s b : Bytes) (ent : List ℕ) (front : Scope) (names : ℕ) (o : Options) (d p : ℕ) where
  module _ (l : List Scope) (used : ℕ) (N : Newest b ent front names l used) where
    -- y is what the second parameter says
    worked_both : (v : ℕ) (y : template.Parameter) → CallIs d (bits b) p v y → Holds string (bits b) (p + 2) → (u w : Value) → Gets s b ent l used o v (Ok u)
        → ((g : Registry) (st : rules.RenderContext) (t : ℕ) → Setting s b ent l used o g st t → Expands s b ent t (expand g st y) (Ok w)) → CallWorked s b ent l used o d p (both (p + 2) u w)
    worked_both v y F H u w h k g st t S =
        subst (λ (y : template.Call). IsTemplate s b ent t (try_from_template g st y) (both (p + 2) u w)) (sym F)
        (gathered_given s b ent t _ _ _ (Ok (value.Text (p + 2))) 2 _ _ (string_given s b ent t (p + 2) H g st _ refl)
        (joined_given s b ent t _ _ (Ok u) _ 1 (h g st t S) (joined_given s b ent t _ _ (Ok w) _ 0 (k g st t S) (no_params_given s b ent t)))
        (no_hash_given s b ent t))

    writes : (u w : Value) → CallWorked s b ent l used o d p (both (p + 2) u w) → helper.Lookup ≡ helper_of (get_helper (text_at (bits b) (p + 2)))
        → (x : Value) → IsFound s b ent u (looked_up (json_of s b ent u) (json_of s b ent w)) x → DecidedBy s b ent l used o d p false false (does.Write x)
    writes u w worked named x is_found =
        by_text s b ent l used o d p false false (both (p + 2) u w) worked (p + 2) refl refl helper.Lookup (does.Write x) named
        (by_lookup s b ent used o helper.Lookup (given (value.Text (p + 2)) 2 u w false None) false false refl (does.Write x)
        (λ g st t e ns T I G E _ _. lookup_found s b ent t used o (given (value.Text (p + 2)) 2 u w false None) g st e ns T I G E (omega arith) x is_found))

    -- two more than the number of a value
    module _ (n : ℕ) (two : 2 ≤ n) where
      numbered : (u : Value) (j : Option Json) → Finds s b ent u j (numbered_found n) → IsFound s b ent u j (decoded (n - 2))
      numbered u j h = let e : n ≡ suc (suc (n - 2)) = omega arith in subst (λ (m : ℕ). Finds s b ent u j (numbered_found m)) e h

      some_value : {U : Value → ℕ → Type 0} {v : ℕ} (K : Keyed s b ent front names o U v n) → K.value ≡ 0 → ⊥
      some_value K z = omega (arith, K.none z, two)

      paths_write : (v k : ℕ) (before : Bool) (next : ℕ) → PathsAre d (bits b) p v k before next → KeyedPaths s b ent front names o v k n
          → DecidedBy s b ent l used o d p false false (does.Write (decoded (n - 2)))
      paths_write v k before next X K =
          let m = some_value K in
          let U = K.some m in
          let i : U.key ≡ 0 → ⊥ = λ z. differ (sym (lt-ltb 0 n (omega arith)) ∙ U.known ∙ ap (ltb 0) z) in
          writes (decoded (K.value - 1)) (decoded (U.key - 1))
          (worked_both v (template.path (path_at (bits b) k)) X.few.0 X.few.1 (decoded (K.value - 1)) (decoded (U.key - 1))
          (gets_value s b ent l used o v K.value m (decoded (K.value - 1)) refl (K.led.some m l used N))
          (gets_value s b ent l used o k U.key i (decoded (U.key - 1)) refl (U.led.some i l used N)))
          X.at.named (decoded (n - 2)) (numbered _ _ (U.told i))

      literal_write : (v k : ℕ) (before : Bool) (next : ℕ) → LiteralIs d (bits b) p v k before next → KeyedLiteral s b ent front names o v k n
          → DecidedBy s b ent l used o d p false false (does.Write (decoded (n - 2)))
      literal_write v k before next X K =
          let m = some_value K in
          let U = K.some m in
          writes (decoded (K.value - 1)) (value.Literal k)
          (worked_both v (template.literal (literal_at (bits b) k)) X.few.0 X.few.1 (decoded (K.value - 1)) (value.Literal k)
          (gets_value s b ent l used o v K.value m (decoded (K.value - 1)) refl (K.led.some m l used N))
          (λ g st t S. (ap (λ (j : Json). got (derived j)) (sym (plain_is s b ent (value.Literal k) refl)), plain refl X.few.3)))
          X.at.named (decoded (n - 2))
          (finds_eq s b ent (decoded (K.value - 1)) _ _ (Some (decoded (n - 2))) (ap (looked_up (json_of s b ent (decoded (K.value - 1)))) (plain_is s b ent (value.Literal k) refl))
          (numbered _ _ (U.told (λ z. omega (arith, z, two)))))

  -- what the reader of the call and the numbers tell, of the element at q whose call stands at p
  lookup_writes : (x : Lookup) (n : ℕ) → 2 ≤ n → LookupIs d (bits b) p x → Numbered s b ent front names o x n → (l : List Scope) (used : ℕ) → Newest b ent front names l used
      → DecidedBy s b ent l used o d p false false (does.Write (decoded (n - 2)))
  lookup_writes (lookup.Paths v k before next) n two X K l used N = paths_write l used N n two v k before next X K
  lookup_writes (lookup.Literal v k before next) n two X K l used N = literal_write l used N n two v k before next X K
  lookup_writes lookup.Other n two X K l used N = absurd (omega (arith, K))

  -- a call with parameters is a helper's
  calls_helper : (x : Lookup) (n : ℕ) → 2 ≤ n → LookupIs d (bits b) p x → Numbered s b ent front names o x n → name_only (call_at d (bits b) p) ≡ none
  calls_helper (lookup.Paths v k before next) n two X K = ap name_only X.few.0
  calls_helper (lookup.Literal v k before next) n two X K = ap name_only X.few.0
  calls_helper lookup.Other n two X K = absurd (omega (arith, K))

-- What is told of an expression that is no path alone

module _ (s b : Bytes) (ent : List ℕ) (front : Scope) (names : ℕ) (off : Bool) (o : Options) (d p : ℕ) (html : Bool) (E : ExpressionIs d (bits b) p html)
    (many : is_alone (bits b) (param_view (bits b) (p + 4)) ≡ false) (escapes : html ≡ true → off ≡ false) where
  lookup_at : (x : Lookup) (n : ℕ) → 2 ≤ n → LookupIs d (bits b) (p + 4) x → Numbered s b ent front names o x n → (before : Bool) (next : ℕ) → LookedAt d (bits b) (p + 4) before next
      → LookupAt s b ent front names off o d p (n - 2) html before next
  lookup_at x n two X K before next L = record {
    seen = E.seen ∙ ap₂ (λ (f : Bool) (z : ℕ). content_of (expression_of html (p + 4) f) z) (sym L.bit) (sym L.behind);
    escapes = escapes;
    shows = λ l used N g st t ibw S. called s b ent t g st (call_at d (bits b) (p + 4)) ibw (calls_helper s b ent front names o d (p + 4) x n two X K);
    writes = lookup_writes s b ent front names o d (p + 4) x n two X K;
  }

  shown_found : (x : Lookup) (n : ℕ) → x ≡ lookup_view (bits b) (p + 4) → LookupIs d (bits b) (p + 4) x → Numbered s b ent front names o x n → (before : Bool) (next : ℕ)
      → LookedAt d (bits b) (p + 4) before next → ShownIs s b ent front names off o d p (found_view n html before next)
  shown_found x n hx X K before next L = by (ltb n 2) refl
    where
      by : (t : Bool) → ltb n 2 ≡ t → ShownIs s b ent front names off o d p (pick t shown.Other (shown.Lookup (n - 2) html before next))
      by true e = unfound html E many n (subst (λ (y : Lookup). Numbered s b ent front names o y n) hx K) (ltb-true n 2 e)
      by false e = lookup_at x n (ltb-false n 2 e) X K before next L

  shown_so : (x : Lookup) (n : ℕ) → x ≡ lookup_view (bits b) (p + 4) → LookupIs d (bits b) (p + 4) x → Numbered s b ent front names o x n → ShownIs s b ent front names off o d p (shown_by html x n)
  shown_so (lookup.Paths v k before next) n hx X K = shown_found (lookup.Paths v k before next) n hx X K before next X.at
  shown_so (lookup.Literal v k before next) n hx X K = shown_found (lookup.Literal v k before next) n hx X K before next X.at
  shown_so lookup.Other n hx X K = unfound html E many n (subst (λ (y : Lookup). Numbered s b ent front names o y n) hx K) (omega (arith, K))

  pub lookup_told : LookupIs d (bits b) (p + 4) (lookup_view (bits b) (p + 4)) → (r : Shown) → LookupShown s b ent front names o html (p + 4) r → ShownIs s b ent front names off o d p r
  lookup_told X r R =
      subst (ShownIs s b ent front names off o d p) (sym R.is) (shown_so (lookup_view (bits b) (p + 4)) R.number refl X R.told)

-- A lookup is drawn

-- c is the context in front of the element at p, l the array that is handed on, and front its newest scope
module _ (s b : Bytes) (o : Options) (d p : ℕ) (c : RenderContext) (page texts indent : Bytes) (ent : List ℕ) (r : Ready s b (world c page texts indent ent))
    (front : Scope) (names : ℕ) (l : List Scope) (same : c.scopes ≡ l) (N : Newest b ent front names l c.used) (v : ℕ) (html before : Bool) (next : ℕ)
    (A : LookupAt s b ent front names c.disable_escape o d (p + 16 + 16) v html before next) where
  abbrev q : ℕ
  q = p + 16 + 16 + 4

  abbrev call : template.Call
  call = call_at d (bits b) q

  abbrev here : World
  here = world c page texts indent ent

  decided : (k : RenderContext) → k.scopes ≡ c.scopes → k.used ≡ c.used → Decided s b ent o k d q None None (does.Write (decoded v))
  decided k el eu = A.writes l c.used N k None None (el ∙ same) eu refl refl

  -- the value that is written is one of the plan or the bundle
  pub lookup_known : Known s b (decoded v)
  lookup_known = bare_printable s b o here r d q before (does.Write (decoded v)) (decided c refl refl) (decoded v) refl

  -- with escaping or without, as the context k says; u is the writer behind the value
  shown_in : (k : RenderContext) (el : k.scopes ≡ c.scopes) (eu : k.used ≡ c.used) → Ready s b (world k page texts indent ent) → (u : Writer) (page' texts' : Bytes)
      → Means s b (decoded v) (λ j. outputs u page' texts' ≡ fed indent (escaped (not k.disable_escape) (render j)) (outputs (marks_in k.writer before) page texts))
      → Renders s b o (world k page texts indent ent) (world (left_by k before u) page' texts' indent ent) (λ g R. render_expression g call before)
  shown_in k el eu ready u page' texts' M =
      let w : World = world k page texts indent ent in
      let m : RenderContext = marked k (before_helper k.writer before) in
      let B = bare_written s b m page texts indent (does.Write (decoded v)) (decoded v) refl (wrote m u) page' texts' (value_prints s b page texts indent m (wrote m u) (decoded v) u page' texts' refl M) in
      let R = bare_rendered s b o w ready d q before (does.Write (decoded v)) (decided k el eu) m (wrote m u) (left_by k before u) page' texts' refl B refl in
      expression_helper s b o w ready d q before shows.Helper l (el ∙ same) (subst (λ (n : ℕ). ExpressesBy n) (sym eu) (A.shows l c.used N)) refl (world (left_by k before u) page' texts' indent ent) (record { at = R.at })
    where
      ExpressesBy : ℕ → Type 0
      ExpressesBy n = ExpressingCall s b ent l n o d q shows.Helper

  -- without escaping: u is the writer behind the value, and behind the element escaping is not disabled
  module _ (u : Writer) (page' texts' : Bytes) where
    abbrev inside : RenderContext
    inside = with_escape c true

    abbrev refusal_of : RustOption Reason
    refusal_of = Some (pick u.block_text BlockTextsLimit PageLimit)

    some_refusal : refusal_of ≡ None → ⊥
    some_refusal h = none-some (pick u.block_text BlockTextsLimit PageLimit) (sym h)

    -- the context k behind the value, written whole or not
    abbrev unsettled : RenderContext → RenderContext
    unsettled k = with_writer (marked k (before_helper c.writer before)) u

    abbrev left : RenderContext → Bool → RenderContext
    left k t = finished c.writer (pick t (failed (unsettled k) refusal_of) (unsettled k))

    left_whole : (k : RenderContext) → k.bad ≡ None → left k false ≡ settled (unsettled k) c.writer
    left_whole k e = unless_fine (λ z. settled z c.writer) (unsettled k) e

    left_part : (k : RenderContext) → left k true ≡ failed (unsettled k) refusal_of
    left_part k = refl

    outside : c.disable_escape ≡ false → (t : Bool) → Renders s b o (world inside page texts indent ent) (world (left inside t) page' texts' indent ent) (λ g R. render_expression g call before)
        → Renders s b o here (world (left c t) page' texts' indent ent) (λ g R. render_html_expression g call before)
    unfolding error_of
    outside off false D =
        let w : RenderContext → World = λ k. world k page' texts' indent ent in
        let x : RenderContext → RenderContext = λ k. settled (unsettled k) c.writer in
        subst (λ (k : RenderContext). Renders s b o here (w k) (λ g R. render_html_expression g call before)) (sym (left_whole c r.fine))
        (html_drawn s b o here r call before inside refl (w (x inside))
        (subst (λ (k : RenderContext). Renders s b o (world inside page texts indent ent) (w k) (λ g R. render_expression g call before)) (left_whole inside r.fine) D)
        r.fine (x c) (ap (with_escape (x c)) off))
    outside off true D =
        let w : RenderContext → World = λ k. world k page' texts' indent ent in
        let x : RenderContext → RenderContext = λ k. failed (unsettled k) refusal_of in
        let R = html_refused s b o here r call before inside refl (w (x inside))
        (subst (λ (k : RenderContext). Renders s b o (world inside page texts indent ent) (w k) (λ g R. render_expression g call before)) (left_part inside) D) some_refusal in
        subst (λ (k : RenderContext). Renders s b o here (w k) (λ g R. render_html_expression g call before)) (sym (left_part c))
        (record { at = λ f le. let z = R.at f le in record { fine = λ e. absurd (some_refusal e); refused = λ e. z.refused e } })

    -- the element
    pub lookup_drawn : Means s b (decoded v) (λ j. outputs u page' texts' ≡ fed indent (escaped (not (html || c.disable_escape)) (render j)) (outputs (marks_in c.writer before) page texts))
        → OneDrawn s b o d p here (world (left_by c before u) page' texts' indent ent) next
    lookup_drawn M = record { next = sym (ap (λ (z : Content). z.next) A.seen); renders = by html refl M }
      where
        behind : World
        behind = world (left_by c before u) page' texts' indent ent

        ready : Ready s b (world inside page texts indent ent)
        ready = html_ready s b o here r call before inside refl

        element : (t : Bool) → html ≡ t → (element_view 16 d (bits b) p).element ≡ expression_of t q before
        element t k = ap (λ (z : Content). z.element) A.seen ∙ ap (λ (t : Bool). expression_of t q before) k

        by : (t : Bool) → html ≡ t → Means s b (decoded v) (λ j. outputs u page' texts' ≡ fed indent (escaped (not (t || c.disable_escape)) (render j)) (outputs (marks_in c.writer before) page texts))
            → Renders s b o here behind (λ g R. render_element g R (element_says 16 d (bits b) (element_view 16 d (bits b) p).element))
        by true k M = element_html s b o here behind d (element_view 16 d (bits b) p).element q before (element true k) (outside (A.escapes k) u.full (shown_in inside refl refl ready u page' texts' M))
        by false k M = element_expression s b o here behind d (element_view 16 d (bits b) p).element q before (element false k) (shown_in c refl refl r u page' texts' M)

-- The promise of the code

pub lookup_here : (s b : Bytes) (o : Options) (d p : ℕ) (rc x : code.RenderContext) (page texts indent page' texts' : Bytes) (ent : List ℕ) (front : Scope) (l : List Scope)
    (v : ℕ) (html before : Bool) (next : ℕ) → HelperWrote s b (decoded v) html before rc x page texts indent page' texts' → Front l rc front → Ready s b (world (whole rc l) page texts indent ent)
    → LookupAt s b ent front rc.names rc.disable_escape o d (p + 16 + 16) v html before next
    → OneDrawn s b o d p (world (whole rc l) page texts indent ent) (world (whole x l) page' texts' indent ent) next
lookup_here s b o d p rc x page texts indent page' texts' ent front l v html before next W F ready A =
    subst (λ (k : RenderContext). OneDrawn s b o d p (world (whole rc l) page texts indent ent) (world k page' texts' indent ent) next) (sym (W.is l))
    (lookup_drawn s b o d p (whole rc l) page texts indent ent ready front rc.names l (array_scopes s b rc l page texts indent ent ready (front_current l rc front F))
    (array_newest s b rc l page texts indent ent ready front F) v html before next A W.behind page' texts' W.written)
