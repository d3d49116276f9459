-- A partial that was found is entered: its scope is opened, and its body or the body of its block text begins. s is the plan, b the bundle.
use Rattle.std.proofs.lemmas.Option.{none-some}
use Rattle.std.specs.Prelude.{ℕ, suc, ◌+◌, ◌-◌, ◌≤◌, Bool, List, [], ◌≡◌, refl, length, set, Option as RustOption, Some, None, Ok, Err}
use Rattle.std.proofs.Math.Option.{none}
use Rattle.std.proofs.Common.{sym, ap, ◌∙◌, subst, arith}
use Rattle.rules.specs.Bytes.{Bytes}
use Rattle.rules.specs.Bits.{bits}
use Rattle.rules.specs.Bundle.{string, body}
use Rattle.rules.specs.BlockUtil as block-util
use Rattle.rules.specs.State.{text_size}
use Rattle.rules.specs.Render.{render_elements}
use Rattle.parts.specs.Says.{MaybeHolds, indent_says}
use Rattle.places.specs.Accepted.{Accepted}
use Rattle.template.specs.Views.{template_at}
use Rattle.expand.specs.declared.Options.{Options}
use Rattle.expand.specs.declared.Expanded.{Expanded}
use Rattle.scope.specs.declared.Scope.{Scope}
use Rattle.scope.specs.NameBits.{Covers}
use Rattle.value.specs.declared.Value.{Value}
use Rattle.state.specs.declared.RenderContext as code
use Rattle.state.specs.Context.{RenderContext, whole, topped, Current, Front}
use Rattle.state.specs.Setters.{failed, counted, pushed, with_template, unless_bad}
use Rattle.state.specs.World.{World, world, over, Ready, Goes}
use Rattle.state.specs.Steps.{Within, goes_template}
use Rattle.texts.specs.Setters.{with_block, text_opened, without_text, cleaned}
use Rattle.texts.specs.Opening.{text_begun, text_done, text_none, ready_begun, ready_none, included_none, included_text}
use Rattle.drawing.specs.Renders.{Named, Renders, Worked, Joins, IncludeDrawn}
use Rattle.drawing.specs.Enclosed.{inside, body_drawn, text_nothing, text_refused, text_drawn}
use Rattle.opening.specs.Scoped.{Entered, ScopeOpened}
use Rattle.opening.specs.Opens.{Tops, Given, Openable, Opens}
use Rattle.drawing.specs.Renders.{body_rule}
use Rattle.drawing.specs.Continues.{unless_not}
use Rattle.beginning.specs.declared.Next.{Next}
use Rattle.beginning.specs.declared.Next.TheVariants.{Done, Fallback, Body, Text}
use Rattle.beginning.specs.declared.Begun.{Begun}
use Rattle.beginning.specs.Tops.{front_by, front_made, front_current, front_tops, array_length, opened_writer, body_top, body_count, text_top, text_count}
use Rattle.beginning.specs.Opened.{done, body_context, body_buffer, BodyFits, TextEnds, text_ended}
use Rattle.error.specs.declared.RenderErrorReason.{RenderErrorReason as Reason}

-- what `enter` asks for: some call was worked out, and its partial was found. It has n hash pairs at r: l are the numbers of their values, and base is what they
-- are merged into. c is the context, and front the newest scope of the array beside it.
pub record Enterable (s : Bytes) (tab : List ℕ) (b : Bytes) (ent : List ℕ) (indent : Bytes) (c : code.RenderContext) (front : Scope) (base : Value) (d r n : ℕ) (l : List ℕ) (at : RustOption ℕ) : Type 0 where
  pub plan : Accepted s tab
  pub small : length b ≤ 65536
  pub long : n ≤ length l
  pub held : MaybeHolds string (bits b) at
  pub joins : c.writer.indent + text_size (indent_says (bits b) at) ≤ 256
  pub scopes : List Scope
  pub newest : Front scopes c front
  pub o : Options
  pub p : ℕ
  pub x : Expanded
  pub given : Given s b ent o (whole c scopes) d p x base r n l
  pub page : Bytes
  pub texts : Bytes
  pub ready : Ready s b (world (whole c scopes) page texts indent ent)
  pub expanded : block-util.Expanded
  pub worked : Worked s b o (world (whole c scopes) page texts indent ent) d p x expanded

-- the partial was entered from w, and w₁ is what is left: K is what finishes it
abbrev pub Finishes : Bytes → Bytes → Options → World → ℕ → ℕ → Expanded → ℕ → ℕ → ℕ → RustOption ℕ → RustOption ℕ → World → Type 0
Finishes s b o w d p x q e n own at w₂ = IncludeDrawn s b o w (over (unless_bad (λ c. cleaned c w.rc) w₂.rc) w₂) d p x q e n own at

pub record BodyEntered (s b : Bytes) (o : Options) (w w₁ : World) (d p : ℕ) (x : Expanded) (q e n : ℕ) (own at : RustOption ℕ) : Type 0 where
  pub ready : Ready s b w₁
  pub deeper : w₁.rc.used ≡ suc w.rc.used
  pub done : (w₂ : World) → Renders s b o w₁ w₂ (body_rule b e q n) → Finishes s b o w d p x q e n own at w₂

pub record TextEntered (s b : Bytes) (o : Options) (w w₁ : World) (d p : ℕ) (x : Expanded) (t q e n : ℕ) (own at : RustOption ℕ) : Type 0 where
  pub ready : Ready s b w₁
  pub deeper : w₁.rc.used ≡ suc w.rc.used
  pub stop : (w₂ : World) → Renders s b o w₁ w₂ (body_rule b d t 0) → (w₂.rc.bad ≡ None → ⊥) → IncludeDrawn s b o w w₂ d p x q e n own at
  pub ends : (w₂ : World) → Renders s b o w₁ w₂ (body_rule b d t 0) → w₂.rc.bad ≡ None → TextEnds (bits b) at w.rc.writer.low w₂.rc.writer (length w₂.texts) (length w₂.indent)
  pub goes : (w₂ : World) → Renders s b o w₁ w₂ (body_rule b d t 0) → w₂.rc.bad ≡ None
      → BodyEntered s b o w (text_ended b at n w.rc.writer.low w.rc.writer.block_text w₂) d p x q e n own at

abbrev pub EnteredNext : Bytes → Bytes → Options → World → World → ℕ → ℕ → Expanded → ℕ → ℕ → ℕ → RustOption ℕ → RustOption ℕ → Next → Type 0
EnteredNext s b o w w₁ d p x q e n own at Done = IncludeDrawn s b o w w₁ d p x q e n own at × (w₁.rc.bad ≡ None → ⊥)
EnteredNext s b o w w₁ d p x q e n own at (Fallback t) = ⊥
EnteredNext s b o w w₁ d p x q e n own at (Body t i m) = (t ≡ q) × (i ≡ e) × (m ≡ n) × BodyEntered s b o w w₁ d p x q e n own at
EnteredNext s b o w w₁ d p x q e n own at (Text z t i m) = (own ≡ Some z) × (t ≡ q) × (i ≡ e) × (m ≡ n) × TextEntered s b o w w₁ d p x z q e n own at

-- for every array with this newest scope, and every such call
pub record Enters (s b : Bytes) (ent ent' : List ℕ) (indent indent' : Bytes) (c : code.RenderContext) (front : Scope) (base : Value) (d r n : ℕ) (l : List ℕ) (q e name : ℕ) (own ind : RustOption ℕ) (y : Begun) : Type 0 where
  pub at : (k : List Scope) → Front k c front → (o : Options) (p : ℕ) (x : Expanded) → Given s b ent o (whole c k) d p x base r n l → Named b name
      → (page texts : Bytes) → Ready s b (world (whole c k) page texts indent ent) → (z : block-util.Expanded) → Worked s b o (world (whole c k) page texts indent ent) d p x z
      → EnteredNext s b o (world (whole c k) page texts indent ent) (world (topped y.rc k y.top) page texts indent' ent') d p x q e name own ind y.next
  pub counts : y.top.count ≡ y.rc.count

-- Laws: w₁ has the scope

module _ (s b : Bytes) (o : Options) (w w₁ : World) (d p : ℕ) (x : Expanded) (q e n : ℕ) (at : RustOption ℕ) (named : Named b n) (r : Ready s b w) (held : MaybeHolds string (bits b) at)
    (joins : w.rc.writer.indent + text_size (indent_says (bits b) at) ≤ 256) (fine : w₁.rc.bad ≡ None) where
  -- without a block text
  module _ (E : Entered s b o w w₁ d p x q e n None at) where
    within : Within s b [] w w₁
    within = E.within fine

    none_ready : Ready s b (text_none w₁)
    none_ready = ready_none s b w w₁ within (E.no_block fine) (E.no_text fine)

    same_indent : w₁.rc.writer.indent ≡ w.rc.writer.indent
    same_indent = ap (λ z. z.indent) E.same_writer

    joins₁ : Joins b (text_none w₁) at
    joins₁ = omega (arith, same_indent, joins)

    abbrev w₂ : World
    w₂ = world (body_context (bits b) at n (without_text w₁.rc)) w₁.page w₁.texts (body_buffer (bits b) at w₁.rc.writer w₁.indent) w₁.ent

    pub body_entered : BodyEntered s b o w w₂ d p x q e n None at
    body_entered =
        let i = inside s b o (text_none w₁) q e n at named joins₁ none_ready w r (included_none s b w w₁ within (E.no_block fine) (E.no_text fine)) (ap (λ z. z.has_indent) E.same_writer) same_indent in
        record {
          ready = (goes_template s b _ i.ready n named).ready;
          deeper = i.used;
          done = λ u R. E.done fine u (text_nothing s b o w₁ d q e n at u (body_drawn s b o (text_none w₁) q e n at named joins₁ none_ready u (record { at = R.at })));
        }

  -- with one, whose body stands at t
  module _ (t : ℕ) (E : Entered s b o w w₁ d p x q e n (Some t) at) where
    within_text : Within s b [] w w₁
    within_text = E.within fine

    r₁ : Ready s b w₁
    r₁ = within_text.ready

    abbrev w₃ : World
    w₃ = over (with_template (text_opened w₁.rc) 0) w₁

    drawn : (u : World) → Renders s b o w₃ u (body_rule b d t 0) → Renders s b o w₃ u (λ g R. render_elements g R none (template_at 16 d (bits b) t))
    drawn u R = record { at = R.at }

    gone : (u : World) → Renders s b o w₃ u (body_rule b d t 0) → u.rc.bad ≡ None → (v : Bytes) × Goes s b v (text_begun w₁) u
    gone u R z =
        let y = (R.at 32 (omega arith)).fine z in
        (y.text, goes_from y.text u y.goes)
      where
        goes_from : (v : Bytes) (u : World) → Goes s b v w₃ u → Goes s b v (text_begun w₁) u
        goes_from v u g = record { ready = g.ready; used = g.used; beneath = g.beneath; newest = g.newest; agree = g.agree; grows = g.grows; indent = g.indent; sizes = record { page = g.sizes.page; texts = g.sizes.texts; indent = g.sizes.indent; ent = g.sizes.ent } }

    low : w₁.rc.writer.low ≡ w.rc.writer.low
    low = ap (λ z. z.low) E.same_writer

    block : w₁.rc.writer.block_text ≡ w.rc.writer.block_text
    block = ap (λ z. z.block_text) E.same_writer

    pub text_entered : TextEntered s b o w w₃ d p x t q e n (Some t) at
    text_entered = record {
      ready = (goes_template s b (text_begun w₁) (ready_begun s b w₁ r₁) 0 (λ z. absurd (z refl))).ready;
      deeper = within_text.used;
      stop = λ u R z. stopped u R z;
      ends = λ u R z.
          let g = (gone u R z).1 in
          let h = g.ready in
          let i : u.rc.writer.indent ≡ w₁.rc.writer.indent = g.grows.indent in
          let j : w₁.rc.writer.indent ≡ w.rc.writer.indent = ap (λ k. k.indent) E.same_writer in
          record {
            from = omega (arith, low, g.grows.low);
            low = h.sound.low_fits;
            high = h.sound.high_fits;
            short = omega (arith, h.sound.low_fits, h.high);
            body = record { held = held; fits = omega (arith, i, j, joins, h.buffer) };
          };
      goes = λ u R z. entered u R z;
    }
      where
        stopped : (u : World) → Renders s b o w₃ u (body_rule b d t 0) → (u.rc.bad ≡ None → ⊥) → IncludeDrawn s b o w u d p x q e n (Some t) at
        stopped u R z =
            let T = text_refused s b o w₁ d q e n at t u r₁ (drawn u R) z in
            subst (λ (c : RenderContext). IncludeDrawn s b o w (over c u) d p x q e n (Some t) at) (unless_not (λ c. cleaned c w.rc) u.rc z) (E.done fine u T)

        entered : (u : World) → Renders s b o w₃ u (body_rule b d t 0) → u.rc.bad ≡ None → BodyEntered s b o w (text_ended b at n w.rc.writer.low w.rc.writer.block_text u) d p x q e n (Some t) at
        entered u R z = subst (λ (m : ℕ). BodyEntered s b o w (text_ended b at n m w.rc.writer.block_text u) d p x q e n (Some t) at) low (subst (λ (y : Bool). BodyEntered s b o w (text_ended b at n w₁.rc.writer.low y u) d p x q e n (Some t) at) block (entered₁ u R z))
          where
            entered₁ : (u : World) → Renders s b o w₃ u (body_rule b d t 0) → u.rc.bad ≡ None → BodyEntered s b o w (text_ended b at n w₁.rc.writer.low w₁.rc.writer.block_text u) d p x q e n (Some t) at
            entered₁ u R z =
                let g = gone u R z in
                let inc = included_text s b g.0 w w₁ u within_text (E.no_block fine) (E.no_text fine) g.1 in
                let i : u.rc.writer.indent ≡ w.rc.writer.indent = g.1.grows.indent ∙ ap (λ k. k.indent) E.same_writer in
                let j : Joins b (text_done w₁ u) at = omega (arith, i, joins) in
                let has = g.1.grows.has_indent ∙ ap (λ k. k.has_indent) E.same_writer in
                let y = inside s b o (text_done w₁ u) q e n at named j inc.ready w r inc has i in
                record {
                  ready = (goes_template s b _ y.ready n named).ready;
                  deeper = y.used;
                  done = λ v S. E.done fine v (text_drawn s b o w₁ d q e n at t u r₁ (drawn u R) z v (body_drawn s b o (text_done w₁ u) q e n at named j inc.ready v (record { at = S.at })));
                }

-- Laws: the answers of `enter`

module _ (s : Bytes) (tab : List ℕ) (b : Bytes) (ent : List ℕ) (indent : Bytes) (c : code.RenderContext) (front : Scope) (base : Value) (d r n : ℕ) (l : List ℕ) (at : RustOption ℕ)
    (P : Enterable s tab b ent indent c front base d r n l at) where
  sized : length P.scopes ≡ 32
  sized = array_length c P.scopes P.ready.sized

  pub enter_open : Openable s tab b ent front base d r n l c.used c.total
  enter_open = record {
    plan = P.plan;
    small = P.small;
    long = P.long;
    c = whole c P.scopes;
    tops = front_tops c P.scopes front sized P.ready.one P.ready.most P.newest;
    o = P.o;
    p = P.p;
    x = P.x;
    given = P.given;
    worked = record { page = P.page; texts = P.texts; indent = indent; expanded = P.expanded; ready = P.ready; worked = P.worked };
  }

  module _ (ent' : List ℕ) (q e name : ℕ) where
    -- the scope is refused, for whatever reason: `Opens` also tells that it is one of the rules'
    pub enter_bad : (own : RustOption ℕ) (k : Reason)
        → ((c' : RenderContext) (o : Options) (p : ℕ) (x : Expanded)
        → Tops c' front c.used c.total
        → Given s b ent o c' d p x base r n l
        → ScopeOpened s b ent ent' o c' (failed c' (Some k)) d p x)
        → (v : code.RenderContext) → ((z : List Scope) → whole v z ≡ failed (whole c z) (Some k))
        → Enters s b ent ent' indent indent c front base d r n l q e name own at (done v front)
    enter_bad own k O v is = record {
      at = λ z F o p x G nm page texts ready y W.
          let long : length z ≡ 32 = array_length c z ready.sized in
          let T = front_tops c z front long ready.one ready.most F in
          let E = (O (whole c z) o p x T G).at page texts indent ready y W q e name own at in
          let top : topped v z front ≡ failed (whole c z) (Some k) = front_made v c (λ w. failed w (Some k)) is (λ w. refl) (λ w. refl) ready.most z front long ready.one F in
          subst (λ (w : RenderContext). EnteredNext s b o (world (whole c z) page texts indent ent) (world w page texts indent ent') d p x q e name own at Done) (sym top) (E.refused (λ e. none-some k (sym e)), λ e. none-some k (sym e));
      counts = (front_by v c (λ w. failed w (Some k)) is (λ w. refl) (λ w. refl) P.ready.most P.scopes front P.newest).current;
    }

    -- it is open: its block names are in m, and t entries are in use
    module _ (x : Scope) (t : ℕ) (O : Opens s b ent ent' front base d r n l c.used c.total (Ok (x, t))) (m : ℕ) (covers : Covers m b ent' x) (u₀ u : code.RenderContext)
        (deep : (k : List Scope) (y : Scope) → length k ≡ 32 → Current k c → y.count ≡ 0 → whole u₀ (set k c.used y) ≡ pushed (whole c k) y m)
        (total : (k : List Scope) → whole u k ≡ counted (whole u₀ k) t) where
      current : Current P.scopes c
      current = front_current c P.scopes front sized P.ready.one P.ready.most P.newest

      pub enter_writer : u.writer ≡ c.writer
      enter_writer = opened_writer c u₀ u x m t deep total O.well.empty O.well.room P.scopes sized current

      pub enter_fits : BodyFits (bits b) at u.writer (length indent)
      enter_fits = record { held = P.held; fits = let e = ap (λ w. w.indent) enter_writer in omega (arith, e, P.joins, P.ready.buffer) }

      module _ (own : RustOption ℕ) (k : List Scope) (F : Front k c front) (o : Options) (p : ℕ) (y : Expanded) (G : Given s b ent o (whole c k) d p y base r n l) (page texts : Bytes)
          (ready : Ready s b (world (whole c k) page texts indent ent)) (z : block-util.Expanded) (W : Worked s b o (world (whole c k) page texts indent ent) d p y z) where
        entered : Entered s b o (world (whole c k) page texts indent ent) (world (pushed (counted (whole c k) t) x m) page texts indent ent') d p y q e name own at
        entered = (O.at (whole c k) o p y m (front_tops c k front (array_length c k ready.sized) ready.one ready.most F) G covers).at page texts indent ready z W q e name own at

        there : Current k c
        there = front_current c k front (array_length c k ready.sized) ready.one ready.most F

      pub enter_body : (v : code.RenderContext) → ((k : List Scope) → whole v k ≡ body_context (bits b) at name (whole u k)) → (i : Bytes) → i ≡ body_buffer (bits b) at u.writer indent
          → (y : Scope) → y ≡ with_block x 1 x.text → Enters s b ent ent' indent i c front base d r n l q e name None at (record { rc = v; top = y; next = Body q e name })
      enter_body v is i buffer y without = record {
        at = λ k F o p z G nm page texts ready g W.
            let long : length k ≡ 32 = array_length c k ready.sized in
            let w₀ : World = world (whole c k) page texts indent ent in
            let E = entered None k F o p z G page texts ready g W in
            let J = there None k F o p z G page texts ready g W in
            let top : topped v k y ≡ body_context (bits b) at name (without_text (pushed (counted (whole c k) t) x m)) =
            body_top c u₀ u x m t deep total O.well.empty O.well.room k long J b at name v is y without in
            let ieq : i ≡ body_buffer (bits b) at c.writer indent = buffer ∙ ap (λ w. body_buffer (bits b) at w indent) enter_writer in
            let B : BodyEntered s b o w₀ (world (body_context (bits b) at name (without_text (pushed (counted (whole c k) t) x m))) page texts (body_buffer (bits b) at c.writer indent) ent') d p z q e name None at =
            body_entered s b o w₀ (world (pushed (counted (whole c k) t) x m) page texts indent ent') d p z q e name at nm ready P.held P.joins ready.fine E in (
              refl,
              refl,
              refl,
              subst (λ (w : RenderContext). BodyEntered s b o w₀ (world w page texts i ent') d p z q e name None at) (sym top)
                  (subst (λ (j : Bytes). BodyEntered s b o w₀ (world (body_context (bits b) at name (without_text (pushed (counted (whole c k) t) x m))) page texts j ent') d p z q e name None at) (sym ieq) B),
            );
        counts = body_count c u₀ u x m t deep total O.well.empty O.well.room P.scopes sized current b at name v is y without;
      }

      pub enter_text : (a : ℕ) (v : code.RenderContext) → ((k : List Scope) → whole v k ≡ with_template (text_opened (whole u k)) 0)
          → Enters s b ent ent' indent indent c front base d r n l q e name (Some a) at (record { rc = v; top = x; next = Text a q e name })
      enter_text a v is = record {
        at = λ k F o p z G nm page texts ready g W.
            let long : length k ≡ 32 = array_length c k ready.sized in
            let w₀ : World = world (whole c k) page texts indent ent in
            let E = entered (Some a) k F o p z G page texts ready g W in
            let J = there (Some a) k F o p z G page texts ready g W in
            let top : topped v k x ≡ with_template (text_opened (pushed (counted (whole c k) t) x m)) 0 =
            text_top c u₀ u x m t deep total O.well.empty O.well.room k long J v is in
            let T : TextEntered s b o w₀ (world (with_template (text_opened (pushed (counted (whole c k) t) x m)) 0) page texts indent ent') d p z a q e name (Some a) at =
            text_entered s b o w₀ (world (pushed (counted (whole c k) t) x m) page texts indent ent') d p z q e name at nm ready P.held P.joins ready.fine a E in
            (refl, refl, refl, refl, subst (λ (w : RenderContext). TextEntered s b o w₀ (world w page texts indent ent') d p z a q e name (Some a) at) (sym top) T);
        counts = text_count c u₀ u x m t deep total O.well.empty O.well.room P.scopes sized current v is;
      }
