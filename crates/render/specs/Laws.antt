-- What the members of the drawing cite.
use Rattle.std.specs.Prelude.{ℕ, ◌+◌, ◌-◌, ◌≤◌, Bool, true, false, List, ◌∷◌, [], ◌≡◌, refl, eqb, length, get_or, set, Option as RustOption, None, Some}
use Rattle.error.specs.Reasons.{not_none}
use Rattle.std.specs.Option.{is_some}
use Rattle.std.proofs.Common.{sym, ap, ◌∙◌, subst, arith, eqb-true}
use Rattle.std.proofs.lemmas.Bool.{eqb-false}
use types.Run.{OneOf, miss}
use denote.Enum.Declared.{tag_of}
use Rattle.rules.specs.Bytes.{Bytes}
use Rattle.rules.specs.Bits.{bits}
use Rattle.rules.specs.State.{Draw}
use Rattle.rules.specs.Registry.{Registry}
use Rattle.rules.specs.Partial.{Rendering}
use Rattle.expand.specs.declared.Options.{Options}
use Rattle.scope.specs.declared.Scope.{Scope}
use Rattle.scope.specs.Scopes.{blank}
use Rattle.scope.specs.Made.{with_count}
use Rattle.state.specs.declared.RenderContext as code
use Rattle.state.specs.Context.{RenderContext, whole, topped, Front}
use Rattle.state.specs.Current.{same_count}
use Rattle.state.specs.Setters.{turned, unless_bad}
use Rattle.state.specs.World.{World, world, Ready}
use Rattle.texts.specs.Setters.{with_block, newest, text_moved, text_closed, concluded}
use Rattle.drawing.specs.Arrays.{whole_newest, topped_newest, topped_counted, topped_turned, front_topped, front_counted, refused_any}
use Rattle.drawing.specs.Renders.{Renders, body_rule}
use Rattle.drawing.specs.Continues.{Continues}
use Rattle.targets.specs.Target.{nothing_at}
use Rattle.beginning.specs.Opened.{body_context, text_context, text_buffer, body_buffer, TextBegun, text_ended, PartialBegun}
use Rattle.beginning.specs.declared.Next.{Next}
use Rattle.beginning.specs.declared.Next.TheVariants.{Done, Fallback, Body, Text}
use Rattle.beginning.specs.contracts.Next.{the_type as next-type}
use Rattle.helping.specs.Begun.{TopIs, opened}
use Rattle.helping.specs.declared.Begun.{Begun}
use Rattle.error.specs.declared.RenderErrorReason.{RenderErrorReason as Reason}

-- A block text is finished: c is the context in front of the element and l its array, rc and x what its beginning left, q what the body of the
-- text left of rc; u, ts and ind are what `end_text` made of q, and y is the newest scope with the text.
module _ (s b : Bytes) (o : Options) (c : code.RenderContext) (l : List Scope) (sized : length l ≡ 32) (d t z e n : ℕ) (at : RustOption ℕ)
    (rc : code.RenderContext) (x : Scope) (page₁ texts₁ indent₁ : Bytes) (ent₁ : List ℕ)
    (q : code.RenderContext) (page₂ texts₂ indent₂ : Bytes) (ent₂ : List ℕ)
    (D : Renders s b o (world (topped rc l x) page₁ texts₁ indent₁ ent₁) (world (whole q (set l (rc.used - 1) x)) page₂ texts₂ indent₂ ent₂) (body_rule b d t 0))
    (fine : q.bad ≡ None) where
  abbrev w₁ : World
  w₁ = world (topped rc l x) page₁ texts₁ indent₁ ent₁

  abbrev w₂ : World
  w₂ = world (whole q (set l (rc.used - 1) x)) page₂ texts₂ indent₂ ent₂

  ready : Ready s b w₂
  ready = ((D.at 32 (omega arith)).fine fine).goes.ready

  used : q.used ≡ rc.used
  used = ((D.at 32 (omega arith)).fine fine).goes.used

  module _ (u : code.RenderContext) (ts ind : Bytes)
      (E : ((m : List Scope) → whole u m ≡ body_context (bits b) at n (text_moved (whole q m) c.writer.low c.writer.block_text))
      × (ts ≡ text_buffer c.writer.low q.writer texts₂)
      × (ind ≡ body_buffer (bits b) at q.writer indent₂))
      (y : Scope) (is : y ≡ with_block (with_count x q.count) 2 (q.writer.low - c.writer.low)) where
    same_used : u.used ≡ q.used
    same_used = ap (λ (k : RenderContext). k.used) (E.0 l)

    -- the newest scope behind the text
    newest_is : newest w₂.rc ≡ with_count x q.count
    newest_is =
        ap (λ (k : ℕ). get_or (whole q (set l (k - 1) x)).scopes (q.used - 1) blank) (sym used)
        ∙ topped_newest q l sized ready.one ready.most x

    scoped : text_closed w₂.rc c.writer.low c.writer.block_text ≡ text_moved (topped q l y) c.writer.low c.writer.block_text
    scoped =
        ap (λ (k : Scope). turned (text_moved w₂.rc c.writer.low c.writer.block_text) (with_block k 2 (q.writer.low - c.writer.low))) newest_is
        ∙ ap (turned (text_moved w₂.rc c.writer.low c.writer.block_text)) (sym is)
        ∙ ap (λ (k : ℕ). text_moved (turned (whole q (set l (k - 1) x)) y) c.writer.low c.writer.block_text) (sym used)
        ∙ ap (λ (k : RenderContext). text_moved k c.writer.low c.writer.block_text) (sym (topped_turned q l sized ready.one ready.most x y (ap (λ (k : Scope). k.count) is)))

    context_is : text_context (bits b) at n c.writer.low c.writer.block_text w₂.rc ≡ topped u l y
    context_is =
        ap (body_context (bits b) at n) scoped
        ∙ sym (E.0 (set l (q.used - 1) y))
        ∙ ap (λ (k : ℕ). whole u (set l (k - 1) y)) (sym same_used)

    ended : text_ended b at n c.writer.low c.writer.block_text w₂ ≡ world (topped u l y) page₂ ts ind ent₂
    ended =
        ap (λ (k : RenderContext). world k page₂ (text_buffer c.writer.low q.writer texts₂) (body_buffer (bits b) at q.writer indent₂) ent₂) context_is
        ∙ ap (λ (k : Bytes). world (topped u l y) page₂ k (body_buffer (bits b) at q.writer indent₂) ent₂) (sym E.1)
        ∙ ap (λ (k : Bytes). world (topped u l y) page₂ ts k ent₂) (sym E.2)

    pub text_goes : (page texts indent : Bytes) (ent : List ℕ) (rule : Registry → Rendering → Draw)
        → TextBegun s b o (world (whole c l) page texts indent ent) w₁ d rule t z e n at
        → Continues s b o (world (whole c l) page texts indent ent) (world (topped u l y) page₂ ts ind ent₂) 1 (body_rule b e z n) rule (concluded (whole c l))
        × (u.used ≡ rc.used)
        × (y.count ≡ u.count)
    text_goes page texts indent ent rule B = (
      subst (λ (k : World). Continues s b o (world (whole c l) page texts indent ent) k 1 (body_rule b e z n) rule (concluded (whole c l))) ended (B.goes w₂ D fine),
      same_used ∙ used,
      ap (λ (k : Scope). k.count) is ∙ sym (same_count u q same_used ready.most (λ m. ap (λ (k : RenderContext). k.scopes) (E.0 m))),
    )

-- What was drawn without a scope more

module _ (s b : Bytes) (o : Options) (c : code.RenderContext) (l : List Scope) (sized : length l ≡ 32) (one : 1 ≤ c.used) (most : c.used ≤ 32)
    (page texts indent : Bytes) (ent : List ℕ) (rule : Registry → Rendering → Draw) where
  abbrev w : World
  w = world (whole c l) page texts indent ent

  module _ (r : code.RenderContext) (k : ℕ) (x : Scope) (page' texts' indent' : Bytes) (ent' : List ℕ) where
    -- the array is as it was, but for what the newest scope gained
    pub left_drawn : (r.bad ≡ None → k ≡ r.used) → Renders s b o w (world (whole r (set l (k - 1) x)) page' texts' indent' ent') rule
        → Renders s b o w (world (whole r l) page' texts' indent' ent') rule
    left_drawn h R = go r.bad refl
      where
        go : (t : RustOption Reason) → r.bad ≡ t → Renders s b o w (world (whole r l) page' texts' indent' ent') rule
        go (Some y) e = refused_any s b o w r l (set l (k - 1) x) page' texts' indent' ent' rule (not_none y e) R
        go None f =
            let G = ((R.at 32 (omega arith)).fine f).goes in
            let u : r.used ≡ c.used = G.used in
            let one' : 1 ≤ r.used = omega (arith, u, one) in
            let most' : r.used ≤ 32 = omega (arith, u, most) in
            let v : Scope = get_or l (r.used - 1) blank in
            let a : whole r (set l (k - 1) x) ≡ topped r l x = ap (λ (i : ℕ). whole r (set l (i - 1) x)) (h f) in
            let m : with_count x r.count ≡ with_count v r.count =
            sym (topped_newest r l sized one' most' x)
            ∙ ap (λ (i : RenderContext). get_or i.scopes (r.used - 1) blank) (sym a)
            ∙ G.newest
            ∙ ap (λ (i : Scope). with_count i (get_or (whole r (set l (k - 1) x)).scopes (r.used - 1) blank).count) (whole_newest c l sized one most ∙ ap (λ (i : ℕ). with_count (get_or l (i - 1) blank) c.count) (sym u))
            ∙ ap (with_count v) (ap (λ (i : RenderContext). (get_or i.scopes (r.used - 1) blank).count) a ∙ ap (λ (i : Scope). i.count) (topped_newest r l sized one' most' x)) in
            let z : whole r (set l (k - 1) x) ≡ whole r l =
            a ∙ sym (topped_counted r l sized one' most' x r.count) ∙ ap (topped r l) m ∙ front_counted r l sized one' most' v refl in
            subst (λ (i : RenderContext). Renders s b o w (world i page' texts' indent' ent') rule) z R

-- what is done unless there is an error keeps the number of scopes and the error
pub unless_keeps : (f : RenderContext → RenderContext) (c : RenderContext) → (f c).used ≡ c.used → (f c).bad ≡ c.bad
    → ((unless_bad f c).used ≡ c.used) × ((unless_bad f c).bad ≡ c.bad)
unless_keeps f c e g = go (is_some c.bad) refl
  where
    go : (t : Bool) → is_some c.bad ≡ t → ((unless_bad f c).used ≡ c.used) × ((unless_bad f c).bad ≡ c.bad)
    go true h = (rw h refl, rw h refl)
    go false h = (rw h e, rw h g)

-- Without an own body there is no fallback and no block text: where no other body is drawn, nothing is left.
pub no_own : (s b : Bytes) (o : Options) (w w₁ : World) (d : ℕ) (rule : Registry → Rendering → Draw) (at : RustOption ℕ) (n : Next) → OneOf (0 ∷ 1 ∷ 3 ∷ []) (tag_of next-type n)
    → PartialBegun s b o w w₁ d rule None at n → Renders s b o w w₁ rule
no_own s b o w w₁ d rule at Done k B = B
no_own s b o w w₁ d rule at (Fallback q) k B = nothing_at q B.1
no_own s b o w w₁ d rule at (Body q e n) k B = absurd (miss (0 ∷ 1 ∷ 3 ∷ []) 2 tt k)
no_own s b o w w₁ d rule at (Text t q e n) k B = nothing_at t B.1

-- Behind a body that was drawn without a scope more: f finishes it, x is the newest scope
pub finished_drawn : (s b : Bytes) (o : Options) (c : code.RenderContext) (l : List Scope) → length l ≡ 32 → 1 ≤ c.used → c.used ≤ 32
    → (page texts indent : Bytes) (ent : List ℕ) (rule inner : Registry → Rendering → Draw) (f : RenderContext → RenderContext)
    → ((k : RenderContext) → (f k).used ≡ k.used) → ((k : RenderContext) → (f k).bad ≡ k.bad)
    → (w₁ : World) (x : Scope) (q r : code.RenderContext) (page₂ texts₂ indent₂ : Bytes) (ent₂ : List ℕ)
    → Renders s b o w₁ (world (whole q (set l (w₁.rc.used - 1) x)) page₂ texts₂ indent₂ ent₂) inner
    → Renders s b o (world (whole c l) page texts indent ent) (world (unless_bad f (whole q (set l (w₁.rc.used - 1) x))) page₂ texts₂ indent₂ ent₂) rule
    → ((m : List Scope) → whole r m ≡ unless_bad f (whole q m))
    → Renders s b o (world (whole c l) page texts indent ent) (world (whole r l) page₂ texts₂ indent₂ ent₂) rule
finished_drawn s b o c l sized one most page texts indent ent rule inner f keeps same w₁ x q r page₂ texts₂ indent₂ ent₂ D R e =
    let m : List Scope = set l (w₁.rc.used - 1) x in
    let u = unless_keeps f (whole q m) (keeps (whole q m)) (same (whole q m)) in
    let used : r.used ≡ q.used = ap (λ (k : RenderContext). k.used) (e m) ∙ u.0 in
    let bad : r.bad ≡ q.bad = ap (λ (k : RenderContext). k.bad) (e m) ∙ u.1 in
    left_drawn s b o c l sized one most page texts indent ent rule r w₁.rc.used x page₂ texts₂ indent₂ ent₂
    (λ z. sym (used ∙ ((D.at 32 (omega arith)).fine (sym bad ∙ z)).goes.used))
    (subst (λ (k : RenderContext). Renders s b o (world (whole c l) page texts indent ent) (world k page₂ texts₂ indent₂ ent₂) rule) (sym (e m)) R)

-- the beginning of a helper opened no scope
pub top_front : (front : Scope) (rc : code.RenderContext) (r : Begun) (l : List Scope) → length l ≡ 32 → 1 ≤ rc.used → rc.used ≤ 32
    → Front l rc front → TopIs front rc r → opened r.next ≡ 0 → (topped r.rc l r.top ≡ whole r.rc l) × Front l r.rc front
top_front front rc r l sized one most F T z =
    let t : r.rc.used ≡ opened r.next + rc.used = T.used in
    let used : r.rc.used ≡ rc.used = omega (arith, t, z) in
    let is : front ≡ get_or l (r.rc.used - 1) blank = F.is ∙ ap (λ (n : ℕ). get_or l (n - 1) blank) (sym used) in
    let e : r.top ≡ front = T.same z in (
      ap (topped r.rc l) e ∙ front_topped r.rc l sized (omega (arith, used, one)) (omega (arith, used, most)) front is,
      record { is = is; current = ap (λ (x : Scope). x.count) (sym e) ∙ T.count },
    )
