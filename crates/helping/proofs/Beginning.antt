-- The beginning of a helper, beside the array of scopes.
use Rattle.std.specs.Prelude.{Option as RustOption, Some, None}
use Rattle.std.specs.Option.{is_some}
use Prim.Native.Nat.{ℕ, ◌+◌, ◌-◌, ◌≤◌, ◌<◌}
use mathlib.Core.Bool.{Bool, true, false}
use mathlib.Core.List.{List}
use mathlib.Core.Path.{◌≡◌, refl, sym, ap, ◌∙◌, subst}
use native.Mathlib.Omega.{arith}
use lib.Dec.{eqb}
use lib.ListN.{length, get_or, set}
use lib.Seq.{get_or-set_same}
use Rattle.rules.specs.Bytes.{Bytes, pick}
use Rattle.rules.specs.Bits.{bits}
use Rattle.rules.specs.Bundle.{body, block_names}
use Rattle.rules.specs.Value.{render}
use Rattle.rules.specs.Output.{do_escape, indent_aware_write}
use Rattle.parts.specs.declared.BlockParam.{BlockParam}
use Rattle.parts.specs.declared.BlockParam.TheVariants as names
use Rattle.parts.specs.Holds.{Holds}
use Rattle.parts.specs.Views.{names_view}
use Rattle.parts.specs.Says.{names_at, names_stand, MaybeHolds}
use Rattle.places.specs.Accepted.{Accepted}
use Rattle.output.specs.declared.Writer.{Writer}
use Rattle.output.specs.Outputs.{Outputs}
use Rattle.value.specs.declared.Value.{Value}
use Rattle.value.specs.Numbers.{Fits}
use Rattle.meaning.specs.Meaning.{json_of}
use Rattle.meaning.specs.Standing.{Stands}
use Rattle.scope.specs.declared.Scope.{Scope}
use Rattle.scope.specs.Scopes.{blank}
use Rattle.scope.specs.Made.{with_count}
use Rattle.scope.specs.Names.{Readable}
use Rattle.scope.specs.NameBits.{Covers, covers_full}
use Rattle.context.specs.Near.{stands_fits}
use Rattle.expand.specs.declared.Options.{Options}
use Rattle.helpers.specs.declared.Does.{Does}
use Rattle.helpers.specs.declared.Does.TheVariants as does
use Rattle.blocks.specs.Opened.{with_scope, newest}
use Rattle.state.specs.declared.RenderContext as state
use Rattle.state.specs.Context.{RenderContext, whole, topped, Current, Front}
use Rattle.state.specs.Setters.{failed, marked, with_writer, wrote, with_template, settled, pushed, finished}
use Rattle.state.specs.World.{World, world, over, top, abs, Ready, Draws}
use Rattle.writing.specs.Writes.{Wrote, Writes}
use Rattle.drawing.specs.Parts.{before_helper}
use Rattle.drawing.specs.Renders.{Openable, Possible}
use Rattle.drawing.specs.Withs.{with_readable}
use Rattle.drawing.specs.Arrays.{whole_newest, count_kept, front_kept, topped_newest, front_topped, front_current, pushed_topped, array_sized}
use Rattle.helping.specs.declared.Next.{Next}
use Rattle.helping.specs.declared.Next.TheVariants as next
use Rattle.helping.specs.declared.Begun as code
use Rattle.helping.specs.Begun.{Begun, whole_begun, topped_begun, done, body_next, turns_next, within_next, opened, Stays, WithOpened, WithinBegun, TopIs, HelperBegun}
use Rattle.helping.specs.Decided.{Drawable, Decided, Doable}
use Rattle.helping.specs.Laws.{ready₁, begun_bad, begun_nothing, begun_template, begun_inverse, begun_write, begun_within, begun_turns}
use Rattle.error.specs.declared.RenderErrorReason.TheVariants.{BlockTextsLimit, PageLimit}
use Rattle.error.specs.declared.RenderErrorReason.{RenderErrorReason as Reason}

-- a scope of `with` has no inline partials yet
none_yet : (v : Value) (ns : BlockParam) (x : Scope) → (with_scope v ns x).count ≡ 0
none_yet v names.None x = refl
none_yet v (names.Single p) x = refl
none_yet v (names.Pair p q) x = refl

-- by what `open_with`, `names_of`, `deeper` and `set_current_template_name` ensure
pub with_opened : (b : Bytes) (ent : List ℕ) (n p : ℕ) (v : Value) (front : Scope) (rc q u : state.RenderContext) (c : Scope) (m : ℕ)
    → c ≡ with_scope v (names_view (bits b) n) front → Covers m b ent c
    → ((l : List Scope) (d : Scope) → length l ≡ 32 → Current l rc → d.count ≡ 0 → whole q (set l rc.used d) ≡ pushed (whole rc l) d m)
    → ((l : List Scope) → whole u l ≡ with_template (whole q l) 0)
    → WithOpened b ent n p v front rc (record { rc = u; top = c; next = next.Within p })
with_opened b ent n p v front rc q u c m is covers deeper named = record {
  top = is;
  names = m;
  covers = covers;
  next = refl;
  is = λ l sized current.
      let e : c.count ≡ 0 = ap (λ (x : Scope). x.count) is ∙ none_yet v (names_view (bits b) n) front in
      let same : u.used ≡ q.used = ap (λ (x : RenderContext). x.used) (named l) in
      ap (λ (i : ℕ). whole u (set l (i - 1) c)) same ∙ named (set l (q.used - 1) c) ∙ ap (λ (x : RenderContext). with_template x 0) (pushed_topped q rc l c m (deeper l c sized current e));
}

-- What leaves the scopes as they are

pub record Keeps (x : Begun) (c : RenderContext) : Type 0 where
  pub scopes : x.rc.scopes ≡ c.scopes
  pub used : x.rc.used ≡ c.used
  pub flat : opened x.next ≡ 0

pub body_keeps : (m : RustOption ℕ) (c : RenderContext) (w : Writer) → Keeps (body_next m c w) c
body_keeps (Some p) c w = record { scopes = refl; used = refl; flat = refl }
body_keeps None c w = record { scopes = refl; used = refl; flat = refl }

pub turns_keeps : (m : RustOption ℕ) (v : Value) (c : RenderContext) (w : Writer) → Keeps (turns_next m v c w) c
turns_keeps (Some p) v c w = record { scopes = refl; used = refl; flat = refl }
turns_keeps None v c w = record { scopes = refl; used = refl; flat = refl }

-- what was written, and settled behind it
pub written_keeps : (c : RenderContext) (o w : Writer) → Keeps (done (finished w (wrote c o))) c
written_keeps c o w = go o.full
  where
    fine : (y : Bool) (d : RenderContext) → d.scopes ≡ c.scopes → d.used ≡ c.used → Keeps (done (pick y d (settled d w))) c
    fine true d e f = record { scopes = e; used = f; flat = refl }
    fine false d e f = record { scopes = e; used = f; flat = refl }

    go : (y : Bool) → Keeps (done (finished w (pick y (failed (with_writer c o) (Some (pick o.block_text BlockTextsLimit PageLimit))) (with_writer c o)))) c
    go true = fine true (failed (with_writer c o) (Some (pick o.block_text BlockTextsLimit PageLimit))) refl refl
    go false = fine (is_some c.bad) (with_writer c o) refl refl

-- Beside the array l, whose newest scope is the front

module _ (rc : state.RenderContext) (front : Scope) (l : List Scope) (sized : length l ≡ 32) (one : 1 ≤ rc.used) (most : rc.used ≤ 32) (f : Front l rc front) where
  -- the same in front of the helper and behind its marks
  pub newest_is : newest (whole rc l) ≡ front
  newest_is =
      whole_newest rc l sized one most ∙ ap (λ (x : Scope). with_count x rc.count) (sym f.is) ∙ ap (with_count front) (sym f.current)

  -- no scope was opened
  module _ (r : code.Begun) (x : Begun) (top : r.top ≡ front) (is : whole_begun r l ≡ x) (k : Keeps x (whole rc l)) where
    kept : r.rc.used ≡ rc.used
    kept = ap (λ (y : Begun). y.rc.used) is ∙ k.used

    counted : r.rc.count ≡ rc.count
    counted = count_kept rc l sized one most r.rc x.rc (ap (λ (y : Begun). y.rc) is) k.used k.scopes

    flat : opened r.next ≡ 0
    flat = ap (λ (y : Begun). opened y.next) is ∙ k.flat

    pub stays_top : TopIs front rc r
    stays_top = record { used = omega (arith, kept, flat); count = ap (λ (y : Scope). y.count) top ∙ f.current ∙ sym counted; same = λ z. top }

    pub stays_topped : topped_begun r l ≡ x
    stays_topped =
        let i : front ≡ get_or l (r.rc.used - 1) blank = f.is ∙ ap (λ (n : ℕ). get_or l (n - 1) blank) (sym kept) in
        ap (λ (c : RenderContext). record { rc = c; next = r.next }) (ap (topped r.rc l) top ∙ front_topped r.rc l sized (omega (arith, kept)) (omega (arith, kept)) front i) ∙ is

  -- `with`: q is the context behind the marks
  module _ (b : Bytes) (ent : List ℕ) (n : ℕ) (v : Value) (w : Writer) (q : state.RenderContext) (c : RenderContext) (marks : whole q l ≡ c) (same : c.used ≡ rc.used) (scopes : c.scopes ≡ (whole rc l).scopes) (room : rc.used < 32) where
    fq : Front l q front
    fq = front_kept rc l sized one most q c marks same scopes front f

    used_is : q.used ≡ rc.used
    used_is = ap (λ (y : RenderContext). y.used) marks ∙ same

    abbrev ns : BlockParam
    ns = names_view (bits b) n

    newest_same : newest c ≡ front
    newest_same = ap (λ (i : ℕ). get_or c.scopes (i - 1) blank) same ∙ ap (λ (y : List Scope). get_or y (rc.used - 1) blank) scopes ∙ newest_is

    module _ (p : ℕ) (r : code.Begun) (h : WithOpened b ent n p v front q r) where
      topped_is : topped r.rc l r.top ≡ with_template (pushed c r.top h.names) 0
      topped_is = h.is l sized (front_current l q front fq) ∙ ap (λ (y : RenderContext). with_template (pushed y r.top h.names) 0) marks

      deep : r.rc.used ≡ c.used + 1
      deep = ap (λ (y : RenderContext). y.used) topped_is

      one_more : opened r.next ≡ 1
      one_more = ap opened h.next

      opened_top : TopIs front rc r
      opened_top = record {
        used = omega (arith, deep, same, one_more);
        count =
            let i : r.rc.used - 1 ≡ c.used = omega (arith, deep) in
            let e : length c.scopes ≡ 32 = ap length scopes ∙ lib.ListN.length-set l (rc.used - 1) (with_count (get_or l (rc.used - 1) blank) rc.count) ∙ sized in
            let g : get_or (set c.scopes c.used r.top) (r.rc.used - 1) blank ≡ r.top = ap (λ (j : ℕ). get_or (set c.scopes c.used r.top) j blank) i ∙ get_or-set_same c.scopes c.used r.top blank (omega (arith, e, same, room)) in
            ap (λ (y : Scope). y.count) (sym g ∙ ap (λ (y : RenderContext). get_or y.scopes (r.rc.used - 1) blank) (sym topped_is) ∙ topped_newest r.rc l sized (omega (arith, deep)) (omega (arith, deep, same, room)) r.top);
        same = λ z. absurd (omega (arith, z, one_more));
      }

      opened_is : topped_begun r l ≡ within_next (bits b) n (Some p) v c w h.names
      opened_is =
          let e : r.top ≡ with_scope v ns (newest c) = h.top ∙ ap (with_scope v ns) (sym newest_same) in
          ap (λ (y : RenderContext). record { rc = y; next = r.next }) (topped_is ∙ ap (λ (y : Scope). with_template (pushed c y h.names) 0) e)
          ∙ ap (λ (z : Next). record { rc = with_template (pushed c (with_scope v ns (newest c)) h.names) 0; next = z }) h.next

    -- with a template or without
    pub within_top : (k : RustOption ℕ) (r : code.Begun) → WithinBegun b ent n k v front q w r → TopIs front rc r
    within_top (Some p) r h = opened_top p r h
    within_top None r h = stays_top r (done (settled c w)) h.top (h.is l ∙ ap (λ (y : RenderContext). done (settled y w)) marks) (record { scopes = scopes; used = same; flat = refl })

    pub within_told : (k : RustOption ℕ) (r : code.Begun) → WithinBegun b ent n k v front q w r
        → (m : ℕ) × Covers m b ent (with_scope v ns front) × (topped_begun r l ≡ within_next (bits b) n k v c w m)
    within_told (Some p) r h = (h.names, subst (Covers h.names b ent) h.top h.covers, opened_is p r h)
    within_told None r h =
        (18446744073709551615, covers_full b ent (with_scope v ns front), stays_topped r (done (settled c w)) h.top (h.is l ∙ ap (λ (y : RenderContext). done (settled y w)) marks) (record { scopes = scopes; used = same; flat = refl }))

-- What `begin` promises, for each thing that was decided: q is the context behind the marks

module _ (s : Bytes) (tab : List ℕ) (b page texts indent : Bytes) (ent : List ℕ) (front : Scope) (a : Does) (n : ℕ) (tm im : RustOption ℕ) (before : Bool) (rc : state.RenderContext) (accepted : Accepted s tab)
    (small : length b ≤ 65536) (Q : Doable s b ent front rc a) (held : Holds block_names (bits b) n) (q : state.RenderContext) (marks : (l : List Scope) → whole q l ≡ marked (whole rc l) (before_helper rc.writer before)) where
  abbrev W : List Scope → World
  W l = world (whole rc l) page texts indent ent

  abbrev m : Writer
  m = rc.writer

  -- behind the marks
  abbrev M : List Scope → RenderContext
  M l = marked (whole rc l) (before_helper m before)

  -- the buffers are then page' and texts'
  abbrev Ends : Bytes → Bytes → code.Begun → Type 0
  Ends page' texts' r =
      (l : List Scope) (o : Options) (d p : ℕ) → Front l rc front → Ready s b (W l) → Decided s b ent o (whole rc l) d p tm im a → MaybeHolds (body 16 d) (bits b) tm → MaybeHolds (body 16 d) (bits b) im
      → HelperBegun s b o (W l) (world (topped r.rc l r.top) page' texts' indent ent) d p n tm im before r.next

  -- the array that there is
  first : Ready s b (world (whole rc Q.stack) Q.ready.page Q.ready.texts Q.ready.indent ent)
  first = Q.ready.ready

  first_sized : length Q.stack ≡ 32
  first_sized = array_sized s b rc Q.stack Q.ready.page Q.ready.texts Q.ready.indent ent first

  can : (o : Options) (d p : ℕ) (l : List Scope) → Ready s b (W l) → Decided s b ent o (whole rc l) d p tm im a → (k : Does) → a ≡ k → Drawable s b o (W l) d p before (names_at (bits b) n) tm im k
  can o d p l R D k e = subst (Drawable s b o (W l) d p before (names_at (bits b) n) tm im) e (D.at page texts indent before (names_at (bits b) n) R)

  -- no scope was opened
  stays : (r : code.Begun) (x y : List Scope → Begun) (page' texts' : Bytes) → Stays front r x → ((l : List Scope) → x l ≡ y l) → ((l : List Scope) → Keeps (y l) (whole rc l))
      → ((l : List Scope) (o : Options) (d p : ℕ) → Ready s b (W l) → Decided s b ent o (whole rc l) d p tm im a → MaybeHolds (body 16 d) (bits b) tm → MaybeHolds (body 16 d) (bits b) im
      → HelperBegun s b o (W l) (world (y l).rc page' texts' indent ent) d p n tm im before (y l).next)
      → TopIs front rc r × Ends page' texts' r
  stays r x y page' texts' h e k g = (
    stays_top rc front Q.stack first_sized first.one first.most Q.newest r (y Q.stack) h.top (h.is Q.stack ∙ e Q.stack) (k Q.stack),
    λ l o d p F R D ht hi.
        subst (λ (z : Begun). HelperBegun s b o (W l) (world z.rc page' texts' indent ent) d p n tm im before z.next)
        (sym (stays_topped rc front l (array_sized s b rc l page texts indent ent R) R.one R.most F r (y l) h.top (h.is l ∙ e l) (k l)))
        (g l o d p R D ht hi),
  )

  pub begins_bad : (k : Reason) → a ≡ does.Bad k → (r : code.Begun) (u : state.RenderContext) → Stays front r (λ l. done (whole u l)) → ((l : List Scope) → whole u l ≡ failed (whole q l) (Some k)) → TopIs front rc r × Ends page texts r
  begins_bad k e r u h f =
      stays r (λ l. done (whole u l)) (λ l. done (failed (M l) (Some k))) page texts h (λ l. ap done (f l ∙ ap (λ (y : RenderContext). failed y (Some k)) (marks l))) (λ l. record { scopes = refl; used = refl; flat = refl })
      (λ l o d p R D ht hi. begun_bad s b o (W l) d p n before tm im R held small k (can o d p l R D (does.Bad k) e))

  pub begins_nothing : a ≡ does.Nothing → (r : code.Begun) (u : state.RenderContext) → Stays front r (λ l. done (whole u l)) → ((l : List Scope) → whole u l ≡ settled (whole q l) m) → TopIs front rc r × Ends page texts r
  begins_nothing e r u h f =
      stays r (λ l. done (whole u l)) (λ l. done (settled (M l) m)) page texts h (λ l. ap done (f l ∙ ap (λ (y : RenderContext). settled y m) (marks l))) (λ l. record { scopes = refl; used = refl; flat = refl })
      (λ l o d p R D ht hi. begun_nothing s b o (W l) d p n before tm im R held small (can o d p l R D does.Nothing e))

  keeps : (x : Begun) (l : List Scope) → Keeps x (M l) → Keeps x (whole rc l)
  keeps x l k = record { scopes = k.scopes; used = k.used; flat = k.flat }

  pub begins_template : a ≡ does.Template → (r : code.Begun) → Stays front r (λ l. body_next tm (whole q l) m) → TopIs front rc r × Ends page texts r
  begins_template e r h =
      stays r (λ l. body_next tm (whole q l) m) (λ l. body_next tm (M l) m) page texts h (λ l. ap (λ (y : RenderContext). body_next tm y m) (marks l)) (λ l. keeps (body_next tm (M l) m) l (body_keeps tm (M l) m))
      (λ l o d p R D ht hi. begun_template s b o (W l) d p n before tm im R held small (can o d p l R D does.Template e) ht)

  pub begins_inverse : a ≡ does.Inverse → (r : code.Begun) → Stays front r (λ l. body_next im (whole q l) m) → TopIs front rc r × Ends page texts r
  begins_inverse e r h =
      stays r (λ l. body_next im (whole q l) m) (λ l. body_next im (M l) m) page texts h (λ l. ap (λ (y : RenderContext). body_next im y m) (marks l)) (λ l. keeps (body_next im (M l) m) l (body_keeps im (M l) m))
      (λ l o d p R D ht hi. begun_inverse s b o (W l) d p n before tm im R held small (can o d p l R D does.Inverse e) hi)

  pub begins_turns : (v : Value) → a ≡ does.Turns v → (r : code.Begun) → Stays front r (λ l. turns_next tm v (whole q l) m) → TopIs front rc r × Ends page texts r
  begins_turns v e r h =
      stays r (λ l. turns_next tm v (whole q l) m) (λ l. turns_next tm v (M l) m) page texts h (λ l. ap (λ (y : RenderContext). turns_next tm v y m) (marks l)) (λ l. keeps (turns_next tm v (M l) m) l (turns_keeps tm v (M l) m))
      (λ l o d p R D ht hi. begun_turns s b o (W l) d p n before tm im R held small v (can o d p l R D (does.Turns v) e) ht)

  -- u is behind the writing, which leaves the outputs x
  pub begins_write : (v : Value) → a ≡ does.Write v → (r : code.Begun) (u z : state.RenderContext) (page' texts' : Bytes) (x : Outputs) → Stays front r (λ l. done (whole z l)) → ((l : List Scope) → whole z l ≡ finished m (whole u l))
      → ((l : List Scope) → Wrote (whole q l) (whole u l) page' texts' x)
      → ((l : List Scope) (t : ℕ) → Stands s b ent t v → Writes s b (world (whole q l) page texts indent ent) (world (whole u l) page' texts' indent ent) (λ y. indent_aware_write (do_escape y (render (json_of s b ent v))) y))
      → TopIs front rc r × Ends page' texts' r
  begins_write v e r u z page' texts' x h f w g =
      stays r (λ l. done (whole z l)) (λ l. done (finished m (whole u l))) page' texts' h (λ l. ap done (f l))
      (λ l. keeps _ l (subst (λ (y : RenderContext). Keeps (done (finished m y)) (M l)) (sym ((w l).context ∙ ap (λ (y : RenderContext). wrote y x.writer) (marks l))) (written_keeps (M l) x.writer m)))
      (λ l o d p R D ht hi.
      let C = can o d p l R D (does.Write v) e in
      let w₂ : World = world (whole u l) page' texts' indent ent in
      let R₁ : Ready s b (over (whole q l) (W l)) = subst (λ (y : RenderContext). Ready s b (over y (W l))) (sym (marks l)) (ready₁ s b o (W l) d p n before tm im R held small) in
      begun_write s b o (W l) d p n before tm im R held small v C w₂
      (subst (λ (y : RenderContext). Draws s b (over y (W l)) w₂ (indent_aware_write (do_escape (abs s b (over y (W l))) (render (json_of s b ent v))) (abs s b (over y (W l))))) (marks l) (g l (top (W l)) C.possible R₁)))

  -- `with`

  module _ (v : Value) (e : a ≡ does.Within v) where
    abbrev U : World
    U = world (whole rc Q.stack) Q.ready.page Q.ready.texts Q.ready.indent ent

    possible : Openable s b U v
    possible = subst (Possible s b U) e Q.possible

    fitting : (l : List Scope) → Ready s b (W l) → Stands s b ent (top (W l)) v → Fits v
    fitting l R st = stands_fits s b ent (top (W l)) accepted.answers small (omega (arith, R.enough, R.few)) v st

    pub fits : Fits v
    fits = stands_fits s b ent (top U) accepted.answers small (omega (arith, first.enough, first.few)) v possible.stands

    newest_first : newest (whole rc Q.stack) ≡ front
    newest_first = newest_is rc front Q.stack first_sized first.one first.most Q.newest

    pub near : front.inline + front.count ≤ 4096
    near = subst (λ (x : Scope). x.inline + x.count ≤ 4096) newest_first (omega (arith, first.enough, first.few))

    pub readable : Readable b ent (with_scope v (names_view (bits b) n) front)
    readable = subst (λ (x : Scope). Readable b ent (with_scope v (names_view (bits b) n) x)) newest_first (with_readable s b U v (names_view (bits b) n) first possible fits (names_stand (bits b) n held).parts)

    room : rc.used < 32
    room = possible.room

    pub room_behind : q.used < 32
    room_behind = subst (λ (k : ℕ). k < 32) (sym (ap (λ (x : RenderContext). x.used) (marks Q.stack))) room

    pub begins_within : (r : code.Begun) → WithinBegun b ent n tm v front q m r → TopIs front rc r × Ends page texts r
    begins_within r h = (
      within_top rc front Q.stack first_sized first.one first.most Q.newest b ent n v m q (M Q.stack) (marks Q.stack) refl refl room tm r h,
      λ l o d p F R D ht hi.
          let sized = array_sized s b rc l page texts indent ent R in
          let C = can o d p l R D (does.Within v) e in
          let t = within_told rc front l sized R.one R.most F b ent n v m q (M l) (marks l) refl refl room tm r h in
          subst (λ (z : Begun). HelperBegun s b o (W l) (world z.rc page texts indent ent) d p n tm im before z.next) (sym t.2)
          (begun_within s b o (W l) d p n before tm im R held small v (fitting l R C.possible.stands) t.0
          (subst (λ (x : Scope). Covers t.0 b ent (with_scope v (names_view (bits b) n) x)) (sym (newest_is rc front l sized R.one R.most F)) t.1) C ht),
    )
