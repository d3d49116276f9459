-- The beginning of a partial, step by step: what each step asks for, and what is left where it is the last. s is the plan, b the bundle.
use Rattle.error.specs.Reasons.{not_none}
use Rattle.std.specs.Prelude.{ℕ, ◌+◌, ◌-◌, ◌^◌, ◌≤◌, ◌<◌, Bool, true, false, ◌≡◌, eqb, length, take, drop, replicate, Option as RustOption, Some, None}
use Rattle.std.specs.Option.{is_some}
use mathlib.Core.List.{List, []}
use Rattle.std.proofs.Math.Option.{some, none}
use Rattle.std.proofs.Math.Path.{refl, ap}
use Rattle.std.proofs.Common.{sym, ◌∙◌, subst, arith}
use Rattle.std.proofs.Math.ListN.{get_or}
use Rattle.rules.specs.Bytes.{Bytes, pick}
use Rattle.rules.specs.Bits.{bits}
use Rattle.rules.specs.Layout.{◌then◌}
use Rattle.rules.specs.Bundle.{string, body, param, call_of}
use Rattle.rules.specs.Output.{write}
use Rattle.rules.specs.State as rules
use Rattle.rules.specs.State.{Draw}
use Rattle.rules.specs.Registry.{Registry}
use Rattle.rules.specs.Partial.{Rendering}
use Rattle.rules.specs.Render.{join_indent, indent_fits}
use Rattle.rules.specs.Expand as expand
use Rattle.parts.specs.Holds.{Holds, row}
use Rattle.parts.specs.Says.{MaybeHolds}
use Rattle.calls.specs.declared.Call.{Call}
use Rattle.calls.specs.Calls.{call_at, call_view, hash_at}
use Rattle.value.specs.declared.Value.{Value}
use Rattle.meaning.specs.Standing.{Stands}
use Rattle.scope.specs.declared.Scope.{Scope}
use Rattle.scope.specs.Scopes.{blank}
use Rattle.scope.specs.Standing.{ScopesStand}
use Rattle.scope.specs.NameBits.{AllCovered}
use Rattle.context.specs.Near.{NearScopes}
use Rattle.context.specs.Start.{Newest}
use Rattle.expand.specs.declared.Options.{Options}
use Rattle.expand.specs.declared.Expanded.{Expanded}
use Rattle.expand.specs.Answers.{Setting, Works, IsTemplate}
use Rattle.expand.specs.WithoutHash.{without_hash, with_hash, head_refused, joined_any}
use Rattle.decorators.specs.Indents.{own as own-indent}
use Rattle.including.specs.Values.{HashValuesIn}
use Rattle.including.specs.ValuesLaws.{values_in_zeros}
use Rattle.including.specs.PairsLaws.{call_pairs_stand}
use Rattle.including.specs.Starting.{StartsPartial}
use Rattle.rules.specs.BundleLaws.{bits_binary}
use Rattle.output.specs.declared.Writer.{Writer}
use Rattle.output.specs.Outputs.{Outputs}
use Rattle.state.specs.declared.RenderContext as code
use Rattle.state.specs.Context.{RenderContext, whole, topped, Current, Front}
use Rattle.state.specs.Setters.{failed, with_writer, wrote, marked, settled, finished, with_template}
use Rattle.state.specs.World.{World, world, over, top, abs, sizes_of, Ready, Draws}
use Rattle.inlining.specs.Decorated.{SomeReady}
use Rattle.writing.specs.Writes.{Wrote, Writes}
use Rattle.drawing.specs.Parts.{before_partial}
use Rattle.drawing.specs.Members.{setting}
use Rattle.drawing.specs.Renders.{Checked, registry_of, joined, Renders, Worked, PartialDrawn}
use Rattle.targets.specs.declared.Target.{Target}
use Rattle.targets.specs.declared.Target.TheVariants as to
use Rattle.targets.specs.Target.{Leads, Decided}
use Rattle.opening.specs.Opens.{Given}
use Rattle.beginning.specs.declared.Begun.{Begun}
use Rattle.beginning.specs.declared.Next.TheVariants.{Fallback}
use Rattle.beginning.specs.Opened.{done, partial_rule, PartialBegun}
use Rattle.beginning.specs.Tops.{front_by, front_made, front_current, front_array, array_length}
use Rattle.beginning.specs.Entering.{Enterable, EnteredNext, Enters}
use Rattle.beginning.specs.Laws.{fits_is, fits_joins, begun_stop, begun_long, marks_ready, worked_there, name_there, begun_bad, begun_text, begun_fallback, begun_entered}
use Rattle.error.specs.declared.RenderErrorReason.TheVariants.{IndentLimit, BlockTextsLimit, PageLimit}
use Rattle.error.specs.Reasons.{refusal}
use Rattle.error.specs.declared.RenderErrorReason.{RenderErrorReason as Reason}

-- What a write and what is done behind it leave of a context

wrote_used : (w : Writer) (c : RenderContext) → (wrote c w).used ≡ c.used
wrote_used w c = go w.full
  where
    go : (y : Bool) → (pick y (failed (with_writer c w) (Some (pick w.block_text BlockTextsLimit PageLimit))) (with_writer c w)).used ≡ c.used
    go true = refl
    go false = refl

wrote_scopes : (w : Writer) (c : RenderContext) → (wrote c w).scopes ≡ c.scopes
wrote_scopes w c = go w.full
  where
    go : (y : Bool) → (pick y (failed (with_writer c w) (Some (pick w.block_text BlockTextsLimit PageLimit))) (with_writer c w)).scopes ≡ c.scopes
    go true = refl
    go false = refl

finished_used : (w : Writer) (c : RenderContext) → (finished w c).used ≡ c.used
finished_used w c = go (is_some c.bad)
  where
    go : (y : Bool) → (pick y c (settled c w)).used ≡ c.used
    go true = refl
    go false = refl

finished_scopes : (w : Writer) (c : RenderContext) → (finished w c).scopes ≡ c.scopes
finished_scopes w c = go (is_some c.bad)
  where
    go : (y : Bool) → (pick y c (settled c w)).scopes ≡ c.scopes
    go true = refl
    go false = refl

-- What `begin` asks for
abbrev pub Beginnable : Bytes → List ℕ → Bytes → List ℕ → List Scope → code.RenderContext → Scope → Bytes → Bytes → Bytes → List ℕ → ℕ → ℕ → RustOption ℕ → RustOption ℕ → Type 0
Beginnable s tab b index l c front page texts indent ent d p own at =
    Checked s tab b index × Front l c front × Ready s b (world (whole c l) page texts indent ent) × (d ≤ 16)
    × Holds (call_of (param d)) (bits b) p × MaybeHolds (body 16 d) (bits b) own × MaybeHolds string (bits b) at

module _ (s : Bytes) (tab : List ℕ) (b : Bytes) (index : List ℕ) (o : Options) (l : List Scope) (c : code.RenderContext) (front : Scope) (page texts indent : Bytes) (ent : List ℕ) (d p : ℕ) (own at : RustOption ℕ) (before : Bool)
    (P : Beginnable s tab b index l c front page texts indent ent d p own at) where
  abbrev w : World
  w = world (whole c l) page texts indent ent

  abbrev rule : Registry → Rendering → Draw
  rule = partial_rule b d p own at before

  -- what it leaves
  abbrev pub Begins : Bytes → Bytes → Bytes → List ℕ → Begun → Type 0
  Begins page' texts' indent' ent' y = PartialBegun s b o w (world (topped y.rc l y.top) page' texts' indent' ent') d rule own at y.next × (y.top.count ≡ y.rc.count)

  r : Ready s b w
  r = P.2

  sized : length l ≡ 32
  sized = array_length c l r.sized

  array : (whole c l).scopes ≡ l
  array = front_array c l front sized r.one r.most P.1

  pub begin_near : NearScopes s b ent l c.used
  begin_near = record {
    top = top w;
    near = omega (arith, r.enough, r.few);
    stand = subst (λ (k : List Scope). ScopesStand s b ent k c.used (top w)) array r.scopes;
  }

  pub begin_newest : Newest b ent front c.names l c.used
  begin_newest = record {
    some = r.one;
    is = P.1.is;
    covered = subst (λ (k : List Scope). AllCovered c.names b ent k c.used) array r.covered;
  }

  -- the worked out name and parameters are asked for in this setting
  here : Setting s b ent l c.used o (registry_of s b o (length page)) (abs s b w) (top w)
  here = subst (λ (k : List Scope). Setting s b ent k c.used o (registry_of s b o (length page)) (abs s b w) (top w)) array (setting s b o w r (length page))

  -- nothing is left: v is what f makes of u, which has the same newest scope
  done_by : (u v : code.RenderContext) (f : RenderContext → RenderContext) → ((k : List Scope) → whole v k ≡ f (whole u k)) → ((x : RenderContext) → (f x).used ≡ x.used) → ((x : RenderContext) → (f x).scopes ≡ x.scopes)
      → Front l u front → 1 ≤ u.used → u.used ≤ 32 → (page' texts' : Bytes) → Renders s b o w (world (f (whole u l)) page' texts' indent ent) rule → (y : Begun) → y ≡ done v front → Begins page' texts' indent ent y
  done_by u v f is used scopes F one most page' texts' R y e =
      subst (Begins page' texts' indent ent) (sym e) (
        subst (λ (x : RenderContext). Renders s b o w (world x page' texts' indent ent) rule) (sym (front_made v u f is used scopes most l front sized one F)) R,
        (front_by v u f is used scopes most l front F).current,
      )

  -- a refusal
  fails_by : (v : code.RenderContext) (n : RustOption Reason) → ((k : List Scope) → whole v k ≡ failed (whole c k) n) → Renders s b o w (over (failed w.rc n) w) rule → (y : Begun) → y ≡ done v front → Begins page texts indent ent y
  fails_by v n is R y e = done_by c v (λ x. failed x n) is (λ x. refl) (λ x. refl) P.1 r.one r.most page texts R y e

  -- x₀ is the name and the parameters
  module _ (x₀ : Expanded) (head : (g : Registry) (st : rules.RenderContext) (t : ℕ) → Setting s b ent l c.used o g st t → IsTemplate s b ent t (expand.try_from_template g st (without_hash (call_at d (bits b) p))) x₀) where
    pub head_stop : (n : Reason) → x₀.bad ≡ Some n → (v : code.RenderContext) → ((k : List Scope) → whole v k ≡ failed (whole c k) (Some n)) → (y : Begun) → y ≡ done v front → Begins page texts indent ent y
    head_stop n q v is =
        let g = registry_of s b o (length page) in
        let k = head g (abs s b w) (top w) here in
        fails_by v (Some n) is
        (subst (λ (m : RustOption Reason). Renders s b o w (over (failed w.rc m) w) rule) q
        (begun_stop s b o w d p own at before r x₀
        (record { fine = λ e. absurd (not_none n q e); refused = head_refused s b ent (top w) d p P.4 (call_view d (bits b) p) refl g (abs s b w) x₀ k }) (not_none n q)))

    -- v has the hash pairs, values the numbers of theirs, or bad the refusal
    module _ (fine₀ : x₀.bad ≡ None) (v : Call) (view : v ≡ call_view d (bits b) p) where
      pub begin_few : v.pairs < 16
      begin_few = (call_pairs_stand d (bits b) p v (bits_binary b) P.4 view).few

      pub begin_pairs : Holds (row (string then param d) v.pairs) (bits b) v.pair
      begin_pairs = (call_pairs_stand d (bits b) p v (bits_binary b) P.4 view).holds

      module _ (values : List ℕ) (bad : RustOption Reason)
          (hashed : (g : Registry) (st : rules.RenderContext) (t : ℕ) → Setting s b ent l c.used o g st t
          → Works (λ _. HashValuesIn s b ent t d v.pair v.pairs g st (replicate 15 0) values) (expand.expand_hash g st (hash_at d v.pairs (bits b) v.pair)) bad) where
        abbrev g : Registry
        g = registry_of s b o (length page)

        all : (z : Bool) × IsTemplate s b ent (top w) (expand.try_from_template g (abs s b w) (call_at d (bits b) p)) (with_hash x₀ z bad)
        all = joined_any s b ent (top w) d p P.4 v view g (abs s b w) x₀ (head g (abs s b w) (top w) here) fine₀ (λ _. HashValuesIn s b ent (top w) d v.pair v.pairs g (abs s b w) (replicate 15 0) values) bad (hashed g (abs s b w) (top w) here)

        -- the whole call
        x : Expanded
        x = with_hash x₀ all.0 bad

        worked : IsTemplate s b ent (top w) (expand.try_from_template g (abs s b w) (call_at d (bits b) p)) x
        unfolding x
        worked = all.1

        x_bad : x.bad ≡ bad
        unfolding x
        x_bad = refl

        x_name : x.name ≡ x₀.name
        unfolding x
        x_name = refl

        pub hash_stop : (n : Reason) → bad ≡ Some n → (u : code.RenderContext) → ((k : List Scope) → whole u k ≡ failed (whole c k) (Some n)) → (y : Begun) → y ≡ done u front → Begins page texts indent ent y
        hash_stop n q u is =
            fails_by u (Some n) is
            (subst (λ (k : RustOption Reason). Renders s b o w (over (failed w.rc k) w) rule) (x_bad ∙ q) (begun_stop s b o w d p own at before r x worked (not_none n (x_bad ∙ q))))

        module _ (fine : bad ≡ None) where
          so : x.bad ≡ None
          so = x_bad ∙ fine

          -- whether the indents fit together
          module _ (yes : Bool) (fits : (g : Registry) (j : Bytes) → g.limits.indent ≡ 256 → length j ≡ c.writer.indent → yes ≡ indent_fits g (join_indent (pick c.writer.has_indent (some j) none) (own-indent (bits b) at))) where
            pub long_stop : yes ≡ false → (u : code.RenderContext) → ((k : List Scope) → whole u k ≡ failed (whole c k) (Some IndentLimit)) → (y : Begun) → y ≡ done u front → Begins page texts indent ent y
            long_stop e u is = fails_by u (Some IndentLimit) is (begun_long s b o w d p own at before r x worked so (sym (fits_is s b o w at r yes fits) ∙ e))

            -- q has the marks
            module _ (e : yes ≡ true) (q : code.RenderContext) (aware : (k : List Scope) → whole q k ≡ marked (whole c k) (before_partial c.writer at before)) where
              they_fit : indent_fits g (joined s b w at) ≡ true
              they_fit = sym (fits_is s b o w at r yes fits) ∙ e

              abbrev bp : Bool
              bp = before_partial c.writer at before

              abbrev w₁ : World
              w₁ = over (marked w.rc bp) w

              q_used : q.used ≡ c.used
              q_used = ap (λ (z : RenderContext). z.used) (aware [])

              q_one : 1 ≤ q.used
              q_one = omega (arith, q_used, r.one)

              q_most : q.used ≤ 32
              q_most = omega (arith, q_used, r.most)

              q_writer : q.writer.indent ≡ c.writer.indent
              q_writer = ap (λ (z : RenderContext). z.writer.indent) (aware [])

              q_high : q.writer.high ≡ c.writer.high
              q_high = ap (λ (z : RenderContext). z.writer.high) (aware [])

              q_front : Front l q front
              q_front = front_by q c (λ z. marked z bp) aware (λ z. refl) (λ z. refl) r.most l front P.1

              q_array : (whole q l).scopes ≡ l
              q_array = front_array q l front sized q_one q_most q_front

              w_is : w₁ ≡ world (whole q l) page texts indent ent
              w_is = ap (λ (z : RenderContext). world z page texts indent ent) (sym (aware l))

              ready₁ : Ready s b w₁
              ready₁ = marks_ready s b o w d p own at before r x worked so

              ready_q : Ready s b (world (whole q l) page texts indent ent)
              ready_q = subst (Ready s b) w_is ready₁

              -- what the name stands for
              pub begin_target : length texts < 2 ^ 64
                  → Checked s tab b index × Current l q × SomeReady s b (whole q l) ent × (d ≤ 16) × MaybeHolds (body 16 d) (bits b) own × ((t : ℕ) × Stands s b ent t x₀.name)
                  × (q.writer.high + sizes_of l q.used < 2 ^ 64)
              begin_target short = (
                P.0,
                front_current q l front sized q_one q_most q_front,
                record { page = page; texts = texts; indent = indent; ready = ready_q },
                P.3,
                P.5,
                (top w, subst (Stands s b ent (top w)) x_name (name_there s b o w d p own at before r x worked so)),
                (let e = ap (λ (k : List Scope). sizes_of k c.used) array in let f = ap (sizes_of l) q_used in omega (arith, short, r.texts, q_high, e, f)),
              )

              -- it is refused, for whatever reason
              pub target_refused : (n : Reason)
                  → ((z : Expanded) → z.name ≡ x₀.name
                  → PartialDrawn s b o w₁ (over (failed w₁.rc (Some n)) w₁) d p z own at)
                  → (u : code.RenderContext)
                  → ((k : List Scope) → whole u k ≡ failed (whole q k) (Some n))
                  → (y : Begun) → y ≡ done u front
                  → Begins page texts indent ent y
              target_refused n D u is =
                  done_by q u (λ z. failed z (Some n)) is (λ z. refl) (λ z. refl) q_front q_one q_most page texts
                  (subst (λ (z : World). Renders s b o w (over (failed z.rc (Some n)) z) rule) w_is
                  (begun_bad s b o w d p own at before r x worked so they_fit n (D x x_name)))

              module _ (t : Target) (D : Decided s b ent (whole q l) d x₀.name own t) where
                leads_of : (z : Expanded) → z.name ≡ x₀.name
                    → (u : Target) → t ≡ u
                    → Leads s b o w₁ d p z own at u
                leads_of z named u i =
                    let E = subst (λ (k : RenderContext). Decided s b ent k d x₀.name own t) (aware l) D in
                    subst (Leads s b o w₁ d p z own at) i (E.at page texts indent o p z at named ready₁)

                leads : (u : Target) → t ≡ u → Leads s b o w₁ d p x own at u
                leads = leads_of x x_name

                pub target_bad : (n : Reason) → t ≡ to.Bad n → (u : code.RenderContext) → ((k : List Scope) → whole u k ≡ failed (whole q k) (Some n)) → (y : Begun) → y ≡ done u front → Begins page texts indent ent y
                target_bad n i = target_refused n (λ z named. (leads_of z named (to.Bad n) i).1)

                -- a block text
                module _ (from n : ℕ) (i : t ≡ to.Text from n) where
                  pub target_text_fits : (q.writer.high ≤ from) × (from + n ≤ length texts)
                  target_text_fits = let L = leads (to.Text from n) i in (omega (arith, L.0, q_high), L.1)

                  pub target_text : (page' texts' : Bytes) (z : code.RenderContext) (out : Outputs) → ((k : List Scope) → Wrote (whole q k) (whole z k) page' texts' out)
                      → ((k : List Scope) (s b indent : Bytes) (ent : List ℕ) → Writes s b (world (whole q k) page texts indent ent) (world (whole z k) page' texts' indent ent) (write (take n (drop from texts))))
                      → (u : code.RenderContext) → ((k : List Scope) → whole u k ≡ finished c.writer (whole z k)) → (y : Begun) → y ≡ done u front → Begins page' texts' indent ent y
                  target_text page' texts' z out W draws u is =
                      let wrote_so : (k : List Scope) → whole z k ≡ wrote (whole q k) out.writer = λ k. (W k).context in
                      let used : z.used ≡ q.used = ap (λ (v : RenderContext). v.used) (wrote_so []) ∙ wrote_used out.writer (whole q []) in
                      let F : Front l z front = front_by z q (λ v. wrote v out.writer) wrote_so (wrote_used out.writer) (wrote_scopes out.writer) q_most l front q_front in
                      let D₁ : Draws s b w₁ (world (whole z l) page' texts' indent ent) (write (take n (drop from texts)) (abs s b w₁)) =
                      subst (λ (v : World). Draws s b v (world (whole z l) page' texts' indent ent) (write (take n (drop from texts)) (abs s b v))) (sym w_is) (draws l s b indent ent ready_q) in
                      done_by z u (finished c.writer) is (finished_used c.writer) (finished_scopes c.writer) F (omega (arith, used, q_one)) (omega (arith, used, q_most)) page' texts'
                      (begun_text s b o w d p own at before r x worked so they_fit from n (leads (to.Text from n) i) (world (whole z l) page' texts' indent ent) D₁)

                pub target_fallback : (a : ℕ) → t ≡ to.Fallback a → (u : code.RenderContext) → ((k : List Scope) → whole u k ≡ with_template (whole q k) 0) → Begins page texts indent ent (record { rc = u; top = front; next = Fallback a })
                target_fallback a i u is = (
                  subst (λ (z : RenderContext). PartialBegun s b o w (world z page texts indent ent) d rule own at (Fallback a)) (sym (front_made u q (λ z. with_template z 0) is (λ z. refl) (λ z. refl) q_most l front sized q_one q_front))
                      (subst (λ (z : World). PartialBegun s b o w (over (with_template z.rc 0) z) d rule own at (Fallback a)) w_is (begun_fallback s b o w d p own at before r x worked so they_fit a (leads (to.Fallback a) i))),
                  (front_by u q (λ z. with_template z 0) is (λ z. refl) (λ z. refl) q_most l front q_front).current,
                )

                -- a body: base is what the hash is merged into
                module _ (base : Value) (starts : StartsPartial front x₀.count x₀.first base) where
                  setting_q : (g : Registry) (st : rules.RenderContext) (t : ℕ) → Setting s b ent (whole q l).scopes q.used o g st t → Setting s b ent l c.used o g st t
                  setting_q g st t S = subst (λ (k : ℕ). Setting s b ent l k o g st t) q_used (subst (λ (k : List Scope). Setting s b ent k q.used o g st t) q_array S)

                  given : Given s b ent o (whole q l) d p x base v.pair v.pairs values
                  unfolding x
                  given = record {
                    call = P.4;
                    pairs = ap (λ (z : Call). z.pairs) view;
                    pair = ap (λ (z : Call). z.pair) view;
                    values = λ g st t S. values_in_zeros s b ent t d v.pair g st 15 v.pairs values ((hashed g st t (setting_q g st t S)).fine fine).2;
                    starts = λ g st t e S E.
                        starts s b ent (whole q l).scopes q.used o g st t x₀.second e.params P.0.plan.answers q_one (q_front.is ∙ ap (λ (k : List Scope). get_or k (q.used - 1) blank) (sym q_array)) S E.params;
                  }

                  pub begin_enter : v.pairs ≤ length values → Enterable s tab b ent indent q front base d v.pair v.pairs values at
                  begin_enter long = record {
                    plan = P.0.plan;
                    small = P.0.small;
                    long = long;
                    held = P.6;
                    joins = let j = fits_joins s b o w at r they_fit in omega (arith, j, q_writer);
                    scopes = l;
                    newest = q_front;
                    o = o;
                    p = p;
                    x = x;
                    given = given;
                    page = page;
                    texts = texts;
                    ready = ready_q;
                    expanded = (worked.fine so).0;
                    worked = subst (λ (z : World). Worked s b o z d p x (worked.fine so).0) w_is (worked_there s b o w d p own at before r x worked so);
                  }

                  pub target_body : (a e n : ℕ) (m : RustOption ℕ) → t ≡ to.Body a e n m → (ent' : List ℕ) (indent' : Bytes) (y : Begun)
                      → Enters s b ent ent' indent indent' q front base d v.pair v.pairs values a e n m at y → Begins page texts indent' ent' y
                  target_body a e n m i ent' indent' y E =
                      let L = leads (to.Body a e n m) i in
                      let W = subst (λ (z : World). Worked s b o z d p x (worked.fine so).0) w_is (worked_there s b o w d p own at before r x worked so) in
                      let u : World = world (topped y.rc l y.top) page texts indent' ent' in
                      let N : EnteredNext s b o w₁ u d p x a e n m at y.next =
                      subst (λ (z : World). EnteredNext s b o z u d p x a e n m at y.next) (sym w_is) (E.at l q_front o p x given L.2 page texts ready_q (worked.fine so).0 W) in
                      (begun_entered s b o w d p own at before r x worked so they_fit a e n m L u y.next N, E.counts)
