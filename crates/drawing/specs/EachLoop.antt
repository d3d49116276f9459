-- The loop of `each`: k turns are drawn, and the next one is known.
use Rattle.std.specs.Prelude.{None, ℕ, zero, suc, ◌+◌, ◌-◌, ◌≤◌, ◌<◌, Bool, false, [], ◌≡◌, refl, eqb, length, get_or, Option as RustOption, Some}
use Rattle.std.proofs.Math.Option.{none}
use Rattle.std.proofs.Common.{sym, ◌∙◌, arith, add-one, get_or-set_same}
use Rattle.std.proofs.Math.Path.{ap, subst}
use Rattle.rules.specs.Bytes.{Bytes}
use Rattle.rules.specs.Bits.{bits}
use Rattle.rules.specs.Layout.{field}
use Rattle.rules.specs.Bundle.{string, block_names}
use Rattle.rules.specs.Plan.{answer}
use Rattle.rules.specs.Json.{Json}
use Rattle.rules.specs.Value.{ScopedJson}
use Rattle.rules.specs.Template as template
use Rattle.rules.specs.Block.{BlockContext}
use Rattle.rules.specs.State.{Draw, pop_block, push_block, ◌after◌}
use Rattle.rules.specs.Registry.{Registry}
use Rattle.rules.specs.BlockUtil.{create_block, render_or_nothing}
use Rattle.rules.specs.HelperEach.{Turn, turn_block, turns}
use Rattle.rules.specs.Partial.{Rendering}
use Rattle.rules.specs.Render.{render_elements, render_body, render_template}
use Rattle.layout.specs.Text.{text_at}
use Rattle.parts.specs.declared.BlockParam.{BlockParam}
use Rattle.parts.specs.declared.BlockParam.TheVariants.{None, Single, Pair}
use Rattle.parts.specs.Holds.{Holds, end}
use Rattle.parts.specs.Views.{names_of, names_view}
use Rattle.parts.specs.Says.{names_at, names_says, NamesHold, names_stand}
use Rattle.template.specs.Views.{template_at}
use Rattle.places.specs.Accepted.{accepted}
use Rattle.value.specs.declared.Value.{Value}
use Rattle.value.specs.Numbers.{Fits, encoded, decoded, decoded_encoded}
use Rattle.meaning.specs.Meaning.{is_missing, json_of, scoped_of}
use Rattle.meaning.specs.Standing.{Stands, plain}
use Rattle.meaning.specs.Kept.{Agree, kept}
use Rattle.lookup.specs.Answers.{Held}
use Rattle.members.specs.Turns.{each_turns}
use Rattle.scope.specs.declared.Scope.{Scope}
use Rattle.scope.specs.Scopes.{blank, context_of}
use Rattle.scope.specs.Standing.{ScopeStands}
use Rattle.scope.specs.Made as made
use Rattle.scope.specs.NameBits.{Covers}
use Rattle.scope.specs.Names.{Readable}
use Rattle.scope.proofs.NamesLaws.{readable}
use Rattle.scope.proofs.MadeLaws.{child_is, child_stands, with_names_stands, names_anew, turn_object}
use Rattle.turns.specs.Listed.{before_end}
use Rattle.turns.specs.Turning.{is_map, TurnAt, TurnBefore}
use Rattle.turns.specs.declared.Turn.{Turn as Told}
use Rattle.turns.proofs.Laws.{base_first, base_next, turn_kept, turn_below}
use Rattle.including.specs.ValuesLaws.{stands_fits}
use Rattle.expand.specs.declared.Options.{Options}
use Rattle.state.specs.Context.{RenderContext}
use Rattle.state.specs.Setters as set
use Rattle.state.specs.World.{World, over, front, top, abs, Ready, Sizes, Goes, Draws}
use Rattle.state.specs.Steps.{Within, abs_open, within_open, goes_template}
use Rattle.blocks.specs.Opened.{each_scope, Opens}
use Rattle.drawing.specs.Renders.{registry_of, Renders, Openable}
use Rattle.drawing.specs.Members.{body_drawn}
use Rattle.drawing.specs.Continues.{Continues, unless_fine}
use Rattle.drawing.specs.Turning.{Turning, turning_start, turning_end}
use Rattle.drawing.specs.EachTurn.{EachScope, each_ready, each_stop, each_more, each_more_block}

-- the body at p for each turn over v, in one scope; the names stand at n
abbrev pub each_rule : Bytes → Bytes → World → ℕ → ℕ → ℕ → Value → Registry → Rendering → Draw
each_rule s b w d n p v g R st =
    pop_block after turns (turn_block (scoped_of s b w.ent v) (names_at (bits b) n)) (render_or_nothing (render_body g R (template.body (template_at 16 d (bits b) p)))) (each_turns (json_of s b w.ent v)) (push_block (create_block (scoped_of s b w.ent v)) st)

names_alike : (b : Bytes) (c x : Scope) (k : ℕ) → c.names ≡ x.names → made.names_said b c k ≡ made.names_said b x k
names_alike b c x zero e = refl
names_alike b c x (suc zero) e = rw e
names_alike b c x (suc (suc k)) e = rw e

-- a second name stands behind the first
abbrev Follow : Bytes → BlockParam → Type 0
Follow b None = Unit {0}
Follow b (Single p) = Unit {0}
Follow b (Pair p z) = z ≡ end string (bits b) p

names_follow : (b : Bytes) (at : ℕ) → Follow b (names_view (bits b) at)
names_follow b at = go (field (bits b) 2 at)
  where
    go : (k : ℕ) → Follow b (names_of (bits b) (at + 2) k)
    go zero = tt
    go (suc zero) = tt
    go (suc (suc k)) = refl

-- The scope before the first turn

module _ (s b : Bytes) (w : World) (v : Value) (r : Ready s b w) (q : Openable s b w v) (fits : Fits v) where
  abbrev new : Scope
  new = made.child (encoded v) (top w)

  value_is : decoded (encoded v) ≡ v
  value_is = decoded_encoded v fits

  here : is_missing (decoded (encoded v)) ≡ false
  here = ap is_missing value_is ∙ q.present

  new_there : ScopeStands s b w.ent new
  new_there = child_stands s b w.ent (encoded v) (top w) here (subst (Stands s b w.ent (top w)) (sym value_is) q.stands)

  new_is : context_of s b w.ent new ≡ create_block (scoped_of s b w.ent v)
  new_is = child_is s b w.ent (encoded v) (top w) here ∙ ap (λ (x : Value). create_block (scoped_of s b w.ent x)) value_is

  each_there : (ns : BlockParam) → NamesHold (bits b) ns → Follow b ns → ScopeStands s b w.ent (each_scope v ns (front w))
  each_there None h f = new_there
  each_there (Single p) h f = with_names_stands s b w.ent new 1 p new_there h
  each_there (Pair p z) h f = with_names_stands s b w.ent new 2 p new_there (h.0, subst (Holds string (bits b)) f h.1)

  each_anew : (ns : BlockParam) → Follow b ns → (u : Turn)
      → turn_block (scoped_of s b w.ent v) (names_says (bits b) ns) u (create_block (scoped_of s b w.ent v)) ≡ turn_block (scoped_of s b w.ent v) (names_says (bits b) ns) u (context_of s b w.ent (each_scope v ns (front w)))
  each_anew None f u = ap (turn_block (scoped_of s b w.ent v) template.no_names u) (sym new_is)
  each_anew (Single p) f u =
      ap (turn_block (scoped_of s b w.ent v) (template.single (text_at (bits b) p)) u) (sym new_is)
      ∙ sym (names_anew s b w.ent new 1 p (scoped_of s b w.ent v) u refl (omega arith))
  each_anew (Pair p z) f u =
      subst (λ (y : ℕ). turn_block (scoped_of s b w.ent v) (template.pair (text_at (bits b) p) (text_at (bits b) y)) u (create_block (scoped_of s b w.ent v)) ≡ turn_block (scoped_of s b w.ent v) (template.pair (text_at (bits b) p) (text_at (bits b) y)) u (context_of s b w.ent (made.with_names new 2 p))) (sym f)
      (ap (turn_block (scoped_of s b w.ent v) (template.pair (text_at (bits b) p) (text_at (bits b) (end string (bits b) p))) u) (sym new_is)
      ∙ sym (names_anew s b w.ent new 2 p (scoped_of s b w.ent v) u refl (omega arith)))

  each_first : (ns : BlockParam) → Follow b ns → EachScope s b v ns (json_of s b w.ent v) 0 (each_scope v ns (front w))
  each_first None f = record { few = omega arith; names = refl; base = base_first s v (decoded (encoded v)) value_is; fresh = λ e. refl }
  each_first (Single p) f = record { few = omega arith; names = refl; base = base_first s v (decoded (encoded v)) value_is; fresh = λ e. refl }
  each_first (Pair p z) f = record { few = omega arith; names = ap (λ (y : ℕ). template.pair (text_at (bits b) p) (text_at (bits b) y)) (sym f); base = base_first s v (decoded (encoded v)) value_is; fresh = λ e. refl }

  -- it has no entries and no block text
  record Bare (c : Scope) : Type 0 where
    starts : c.inline ≡ top w
    none_yet : c.count ≡ 0
    no_block : c.block ≡ 0
    no_text : c.text ≡ 0
    sum : w.rc.total ≡ (context_of s b w.ent c).merged_entries + w.rc.total

  each_bare : (ns : BlockParam) → Bare (each_scope v ns (front w))
  each_bare None = record { starts = refl; none_yet = refl; no_block = refl; no_text = refl; sum = omega arith }
  each_bare (Single p) = record { starts = refl; none_yet = refl; no_block = refl; no_text = refl; sum = omega arith }
  each_bare (Pair p z) = record { starts = refl; none_yet = refl; no_block = refl; no_text = refl; sum = omega arith }

  module _ (ns : BlockParam) (held : NamesHold (bits b) ns) (follow : Follow b ns) (m : ℕ) (covers : Covers m b w.ent (each_scope v ns (front w))) where
    abbrev first : Scope
    first = each_scope v ns (front w)

    abbrev w₁ : World
    w₁ = over (set.pushed w.rc first m) w

    le : top w ≤ first.inline
    le = omega (arith, (each_bare ns).starts)

    ge : first.inline ≤ w.rc.total
    ge = omega (arith, (each_bare ns).starts, r.enough)

    within_each : Within s b [] w w₁
    within_each = within_open s b w first w.rc.total r q.room (each_there ns held follow) le (each_bare ns).none_yet (each_bare ns).no_block (each_bare ns).no_text (each_bare ns).sum r.few ge m covers

    abs_each : abs s b w₁ ≡ push_block (context_of s b w.ent first) (abs s b w)
    abs_each = abs_open s b w first w.rc.total r q.room (each_there ns held follow) le (each_bare ns).none_yet (each_bare ns).no_block (each_bare ns).no_text (each_bare ns).sum r.few ge m covers

    newest : front w₁ ≡ first
    newest = let e : w.rc.used + 1 - 1 ≡ w.rc.used = omega arith in ap (λ (i : ℕ). get_or w₁.rc.scopes i blank) e ∙ get_or-set_same w.rc.scopes w.rc.used first blank (omega (arith, r.sized, q.room))

-- The loop

module _ (s b : Bytes) (o : Options) (w : World) (d at p : ℕ) (v : Value) (r : Ready s b w) (q : Openable s b w v) (ok : answer s ≡ 0) (small : length b ≤ 65536) (held : Holds block_names (bits b) at) where
  abbrev ns : BlockParam
  ns = names_view (bits b) at

  abbrev T : template.Body
  T = template.body (template_at 16 d (bits b) p)

  abbrev Z : ScopedJson
  Z = scoped_of s b w.ent v

  abbrev J : Json
  J = json_of s b w.ent v

  abbrev F : Turn → BlockContext → BlockContext
  F = turn_block Z (names_says (bits b) ns)

  -- k turns are drawn, l is left, and `turn` comes next
  pub record EachGoing (l : World) (k : ℕ) (turn : RustOption Told) : Type 0 where
    pub going : Turning s b o w r F (each_turns J) (create_block Z) T l k
    pub anew : (u : Turn) → F u going.block ≡ F u (context_of s b l.ent (front l))
    pub scope : EachScope s b v ns J k (front l)
    pub next : TurnAt s b l.ent (top w) v k turn

  near : top w ≤ 4096
  near = omega (arith, r.enough, r.few)

  pub each_held : Held s b w.ent v
  each_held = record { used = top w; room = omega (arith, near, r.table); stands = q.stands }

  pub each_fits : Fits v
  each_fits = stands_fits s b w.ent (top w) ok small near v q.stands

  pub each_opens : Opens w.rc v
  each_opens = record { fits = each_fits; sized = r.sized; one = r.one; room = q.room; near = near }

  follow : Follow b ns
  follow = names_follow b at

  parts : NamesHold (bits b) ns
  parts = (names_stand (bits b) at held).parts

  -- its names can be read
  pub each_readable : Readable b w.ent (each_scope v ns (front w))
  each_readable = readable s b w.ent (each_scope v ns (front w)) (each_there s b w v r q each_fits ns parts follow) (omega (arith, (each_bare s b w v r q each_fits ns).starts, near, r.table))

  pub each_empty : (each_scope v ns (front w)).count ≡ 0
  each_empty = (each_bare s b w v r q each_fits ns).none_yet

  -- its names are in the set m
  pub each_begun : (m : ℕ) → Covers m b w.ent (each_scope v ns (front w)) → (turn : RustOption Told) → TurnAt s b w.ent (top w) v 0 turn → EachGoing (over (set.pushed w.rc (each_scope v ns (front w)) m) w) 0 turn
  unfolding turning_start
  each_begun m covers turn u =
      let e = newest s b w v r q each_fits ns parts follow m covers in
      let bare = each_bare s b w v r q each_fits ns in
      record {
        going = turning_start s b o w r F (each_turns J) (create_block Z) T (over (set.pushed w.rc (each_scope v ns (front w)) m) w) (within_each s b w v r q each_fits ns parts follow m covers)
            (ap (λ (x : Scope). x.block) e ∙ bare.no_block) (ap (λ (x : Scope). x.text) e ∙ bare.no_text) (context_of s b w.ent (each_scope v ns (front w))) (abs_each s b w v r q each_fits ns parts follow m covers);
        anew = λ t. each_anew s b w v r q each_fits ns follow t ∙ ap (λ (x : Scope). F t (context_of s b w.ent x)) (sym e);
        scope = subst (EachScope s b v ns J 0) (sym e) (each_first s b w v r q each_fits ns follow);
        next = u;
      }

  -- by the names as they are read
  renders_named : (w' : World) → ((f : ℕ) → 32 ≤ f + w.rc.used
      → Draws s b w w' (pop_block after turns F (render_or_nothing (render_body (registry_of s b o (length w.page)) (render_template (registry_of s b o (length w.page)) f) T)) (each_turns J) (push_block (create_block Z) (abs s b w))))
      → Renders s b o w w' (each_rule s b w d at p v)
  renders_named w' h = record {
    at = λ f le.
        subst (λ (n : template.BlockParam). Draws s b w w' (pop_block after turns (turn_block Z n) (render_or_nothing (render_body (registry_of s b o (length w.page)) (render_template (registry_of s b o (length w.page)) f) T)) (each_turns J) (push_block (create_block Z) (abs s b w))))
        (sym (names_stand (bits b) at held).is) (h f le);
  }

  module _ (l : World) (k : ℕ) where
    means_same : (turn : RustOption Told) → EachGoing l k turn → J ≡ json_of s b l.ent v
    means_same turn E = (kept s b w.ent l.ent (top w) v E.going.within.agree q.stands).means

    pub each_ended : EachGoing l k None → Renders s b o w (over (set.closed w.rc l.rc) l) (each_rule s b w d at p v)
    each_ended E =
        renders_named (over (set.closed w.rc l.rc) l)
        (turning_end s b o w r F (each_turns J) (create_block Z) T l k E.going (subst (λ (j : Json). length (each_turns j) ≤ k) (sym (means_same None E)) E.next))

    -- behind it the marks are settled: w₀ is in front of the element, and has the same open scopes as w
    pub each_finished : (w₀ : World) (rule : Registry → Rendering → Draw) → Continues s b o w₀ w 0 (each_rule s b w d at p v) rule (set.finished w₀.rc.writer)
        → ((c : RenderContext) → set.closed w.rc c ≡ set.closed w₀.rc c) → EachGoing l k None → Renders s b o w₀ (over (set.finished_within w₀.rc l.rc) l) rule
    each_finished w₀ rule C same E =
        let e : l.rc.bad ≡ None = E.going.within.ready.fine in
        let m = w₀.rc.writer in
        let f : set.finished m (set.closed w.rc l.rc) ≡ set.finished_within w₀.rc l.rc =
        unless_fine (λ c. set.settled c m) (set.closed w.rc l.rc) e ∙ ap (λ (c : RenderContext). set.settled c m) (same l.rc) ∙ sym (unless_fine (λ c. set.settled (set.closed w₀.rc c) m) l.rc e) in
        subst (λ (c : RenderContext). Renders s b o w₀ (over c l) rule) f (C.done (over (set.closed w.rc l.rc) l) (each_ended E))

    pub each_used : (turn : RustOption Told) → EachGoing l k turn → l.rc.used ≡ suc w.rc.used
    each_used turn E = E.going.within.used

    pub each_sizes : (turn : RustOption Told) → EachGoing l k turn → Sizes w l
    each_sizes turn E = E.going.within.sizes

    -- One more turn

    module _ (item key : Value) (object last : Bool) (E : EachGoing l k (Some (record { item = item; key = key; object = object; last = last }))) where
      there : Stands s b l.ent (top w) v
      there = (kept s b w.ent l.ent (top w) v E.going.within.agree q.stands).stands

      item_fits : Fits item
      item_fits = stands_fits s b l.ent (top w) ok small near item E.next.stands

      key_fits : Fits key
      key_fits = stands_fits s b l.ent (top w) ok small near key (plain E.next.key_plain E.next.key_stands)

      few_turns : k < 4096
      few_turns = turn_below s b l.ent _ (accepted s 4096 _ ok refl (omega arith)) v (top w) k item key object last there E.next

      pub each_item_fits : Fits item × Fits key × (k < 65536)
      each_item_fits = (item_fits, key_fits, omega (arith, few_turns))

      pub each_front : (0 < l.rc.used) × (l.rc.used ≤ 32) × (length l.rc.scopes ≡ 32)
      each_front = (E.going.within.ready.one, E.going.within.ready.most, E.going.within.ready.sized)

      pub each_less : length (each_turns J) - (k + 1) < length (each_turns J) - k
      each_less =
          let h = before_end (each_turns (json_of s b l.ent v)) k E.next.turn E.next.is in
          let n : length (each_turns J) ≡ length (each_turns (json_of s b l.ent v)) = ap (λ (j : Json). length (each_turns j)) (means_same (Some (record { item = item; key = key; object = object; last = last })) E) in
          omega arith

      abbrev c : Scope
      c = made.turned (front l) (encoded item) (encoded key) k (eqb k 0) last object

      abbrev l₁ : World
      l₁ = over (set.with_template (set.turned l.rc c) 0) l

      unnamed : Ready s b (over (set.turned l.rc c) l)
      unnamed = each_ready s b o w r v q.stands ns T l k E.going E.anew E.scope item key object last E.next item_fits key_fits

      pub each_turn_ready : Ready s b l₁
      each_turn_ready = (goes_template s b (over (set.turned l.rc c) l) unnamed 0 (λ n. absurd (n refl))).ready

      turned_front : front l₁ ≡ c
      turned_front = get_or-set_same l.rc.scopes (l.rc.used - 1) c blank (omega (arith, each_front.0, each_front.1, each_front.2))

      module _ (l₂ : World) (D : Renders s b o l₁ l₂ (λ g R. render_elements g R none (template_at 16 d (bits b) p))) where
        body : Renders s b o (over (set.turned l.rc c) l) l₂ (λ g R. render_or_nothing (render_body g R T))
        body = body_drawn s b o (over (set.turned l.rc c) l) l₂ (template_at 16 d (bits b) p) unnamed D

        pub each_stopped : (l₂.rc.bad ≡ None → ⊥) → Renders s b o w l₂ (each_rule s b w d at p v)
        each_stopped n = renders_named l₂ (each_stop s b o w r v q.stands ns T l k E.going E.anew E.scope item key object last E.next item_fits key_fits l₂ body n)

        module _ (e : l₂.rc.bad ≡ None) where
          text : Bytes
          text = ((D.at 32 (omega arith)).fine e).text

          goes : Goes s b text l₁ l₂
          unfolding text
          goes = ((D.at 32 (omega arith)).fine e).goes

          front_is : front l₂ ≡ made.with_count c (front l₂).count
          front_is = goes.newest ∙ ap (λ (x : Scope). made.with_count x (front l₂).count) turned_front

          agree : Agree l.ent l₂.ent (top w)
          agree =
              let inline : (front l₁).inline ≡ (front l).inline = ap (λ (x : Scope). x.inline) turned_front in
              record { same = λ i lt. goes.agree.same i (omega (arith, E.going.within.above)) }

          still : Stands s b l₂.ent (top w) v
          still = (kept s b l.ent l₂.ent (top w) v agree there).stands

          pub each_before : TurnBefore s b l₂.ent v (k + 1) (Some (record { item = item; key = key; object = object; last = last }))
          each_before = record {
            used = top w;
            room = omega (arith, near, goes.ready.table);
            stands = still;
            number = k;
            next = add-one k;
            turn = turn_kept s b l.ent l₂.ent (top w) v k (Some (record { item = item; key = key; object = object; last = last })) agree there E.next;
          }

          scope_again : EachScope s b v ns J (suc k) (made.with_count c (front l₂).count)
          scope_again = record {
            few = E.scope.few;
            names = names_alike b (made.with_count c (front l₂).count) (front l) (front l).kind refl ∙ E.scope.names;
            base = base_next s b l.ent (top w) v k item key object last E.next (decoded (encoded item)) (decoded_encoded item item_fits);
            fresh = λ z. turn_object (front l) (encoded item) (encoded key) k (eqb k 0) last object ∙ E.next.over ∙ ap is_map (sym (means_same (Some (record { item = item; key = key; object = object; last = last })) E)) ∙ z;
          }

          pub each_again : (turn' : RustOption Told) → ((t : ℕ) → Stands s b l₂.ent t v → TurnAt s b l₂.ent t v (k + 1) turn') → EachGoing l₂ (k + 1) turn'
          each_again turn' u =
              let n : k + 1 ≡ suc k = add-one k in
              subst (λ (i : ℕ). EachGoing l₂ i turn') (sym n)
              (record {
                going = each_more s b o w r v q.stands ns T l k E.going E.anew E.scope item key object last E.next item_fits key_fits l₂ body e;
                anew = λ x. ap (F x) (each_more_block s b o w r v q.stands ns T l k E.going E.anew E.scope item key object last E.next item_fits key_fits l₂ body e);
                scope = subst (EachScope s b v ns J (suc k)) (sym front_is) scope_again;
                next = subst (λ (i : ℕ). TurnAt s b l₂.ent (top w) v i turn') n (u (top w) still);
              })
