-- The rule of a decorator against what the code finds, step by step. s is the plan, b the bundle.
use Rattle.std.specs.Prelude.{ℕ, suc, ◌+◌, ◌-◌, ◌≤◌, Bool, true, false, List, [], ◌∷◌, ◌≡◌, length, take, Option as RustOption, Some, None}
use Rattle.std.proofs.Math.Option.{Option, none, some}
use Rattle.std.proofs.Math.Path.{refl}
use Rattle.std.proofs.Common.{sym, ap, ap₂, ◌∙◌, subst, arith, length-take-le}
use Rattle.rules.specs.Bytes.{Bytes, pick}
use Rattle.rules.specs.Bits.{Bits, bits}
use Rattle.rules.specs.Json.{as_str}
use Rattle.rules.specs.Bundle.{string, body}
use Rattle.rules.specs.Plan.{answer}
use Rattle.rules.specs.Template.{Template, Call}
use Rattle.rules.specs.Error.{RenderErrorReason, got, bad, indent-limit, decorator-not-found, param-not-found-for-index, block-content-required}
use Rattle.rules.specs.Value.{ScopedJson, as_json, render}
use Rattle.rules.specs.State as rules
use Rattle.rules.specs.State.{Res, ok, fail, choose, either, or_fail, entries}
use Rattle.rules.specs.Registry.{Registry, paper_limits, is_inline}
use Rattle.rules.specs.BlockUtil as block-util
use Rattle.rules.specs.Expand.{try_from_template}
use Rattle.rules.specs.Inline.{inline}
use Rattle.rules.specs.Render.{join_indent, indent_fits, eval_decorator}
use Rattle.parts.specs.Holds.{Holds}
use Rattle.parts.specs.Says.{MaybeHolds, indent_says}
use Rattle.calls.specs.Calls.{call_at}
use Rattle.places.specs.Places.{json_at}
use Rattle.value.specs.declared.Value.{Value}
use Rattle.value.specs.Numbers.{Fits, encoded, decoded, decoded_encoded}
use Rattle.meaning.specs.Entries.{low}
use Rattle.meaning.specs.Meaning.{json_of, scoped_of}
use Rattle.meaning.specs.Standing.{Stands}
use Rattle.meaning.specs.Means.{Means}
use Rattle.entries.specs.Stored.{stored, stored_length}
use Rattle.scope.specs.Scopes.{partials_of}
use Rattle.scope.specs.Standing.{ScopeStands}
use Rattle.expand.specs.declared.Options.{Options}
use Rattle.expand.specs.declared.Expanded.{Expanded}
use Rattle.expand.specs.Answers.{Setting, name_of, Begins, IsExpanded, IsTemplate, ExpandedHeld}
use Rattle.expand.proofs.Calling.{as_json_of}
use Rattle.including.specs.ValuesLaws.{stands_fits, encoded_near}
use Rattle.decorators.specs.declared.Inlined.{Inlined}
use Rattle.decorators.specs.declared.Inlined.TheVariants.{Bad, New, Again}
use Rattle.decorators.specs.Indents.{own, OwnStands}
use Rattle.decorators.specs.Inlined.{has_body, newest, Defines, InlinedIs, Inlining, Inlines}
use Rattle.decorators.specs.Defined.{Holding, body_at, holds_new, holds_again}
use Rattle.state.specs.Context.{RenderContext}
use Rattle.state.specs.Setters.{failed}
use Rattle.state.specs.World.{World, world, over, front, top, abs, Ready, Goes, Draws}
use Rattle.state.specs.Laws.{draws_fail}
use Rattle.state.specs.Steps.{blocks_abs, depth_abs}
use Rattle.inlining.specs.Decorated.{is_at, place_of, with_body, template_says, context_after, entries_after, Keepable, Leaves, SomeReady, Given, Decorates}
use Rattle.inlining.specs.Defining.{abs_defining, goes_defining, abs_changing, goes_changing}
use Rattle.error.specs.declared.RenderErrorReason.TheVariants.{BlockContentRequired, DecoratorNotFound, IndentLimit, ParamNotFoundForIndex}
use Rattle.error.specs.declared.RenderErrorReason.{RenderErrorReason as Reason}
use Rattle.error.specs.Reasons.{refusal, not_none}

-- The rule

module _ (g : Registry) (st : rules.RenderContext) (C : Call) (T : Option Template) (I : Option Bytes) where
  abbrev rule : Res
  rule = eval_decorator g C T I st

  call_refused : (q : RenderErrorReason) → try_from_template g st C ≡ bad q → rule ≡ fail q
  unfolding eval_decorator or_fail
  call_refused q t = rw t

  module _ (e : block-util.Expanded) (t : try_from_template g st C ≡ got e) where
    indent_refused : indent_fits g (join_indent st.kept.indent_string I) ≡ false → rule ≡ fail indent-limit
    unfolding eval_decorator or_fail choose
    indent_refused f = rw (t, f)

    module _ (f : indent_fits g (join_indent st.kept.indent_string I) ≡ true) where
      name_refused : is_inline e.name ≡ false → rule ≡ fail decorator-not-found
      unfolding eval_decorator or_fail choose
      name_refused i = rw (t, f, i)

      past : is_inline e.name ≡ true → rule ≡ inline g e.params T st
      unfolding eval_decorator or_fail choose
      past i = rw (t, f, i)

no_params : (g : Registry) (st : rules.RenderContext) (T : Option Template) (l : List ScopedJson) → 0 ≡ length l → inline g l T st ≡ fail param-not-found-for-index
unfolding inline
no_params g st T [] z = refl
no_params g st T (v ∷ l) z = absurd (omega arith)

no_body : (g : Registry) (st : rules.RenderContext) (v : ScopedJson) (l : List ScopedJson) (n : Bytes) → as_str (as_json v) ≡ some n → inline g (v ∷ l) none st ≡ fail block-content-required
unfolding inline either
no_body g st v l n e = rw e

module _ (s b : Bytes) (ent : List ℕ) (g : Registry) (st : rules.RenderContext) (x : Expanded) (n : Bytes) (str : as_str (json_of s b ent x.first) ≡ some n) where
  one : (v : ScopedJson) (l : List ScopedJson) → v ≡ scoped_of s b ent x.first → inline g (v ∷ l) none st ≡ fail block-content-required
  one v l q = no_body g st v l n (ap as_str (ap as_json q ∙ as_json_of s b ent x.first) ∙ str)

  bare : (l : List ScopedJson) → (length l ≡ 0 → ⊥) → Begins s b ent l x.first x.second → inline g l none st ≡ fail block-content-required
  bare [] z h = absurd (z refl)
  bare (v ∷ []) z h = one v [] h
  bare (v ∷ u ∷ l) z h = one v (u ∷ l) h.0

-- Two words for one thing

own_says : (b : Bits) (m : RustOption ℕ) → own b m ≡ indent_says b m
own_says b (Some p) = refl
own_says b None = refl

pub own_stands : (b : Bits) (m : RustOption ℕ) → MaybeHolds string b m → OwnStands b m
own_stands b (Some p) h = h
own_stands b None h = tt

has_is : (d : ℕ) (b : Bits) (m : RustOption ℕ) → is_at m ≡ has_body (template_says d b m)
has_is d b (Some q) = refl
has_is d b None = refl

-- From a context that may be drawn from

-- a registry that the code could have been handed
abbrev some_registry : Bytes → Options → Registry
some_registry s o = record {
  templates = [];
  plan = json_at s 0;
  options = record { strict_mode = o.strict; recursive_lookup = o.recursive_lookup; guide_truth = o.guide_truth };
  limits = paper_limits 0;
}

some_given : (s : Bytes) (o : Options) → Given s o (some_registry s o)
some_given s o = record { plan = refl; strict = refl; recursive = refl; scopes = refl; indent = refl; entries = refl }

module _ (s b : Bytes) (w : World) (r : Ready s b w) where
  refuses : (n : RustOption Reason) (q : RenderErrorReason) (x : Res) → x ≡ fail q → refusal q ≡ n → Draws s b w (over (failed w.rc n) w) x
  refuses n q x e f = subst (Draws s b w (over (failed w.rc n) w)) (sym e) (draws_fail s b w (over (failed w.rc n) w) q (sym f) r.nowhere r.nameless)

  -- nothing is drawn, and the state is another one
  settles : (w' : World) (q : rules.RenderContext) (x : Res) → x ≡ ok q [] → q ≡ abs s b w' → Goes s b [] w w' → Draws s b w w' x
  settles w' q x e a g = record {
    fine = λ z. record { text = []; is = e ∙ ap (λ (c : rules.RenderContext). ok c []) a; goes = g };
    refused = λ z. absurd (z g.ready.fine);
  }

  setting : (o : Options) (g : Registry) → Given s o g → Setting s b w.ent w.rc.scopes w.rc.used o g (abs s b w) (top w)
  setting o g K = record {
    alike = record { strict = K.strict; scopes = K.scopes; deep = depth_abs s b w r.one };
    plan = K.plan;
    recursive = K.recursive;
    open_scopes = blocks_abs s b w r.one;
    stand = r.scopes;
  }

  indent_now : (abs s b w).kept.indent_string ≡ pick w.rc.writer.has_indent (some (take w.rc.writer.indent w.indent)) none
  unfolding abs
  indent_now = refl

  partials_now : (abs s b w).seen.block_partials ≡ partials_of s b w.ent (front w).inline (front w).count
  unfolding abs
  partials_now = refl

  indent_length : length (take w.rc.writer.indent w.indent) ≡ w.rc.writer.indent
  indent_length = length-take-le w.rc.writer.indent w.indent (omega (arith, r.indent, r.buffer))

  front_stands : ScopeStands s b w.ent (front w)
  front_stands = r.scopes.each (w.rc.used - 1) (omega (arith, r.one))

  fits_value : answer s ≡ 0 → length b ≤ 65536 → (v : Value) → Stands s b w.ent (top w) v → Fits v
  fits_value a le v S = stands_fits s b w.ent (top w) a le (omega (arith, r.enough, r.few)) v S

-- What `inline` answered is done: x is the call worked out, l its parameters

module _ (s b : Bytes) (w : World) (r : Ready s b w) (answers : answer s ≡ 0) (small : length b ≤ 65536) (d : ℕ) (few : d ≤ 16) (x : Expanded) where
  abbrev InlinedSo : Option Template → Res → Inlined → Type 0
  InlinedSo T R y = InlinedIs s b w.ent (top w) (front w) w.rc.total x (abs s b w) T R y

  -- the world behind it; q is the place of the body
  abbrev after : ℕ → Inlined → World
  after q y = world (context_after w.rc y) w.page w.texts w.indent (entries_after (front w) w.ent d q y)

  keepable : (k : Bool) (T : Option Template) (R : Res) (y : Inlined) → InlinedSo T R y → Keepable w.ent (front w) w.rc.used w.rc.total (with_body k y)
  keepable true T R (Bad n) h = tt
  keepable true T R (New v) h = record { name = fits_value s b w r answers small v h.0.stands; most = r.most; near = omega (arith, r.enough, h.2); table = r.table; few = h.2 }
  keepable true T R (Again k v) h = omega (arith, h.1.at, h.1.within, r.enough, r.few, r.table)
  keepable false T R (Bad n) h = tt
  keepable false T R (New v) h = tt
  keepable false T R (Again k v) h = tt

  module _ (q : ℕ) (held : Holds (body 16 d) (bits b) q) (R : Res) where
    new_holds : (v : Value) → InlinedSo (some (body_at b d q)) R (New v)
        → Holding s b w.ent (stored w.ent (top w) (encoded v) d q) (front w) ((front w).count + 1) (name_of s b w.ent v) (body_at b d q)
    new_holds v h =
        let fits : Fits v = fits_value s b w r answers small v h.0.stands in
        let same : decoded (encoded v) ≡ v = decoded_encoded v fits in
        let one : suc (front w).count ≡ (front w).count + 1 = omega arith in
        subst (λ (n : ℕ). Holding s b w.ent (stored w.ent (top w) (encoded v) d q) (front w) n (name_of s b w.ent v) (body_at b d q)) one
        (holds_new s b w.ent (front w) (encoded v) d q (front_stands s b w r) (encoded_near v fits) (omega (arith, r.enough, h.2, r.table)) few held
        (top w) (name_of s b w.ent v) (subst (Stands s b w.ent (top w)) (sym same) h.0.stands)
        (ap (λ (y : Value). as_str (json_of s b w.ent y)) same ∙ h.0.name) h.1)

    again_holds : (k : ℕ) (v : Value) → InlinedSo (some (body_at b d q)) R (Again k v)
        → Holding s b w.ent (stored w.ent k (low w.ent k) d q) (front w) (front w).count (name_of s b w.ent v) (body_at b d q)
    again_holds k v h = holds_again s b w.ent (front w) k d q (front_stands s b w r) (keepable true (some (body_at b d q)) R (Again k v) h) few held (name_of s b w.ent v) h.1

    keeps : (y : Inlined) → InlinedSo (some (body_at b d q)) R y → Draws s b w (after q y) R
    keeps (Bad n) h = refuses s b w r (Some n) h.reason R h.is h.by_reason
    keeps (New v) h =
        let ent' : List ℕ = stored w.ent (top w) (encoded v) d q in
        let same : length ent' ≡ length w.ent = stored_length w.ent (top w) (encoded v) d q in
        let sum : w.rc.total + 1 + (front w).count ≡ w.rc.total + ((front w).count + 1) = omega arith in
        let most : w.rc.total + 1 ≤ 4096 = omega (arith, h.2) in
        settles s b w r (after q (New v)) _ R (h.0.result (body_at b d q) refl)
        (abs_defining s b w r ((front w).count + 1) (w.rc.total + 1) ent' (name_of s b w.ent v) (body_at b d q) (new_holds v h) same sum most)
        (goes_defining s b w r ((front w).count + 1) (w.rc.total + 1) ent' (name_of s b w.ent v) (body_at b d q) (new_holds v h) same sum most)
    keeps (Again k v) h =
        let ent' : List ℕ = stored w.ent k (low w.ent k) d q in
        let same : length ent' ≡ length w.ent = stored_length w.ent k (low w.ent k) d q in
        settles s b w r (after q (Again k v)) _ R (h.0.result (body_at b d q) refl)
        (abs_changing s b w r ent' (name_of s b w.ent v) (body_at b d q) (again_holds k v h) same)
        (goes_changing s b w r ent' (name_of s b w.ent v) (body_at b d q) (again_holds k v h) same)

  module _ (g : Registry) (l : List ScopedJson) (some_there : length l ≡ 0 → ⊥) (begins : Begins s b w.ent l x.first x.second) where
    abbrev rule_of : Option Template → Res
    rule_of T = inline g l T (abs s b w)

    bare_is : (v : Value) → Defines s b w.ent (top w) x (abs s b w) none (rule_of none) v → rule_of none ≡ fail block-content-required
    bare_is v D =
        bare s b w.ent g (abs s b w) x (name_of s b w.ent v) (ap (λ (y : Value). as_str (json_of s b w.ent y)) (sym D.first) ∙ D.name) l some_there begins

    bares : (y : Inlined) → InlinedSo none (rule_of none) y → Draws s b w (after 0 (with_body false y)) (rule_of none)
    bares (Bad n) h = refuses s b w r (Some n) h.reason (rule_of none) h.is h.by_reason
    bares (New v) h = refuses s b w r (Some BlockContentRequired) block-content-required (rule_of none) (bare_is v h.0) refl
    bares (Again k v) h = refuses s b w r (Some BlockContentRequired) block-content-required (rule_of none) (bare_is v h.0) refl

    ends : (m : RustOption ℕ) → MaybeHolds (body 16 d) (bits b) m → (y : Inlined) → InlinedSo (template_says d (bits b) m) (rule_of (template_says d (bits b) m)) y
        → Draws s b w (after (place_of m) (with_body (is_at m) y)) (rule_of (template_says d (bits b) m))
    ends (Some q) held y h = keeps q held (rule_of (some (body_at b d q))) y h
    ends None held y h = bares y h

-- What the code finds, in turn: x is the call worked out

module _ (s b : Bytes) (o : Options) (c : RenderContext) (ent : List ℕ) (p d : ℕ) (m at : RustOption ℕ) (x : Expanded)
    (E : (g : Registry) (st : rules.RenderContext) (t : ℕ) → Setting s b ent c.scopes c.used o g st t → IsTemplate s b ent t (try_from_template g st (call_at d (bits b) p)) x) where
  abbrev Is : RenderContext → List ℕ → Type 0
  Is r ent' = Decorates s b c r ent ent' o p m at d

  at_bad : (x.bad ≡ None → ⊥) → Is (failed c x.bad) ent
  at_bad n g page texts indent K r =
      let w : World = world c page texts indent ent in
      let R = (E g (abs s b w) (top w) (setting s b w r o g K)).refused n in
      refuses s b w r x.bad R.reason _ (call_refused g (abs s b w) (call_at d (bits b) p) _ _ R.reason R.is) R.by_reason

  pub at_call : (n : Reason) → x.bad ≡ Some n → Is (failed c (Some n)) ent
  at_call n q = subst (λ (k : RustOption Reason). Is (failed c k) ent) q (at_bad (not_none n q))

  module _ (z : x.bad ≡ None) where
    abbrev pub FitsSo : Bool → Type 0
    FitsSo y = (g : Registry) (v : Bytes) → g.limits.indent ≡ 256 → length v ≡ c.writer.indent → y ≡ indent_fits g (join_indent (pick c.writer.has_indent (some v) none) (own (bits b) at))

    abbrev pub NamedSo : Bool → Type 0
    NamedSo y = Means s b x.name (λ j. y ≡ is_inline (render j))

    -- in a world that may be drawn from
    module _ (g : Registry) (page texts indent : Bytes) (K : Given s o g) (r : Ready s b (world c page texts indent ent)) where
      abbrev w : World
      w = world c page texts indent ent

      abbrev C : Call
      C = call_at d (bits b) p

      abbrev T : Option Template
      T = template_says d (bits b) m

      abbrev I : Option Bytes
      I = indent_says (bits b) at

      worked : (e : block-util.Expanded) × (try_from_template g (abs s b w) C ≡ got e) × IsExpanded s b ent (top w) x e
      worked = (E g (abs s b w) (top w) (setting s b w r o g K)).fine z

      fits_is : (y : Bool) → FitsSo y → indent_fits g (join_indent (abs s b w).kept.indent_string I) ≡ y
      fits_is y f =
          ap₂ (λ (i j : Option Bytes). indent_fits g (join_indent i j)) (indent_now s b w r) (sym (own_says (bits b) at))
          ∙ sym (f g (take c.writer.indent indent) K.indent (indent_length s b w r))

      name_is : (y : Bool) → NamedSo y → is_inline worked.0.name ≡ y
      name_is y f = ap is_inline worked.2.name ∙ sym (f.at ent (top w) worked.2.name_stands)

      inlining : Inlining s b ent (front w) c.total x (is_at m) g (abs s b w) (top w) worked.0 T
      inlining = record {
        partials = partials_now s b w r;
        expanded = worked.2;
        limit = K.entries;
        total = sym r.total;
        few = r.few;
        content = has_is d (bits b) m;
      }

      some_there : (x.count ≡ 0 → ⊥) → length worked.0.params ≡ 0 → ⊥
      some_there n e = n (worked.2.params.count ∙ e)

      pub held : ExpandedHeld s b ent x
      held = record { used = top w; room = r.scopes.entries; name = worked.2.name_stands; first = worked.2.params.first; second = worked.2.params.second }

    pub at_indent : FitsSo false → Is (failed c (Some IndentLimit)) ent
    at_indent f g page texts indent K r =
        let k = worked g page texts indent K r in
        refuses s b (world c page texts indent ent) r (Some IndentLimit) indent-limit _ (indent_refused g _ _ _ _ k.0 k.1 (fits_is g page texts indent K r false f)) refl

    module _ (f : FitsSo true) where
      pub at_name : NamedSo false → Is (failed c (Some DecoratorNotFound)) ent
      at_name n g page texts indent K r =
          let k = worked g page texts indent K r in
          refuses s b (world c page texts indent ent) r (Some DecoratorNotFound) decorator-not-found _
          (name_refused g _ _ _ _ k.0 k.1 (fits_is g page texts indent K r true f) (name_is g page texts indent K r false n)) refl

      module _ (n : NamedSo true) where
        past_all : (g : Registry) (page texts indent : Bytes) (K : Given s o g) (r : Ready s b (world c page texts indent ent))
            → eval_decorator g (call_at d (bits b) p) (template_says d (bits b) m) (indent_says (bits b) at) (abs s b (world c page texts indent ent))
            ≡ inline g (worked g page texts indent K r).0.params (template_says d (bits b) m) (abs s b (world c page texts indent ent))
        past_all g page texts indent K r =
            let k = worked g page texts indent K r in
            past g _ _ _ _ k.0 k.1 (fits_is g page texts indent K r true f) (name_is g page texts indent K r true n)

        pub at_none : x.count ≡ 0 → Is (failed c (Some ParamNotFoundForIndex)) ent
        at_none e g page texts indent K r =
            let k = worked g page texts indent K r in
            refuses s b (world c page texts indent ent) r (Some ParamNotFoundForIndex) param-not-found-for-index _
            (past_all g page texts indent K r ∙ no_params g _ _ k.0.params (sym e ∙ k.2.params.count)) refl

        module _ (there : x.count ≡ 0 → ⊥) (answers : answer s ≡ 0) (small : length b ≤ 65536) (few : d ≤ 16) (y : Inlined) (Y : Inlines s b ent (newest c.scopes c.used) c.total x (is_at m) y) where
          pub at_end : MaybeHolds (body 16 d) (bits b) m → Is (context_after c (with_body (is_at m) y)) (entries_after (newest c.scopes c.used) ent d (place_of m) (with_body (is_at m) y))
          at_end held-body g page texts indent K r =
              let k = worked g page texts indent K r in
              let v : World = world c page texts indent ent in
              subst (Draws s b v (world (context_after c (with_body (is_at m) y)) page texts indent (entries_after (newest c.scopes c.used) ent d (place_of m) (with_body (is_at m) y)))) (sym (past_all g page texts indent K r))
              (ends s b v r answers small d few x g k.0.params (some_there g page texts indent K r there) k.2.params.begins m held-body y
              (Y g (abs s b v) (top v) k.0 (template_says d (bits b) m) (inlining g page texts indent K r)))

    -- what the calls on the way ask for
    module _ (R : SomeReady s b c ent) where
      pub some_held : ExpandedHeld s b ent x
      some_held = held (some_registry s o) R.page R.texts R.indent (some_given s o) R.ready

      pub some_keepable : answer s ≡ 0 → length b ≤ 65536 → d ≤ 16 → (y : Inlined) → Inlines s b ent (newest c.scopes c.used) c.total x (is_at m) y → Keepable ent (newest c.scopes c.used) c.used c.total (with_body (is_at m) y)
      some_keepable answers small few y Y =
          let g : Registry = some_registry s o in
          let k = worked g R.page R.texts R.indent (some_given s o) R.ready in
          let v : World = world c R.page R.texts R.indent ent in
          keepable s b v R.ready answers small d few x (is_at m) _ _ y
          (Y g (abs s b v) (top v) k.0 (template_says d (bits b) m) (inlining g R.page R.texts R.indent (some_given s o) R.ready))

-- Answers

pub leaves : (c r : RenderContext) (ent ent' : List ℕ) (d : ℕ) (m : RustOption ℕ) → c.bad ≡ None → (y : Inlined) → r ≡ context_after c y → ent' ≡ entries_after (newest c.scopes c.used) ent d (place_of m) y → Leaves c r ent ent' d m
leaves c r ent ent' d m z y e t = record { answer = y; context = e; table = t; refused = λ n. t ∙ same y (λ q. n (ap (λ (k : RenderContext). k.bad) e ∙ q)) }
  where
    same : (y : Inlined) → ((context_after c y).bad ≡ None → ⊥) → entries_after (newest c.scopes c.used) ent d (place_of m) y ≡ ent
    same (Bad k) n = refl
    same (New v) n = absurd (n z)
    same (Again k v) n = absurd (n z)

module _ (s b : Bytes) (o : Options) (c r : RenderContext) (ent : List ℕ) (p d : ℕ) (m at : RustOption ℕ) (z : c.bad ≡ None) where
  pub refused_so : (n : Reason) → r ≡ failed c (Some n) → Decorates s b c (failed c (Some n)) ent ent o p m at d → Leaves c r ent ent d m × Decorates s b c r ent ent o p m at d
  refused_so n e D = (leaves c r ent ent d m z (Bad n) e refl, subst (λ (k : RenderContext). Decorates s b c k ent ent o p m at d) (sym e) D)

  pub kept_so : (ent' : List ℕ) (q : ℕ) (y v : Inlined) → y ≡ v → q ≡ place_of m → r ≡ context_after c y → ent' ≡ entries_after (newest c.scopes c.used) ent d q y
      → Decorates s b c (context_after c v) ent (entries_after (newest c.scopes c.used) ent d (place_of m) v) o p m at d → Leaves c r ent ent' d m × Decorates s b c r ent ent' o p m at d
  kept_so ent' q y v i j e t D =
      let e' : r ≡ context_after c v = e ∙ ap (context_after c) i in
      let t' : ent' ≡ entries_after (newest c.scopes c.used) ent d (place_of m) v = t ∙ ap₂ (entries_after (newest c.scopes c.used) ent d) j i in (
        leaves c r ent ent' d m z v e' t',
        subst (λ (k : RenderContext). Decorates s b c k ent ent' o p m at d) (sym e')
            (subst (λ (k : List ℕ). Decorates s b c (context_after c v) ent k o p m at d) (sym t') D),
      )
