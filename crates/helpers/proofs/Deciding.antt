-- What the five helpers are about to do.
use Prim.Native.Nat.{ℕ, ◌≤◌, ◌<◌}
use native.Mathlib.Omega.{arith}
use mathlib.Core.Bool.{Bool, true, false, not}
use mathlib.Core.List.{List, [], ◌∷◌}
use mathlib.Core.Option.{Option, none, some}
use mathlib.Core.Path.{◌≡◌, refl, sym, ap, ap₂, ◌∙◌, subst}
use lib.Dec.{ltb}
use lib.ListN.{length}
use borrow.Author.Tests.{ltb-true}
use Rattle.rules.specs.Bytes.{Bytes, pick, maybe}
use Rattle.rules.specs.Json.{Json, jnull, jbool, jpos, jneg, jstr, jarr, jobj, jnil, jcons, mnil, mcons}
use Rattle.rules.specs.Template.{BlockParam}
use Rattle.rules.specs.Error as rule
use Rattle.rules.specs.Error.{RenderErrorReason, number, got, bad, missing-variable, param-not-found-for-index, scopes-limit}
use Rattle.rules.specs.Value.{ScopedJson, derived, as_json, render, is_truthy}
use Rattle.rules.specs.Block.{BlockContext}
use Rattle.rules.specs.State.{RenderContext, Res, ok, Draw, fail, choose, or_fail, push_block, pop_block, ◌after◌}
use Rattle.rules.specs.Registry as registry
use Rattle.rules.specs.Registry.{Registry}
use Rattle.rules.specs.Output.{do_escape, indent_aware_write}
use Rattle.rules.specs.BlockUtil as block-util
use Rattle.rules.specs.BlockUtil.{Drawable, render_or_nothing, render_inverse, create_block, in_block}
use Rattle.rules.specs.HelperEach.{Turn, turn_block, turns, each_turn, each_of, each_helper}
use Rattle.rules.specs.HelperWith.{with_block, with_helper}
use Rattle.rules.specs.HelperIf as helper-if
use Rattle.rules.specs.HelperIf.{if_helper}
use Rattle.rules.specs.HelperLookup.{looked_up, lookup_inner}
use Rattle.rules.specs.Helpers.{lookup_helper, call_helper}
use Rattle.value.specs.declared.Value.{Value}
use Rattle.value.specs.declared.Value.TheVariants.{Missing, Null, False, True, Empty, Context, Place, Literal, Index, IndexText, Name, Text, SaidChar, PackedChar, Merged}
use Rattle.meaning.specs.Meaning.{is_missing, json_of, scoped_of}
use Rattle.meaning.specs.MeaningLaws.{plain_is}
use Rattle.meaning.specs.Standing.{plain}
use Rattle.meaning.specs.Means.{Means}
use Rattle.lookup.specs.Answers.{IsFound}
use Rattle.members.specs.Turns.{each_turns}
use Rattle.expand.specs.declared.Options.{Options}
use Rattle.expand.specs.declared.Expanded.{Expanded}
use Rattle.expand.specs.declared.HelperDef.{HelperDef}
use Rattle.expand.specs.declared.HelperDef.TheVariants as helper
use Rattle.expand.specs.Answers.{Begins, IsExpanded, helper_of}
use Rattle.helpers.specs.declared.Does.{Does}
use Rattle.helpers.specs.declared.Does.TheVariants.{Bad, Nothing, Template, Inverse, Within, Turns, Write}
use Rattle.helpers.specs.Does.{Guided, has, Fails, Helps, Helping, Decides, unless_strict, inverse, in_scope, branch, truth, is_collection}
use Rattle.error.specs.declared.RenderErrorReason.TheVariants.{HelperNotFound, ParamNotFoundForIndex, ScopesLimit}
use Rattle.error.specs.Reasons.{refusal}

-- Values and bodies

pub as_json_of : (s b : Bytes) (ent : List ℕ) (v : Value) → as_json (scoped_of s b ent v) ≡ json_of s b ent v
as_json_of s b ent Missing = sym (plain_is s b ent Missing refl)
as_json_of s b ent Null = refl
as_json_of s b ent False = refl
as_json_of s b ent True = refl
as_json_of s b ent Empty = refl
as_json_of s b ent (Context i) = refl
as_json_of s b ent (Place i) = refl
as_json_of s b ent (Literal p) = refl
as_json_of s b ent (Index n) = refl
as_json_of s b ent (IndexText n) = refl
as_json_of s b ent (Name o) = refl
as_json_of s b ent (Text p) = refl
as_json_of s b ent (SaidChar o n) = refl
as_json_of s b ent (PackedChar p n) = refl
as_json_of s b ent (Merged h n) = refl

clash : {C : Type 0} → true ≡ false → C
clash e = let z : ◌≡◌ {A = ℕ} 0 1 = cc in absurd (omega arith)

pub has_none : {A : Type 0} (x : Option A) → has x ≡ false → x ≡ none
has_none none q = refl
has_none (some a) q = clash q

same_some : {A : Type 0} {x : Option A} {a c : A} → x ≡ some a → x ≡ some c → a ≡ c
same_some {a = a} p q = ap (λ y. maybe y a (λ z. z)) (sym p ∙ q)

pub has_some : {A : Type 0} (x : Option A) → has x ≡ true → (a : A) × (x ≡ some a)
has_some none q = clash (sym q)
has_some (some a) q = (a, refl)

pub fails : (r : RenderErrorReason) (x : Res) → x ≡ fail r → Fails x (refusal r)
fails r x e = record { reason = r; is = e; by_reason = refl }

-- What the rules give

-- a scope that is closed again at once
closed : (B : BlockContext) (st : RenderContext) → (pop_block after ok (push_block B st) []) ≡ ok st []
unfolding ◌after◌
closed B st = refl

module _ (g : Registry) (v : ScopedJson) (ns : BlockParam) (D : Draw) (st : RenderContext) where
  each_other : (I : Drawable) (j : Json) → is_collection j ≡ false → each_of g v ns D I j st ≡ render_inverse g I st
  unfolding each_of
  each_other I jnull q = refl
  each_other I (jbool b) q = refl
  each_other I (jpos n) q = refl
  each_other I (jneg n) q = refl
  each_other I (jstr t) q = refl
  each_other I (jarr l) q = clash q
  each_other I (jobj m) q = clash q

  some_turn : (I : Drawable) (x : Turn) (l : List Turn) → each_turn g v ns D I (x ∷ l) st ≡ in_block g (create_block v) (turns (turn_block v ns) D (x ∷ l)) st
  unfolding each_turn
  some_turn none x l = refl
  some_turn (some d) x l = refl

  each_full : (I : Drawable) (j : Json) → is_collection j ≡ true → is_truthy false j ≡ true
      → each_of g v ns D I j st ≡ in_block g (create_block v) (turns (turn_block v ns) D (each_turns j)) st
  unfolding each_of
  each_full I jnull q p = clash (sym q)
  each_full I (jbool b) q p = clash (sym q)
  each_full I (jpos n) q p = clash (sym q)
  each_full I (jneg n) q p = clash (sym q)
  each_full I (jstr t) q p = clash (sym q)
  each_full I (jarr jnil) q p = clash (sym p)
  each_full I (jarr (jcons j l)) q p = some_turn I _ _
  each_full I (jobj mnil) q p = clash (sym p)
  each_full I (jobj (mcons k j m)) q p = some_turn I _ _

  each_empty : (I : Drawable) (j : Json) → is_collection j ≡ true → is_truthy false j ≡ false → each_of g v ns D I j st ≡ each_turn g v ns D I [] st
  unfolding each_of
  each_empty I jnull q p = clash (sym q)
  each_empty I (jbool b) q p = clash (sym q)
  each_empty I (jpos n) q p = clash (sym q)
  each_empty I (jneg n) q p = clash (sym q)
  each_empty I (jstr t) q p = clash (sym q)
  each_empty I (jarr jnil) q p = refl
  each_empty I (jarr (jcons j l)) q p = clash p
  each_empty I (jobj mnil) q p = refl
  each_empty I (jobj (mcons k j m)) q p = clash p

-- what is true is not missing
truthy_present : (s b : Bytes) (ent : List ℕ) (v : Value) → is_truthy false (json_of s b ent v) ≡ true → is_missing v ≡ false
truthy_present s b ent Missing e = clash (sym e ∙ ap (is_truthy false) (plain_is s b ent Missing refl))
truthy_present s b ent Null e = refl
truthy_present s b ent False e = refl
truthy_present s b ent True e = refl
truthy_present s b ent Empty e = refl
truthy_present s b ent (Context i) e = refl
truthy_present s b ent (Place i) e = refl
truthy_present s b ent (Literal p) e = refl
truthy_present s b ent (Index n) e = refl
truthy_present s b ent (IndexText n) e = refl
truthy_present s b ent (Name o) e = refl
truthy_present s b ent (Text p) e = refl
truthy_present s b ent (SaidChar o n) e = refl
truthy_present s b ent (PackedChar p n) e = refl
truthy_present s b ent (Merged h n) e = refl

-- a boolean is true as it says, by either truth
truth_of_bool : (guide z x : Bool) → x ≡ truth guide z (jbool x)
truth_of_bool true z x = refl
truth_of_bool false z x = refl

pub true_means : (s b : Bytes) (guide z : Bool) (v : Value) → v ≡ True → Means s b v (λ j. true ≡ truth guide z j)
true_means s b guide z v e = record { at = λ ent t st. truth_of_bool guide z true ∙ ap (truth guide z) (sym (ap (json_of s b ent) e ∙ plain_is s b ent True refl)) }

pub false_means : (s b : Bytes) (guide z : Bool) (v : Value) → v ≡ False → Means s b v (λ j. false ≡ truth guide z j)
false_means s b guide z v e = record { at = λ ent t st. truth_of_bool guide z false ∙ ap (truth guide z) (sym (ap (json_of s b ent) e ∙ plain_is s b ent False refl)) }

-- Against the code

module _ (s b : Bytes) (ent : List ℕ) (t used : ℕ) (o : Options) (w : Expanded) (g : Registry) (st : RenderContext) (e : block-util.Expanded) (ns : BlockParam) (T I : Drawable) where
  abbrev Is : Res → Does → Type 0
  Is x r = Helps s b ent t used ns T I st x r

  -- the first parameter
  abbrev v : ScopedJson
  v = scoped_of s b ent w.first

  abbrev j : Json
  j = json_of s b ent w.first

  module _ (G : Guided used o g st) (E : IsExpanded s b ent t w e) where
    no_param : w.count ≡ 0 → e.params ≡ []
    no_param z = go e.params E.params.count
      where
        go : (l : List ScopedJson) → w.count ≡ length l → l ≡ []
        go [] n = refl
        go (x ∷ l) n = absurd (omega arith)

    one_param : (w.count ≡ 0 → ⊥) → (l : List ScopedJson) × (e.params ≡ v ∷ l)
    one_param z = go e.params E.params.count E.params.begins
      where
        go : (l : List ScopedJson) → w.count ≡ length l → Begins s b ent l w.first w.second → (k : List ScopedJson) × (l ≡ v ∷ k)
        go [] n h = absurd (z n)
        go (x ∷ []) n h = ([], ap (λ (y : ScopedJson). y ∷ []) h)
        go (x ∷ y ∷ l) n h = (y ∷ l, ap (λ (z : ScopedJson). z ∷ y ∷ l) h.0)

    inverse_given : (hi : Bool) → hi ≡ has I → (r : Does) → r ≡ inverse o.strict hi → Is (render_inverse g I st) r
    unfolding render_inverse choose
    inverse_given hi p r q = subst (Is (render_inverse g I st)) (sym (q ∙ ap (inverse o.strict) p)) (go I o.strict G.alike.strict)
      where
        strictly : (c : Bool) → g.options.strict_mode ≡ c → render_inverse g none st ≡ choose c (λ _. fail missing-variable) (λ _. ok st [])
        strictly c h = ap (λ (x : Bool). choose x (λ _. fail missing-variable) (λ _. ok st [])) h

        go : (J : Drawable) (c : Bool) → g.options.strict_mode ≡ c → Helps s b ent t used ns T J st (render_inverse g J st) (inverse c (has J))
        go (some d) c h = refl
        go none true h = fails missing-variable _ (strictly true h)
        go none false h = strictly false h

    -- under one more scope
    block_given : (B : BlockContext) (d : Draw) (a : Does) → (used < 32 → Is (pop_block after d (push_block B st)) a) → (r : Does) → r ≡ in_scope used a → Is (in_block g B d st) r
    unfolding in_block choose
    block_given B d a h r q = subst (Is (in_block g B d st)) (sym q) (go (ltb used 32) refl)
      where
        outcome : (c : Bool) → ltb used 32 ≡ c → in_block g B d st ≡ choose c (λ _. pop_block after d (push_block B st)) (λ _. fail scopes-limit)
        outcome c p = ap (λ (x : Bool). choose x (λ _. pop_block after d (push_block B st)) (λ _. fail scopes-limit)) (ap₂ ltb G.alike.deep G.alike.scopes ∙ p)

        go : (c : Bool) → ltb used 32 ≡ c → Is (in_block g B d st) (pick c a (Bad ScopesLimit))
        go true p = subst (λ (x : Res). Is x a) (sym (outcome true p)) (h (ltb-true used 32 p))
        go false p = fails scopes-limit _ (outcome false p)

    -- each

    pub each_none : w.count ≡ 0 → Is (each_helper g e.params ns T I st) (Bad ParamNotFoundForIndex)
    unfolding each_helper
    each_none z = fails param-not-found-for-index _ (ap (λ (l : List ScopedJson). each_helper g l ns T I st) (no_param z))

    pub each_bodiless : (w.count ≡ 0 → ⊥) → has T ≡ false → Is (each_helper g e.params ns T I st) Nothing
    unfolding each_helper
    each_bodiless z p =
        ap (λ (l : List ScopedJson). each_helper g l ns T I st) (one_param z).1 ∙ ap (λ (D : Drawable). each_helper g (v ∷ (one_param z).0) ns D I st) (has_none T p)

    each_over : (w.count ≡ 0 → ⊥) → (D : Draw) → T ≡ some D → each_helper g e.params ns T I st ≡ each_of g v ns D I j st
    unfolding each_helper
    each_over z D p =
        ap (λ (l : List ScopedJson). each_helper g l ns T I st) (one_param z).1
        ∙ ap (λ (D : Drawable). each_helper g (v ∷ (one_param z).0) ns D I st) p
        ∙ ap (λ (x : Json). each_of g v ns D I x st) (as_json_of s b ent w.first)

    each_so : (w.count ≡ 0 → ⊥) → has T ≡ true → (x : Draw → Res) → ((D : Draw) → each_of g v ns D I j st ≡ x D) → (r : Does)
        → ((D : Draw) → T ≡ some D → Is (x D) r) → Is (each_helper g e.params ns T I st) r
    each_so z p x f r h =
        let d = has_some T p in
        subst (λ (y : Res). Is y r) (sym (each_over z d.0 d.1 ∙ f d.0)) (h d.0 d.1)

    pub each_scalar : (w.count ≡ 0 → ⊥) → has T ≡ true → is_collection j ≡ false → (hi : Bool) → hi ≡ has I → (r : Does) → r ≡ inverse o.strict hi
        → Is (each_helper g e.params ns T I st) r
    each_scalar z p c hi q r f = each_so z p (λ D. render_inverse g I st) (λ D. each_other g v ns D st I j c) r (λ D i. inverse_given hi q r f)

    pub each_taken : (w.count ≡ 0 → ⊥) → has T ≡ true → is_collection j ≡ true → is_truthy false j ≡ true → (r : Does) → r ≡ in_scope used (Turns w.first)
        → Is (each_helper g e.params ns T I st) r
    each_taken z p c h r f =
        each_so z p (λ D. in_block g (create_block v) (turns (turn_block v ns) D (each_turns j)) st) (λ D. each_full g v ns D st I j c h) r (λ D i.
        block_given (create_block v) (turns (turn_block v ns) D (each_turns j)) (Turns w.first) (λ lt. record {
          drawn = p;
          is = λ C k. ap (λ (X : Draw). pop_block after turns (turn_block v ns) X (each_turns j) (push_block (create_block v) st)) (same_some i k);
          stands = E.params.first;
          present = truthy_present s b ent w.first h;
          room = lt;
        }) r f)

    pub each_inverse : (w.count ≡ 0 → ⊥) → has T ≡ true → is_collection j ≡ true → is_truthy false j ≡ false → has I ≡ true → Is (each_helper g e.params ns T I st) Inverse
    unfolding each_turn
    each_inverse z p c h q = each_so z p (λ D. render_or_nothing I st) (λ D. each_empty g v ns D st I j c h ∙ go D I q) Inverse (λ D i. refl)
      where
        go : (D : Draw) (J : Drawable) → has J ≡ true → each_turn g v ns D J [] st ≡ render_or_nothing J st
        go D none q = clash (sym q)
        go D (some d) q = refl

    pub each_closed : (w.count ≡ 0 → ⊥) → has T ≡ true → is_collection j ≡ true → is_truthy false j ≡ false → has I ≡ false → (r : Does) → r ≡ in_scope used Nothing
        → Is (each_helper g e.params ns T I st) r
    unfolding each_turn
    each_closed z p c h q r f =
        each_so z p (λ D. in_block g (create_block v) (λ u. ok u []) st) (λ D. each_empty g v ns D st I j c h ∙ ap (λ (J : Drawable). each_turn g v ns D J [] st) (has_none I q)) r
        (λ D i. block_given (create_block v) (λ u. ok u []) Nothing (λ lt. closed (create_block v) st) r f)

    -- with

    pub with_none : w.count ≡ 0 → Is (with_helper g e.params ns T I st) (Bad ParamNotFoundForIndex)
    unfolding with_helper
    with_none z = fails param-not-found-for-index _ (ap (λ (l : List ScopedJson). with_helper g l ns T I st) (no_param z))

    with_some : (w.count ≡ 0 → ⊥) → (c : Bool) → is_truthy false j ≡ c
        → with_helper g e.params ns T I st ≡ choose c (λ _. in_block g (with_block st ns v) (render_or_nothing T) st) (λ _. render_inverse g I st)
    unfolding with_helper
    with_some z c q =
        ap (λ (l : List ScopedJson). with_helper g l ns T I st) (one_param z).1
        ∙ ap (λ (x : Bool). choose x (λ _. in_block g (with_block st ns v) (render_or_nothing T) st) (λ _. render_inverse g I st)) (ap (is_truthy false) (as_json_of s b ent w.first) ∙ q)

    pub with_true : (w.count ≡ 0 → ⊥) → is_truthy false j ≡ true → (r : Does) → r ≡ in_scope used (Within w.first) → Is (with_helper g e.params ns T I st) r
    unfolding choose
    with_true z q r f =
        subst (λ (x : Res). Is x r) (sym (with_some z true q))
        (block_given (with_block st ns v) (render_or_nothing T) (Within w.first) (λ lt. record { is = refl; stands = E.params.first; present = truthy_present s b ent w.first q; room = lt }) r f)

    pub with_false : (w.count ≡ 0 → ⊥) → is_truthy false j ≡ false → (hi : Bool) → hi ≡ has I → (r : Does) → r ≡ inverse o.strict hi → Is (with_helper g e.params ns T I st) r
    unfolding choose
    with_false z q hi p r f = subst (λ (x : Res). Is x r) (sym (with_some z false q)) (inverse_given hi p r f)

    -- if and unless

    pub if_none : (positive : Bool) → w.count ≡ 0 → Is (if_helper g positive e.params e.hash T I st) (Bad ParamNotFoundForIndex)
    unfolding if_helper
    if_none positive z = fails param-not-found-for-index _ (ap (λ (l : List ScopedJson). if_helper g positive l e.hash T I st) (no_param z))

    truth_is : helper-if.truth g e.hash (as_json v) ≡ truth o.guide_truth w.zero j
    truth_is =
        ap₂ (λ (x y : Bool). truth x y (as_json v)) G.guide E.zero
        ∙ ap (truth o.guide_truth w.zero) (as_json_of s b ent w.first)

    pub if_some : (positive : Bool) → (w.count ≡ 0 → ⊥) → (c : Bool) → truth o.guide_truth w.zero j ≡ c → (r : Does) → r ≡ branch (pick c positive (not positive))
        → Is (if_helper g positive e.params e.hash T I st) r
    unfolding if_helper choose
    if_some positive z c q r f = subst (Is (if_helper g positive e.params e.hash T I st)) (sym f) (drawn positive c (chosen c q))
      where
        chosen : (c : Bool) → truth o.guide_truth w.zero j ≡ c
            → if_helper g positive e.params e.hash T I st
            ≡ choose c (λ _. render_or_nothing (pick positive T I) st) (λ _. render_or_nothing (pick positive I T) st)
        chosen c q =
            ap (λ (l : List ScopedJson). if_helper g positive l e.hash T I st) (one_param z).1
            ∙ ap (λ (x : Bool). choose x (λ _. render_or_nothing (pick positive T I) st) (λ _. render_or_nothing (pick positive I T) st)) (truth_is ∙ q)

        drawn : (a c : Bool) → {x : Res} → x ≡ choose c (λ _. render_or_nothing (pick a T I) st) (λ _. render_or_nothing (pick a I T) st) → Is x (branch (pick c a (not a)))
        drawn true true h = h
        drawn true false h = h
        drawn false true h = h
        drawn false false h = h

    -- lookup

    pub lookup_few : w.count < 2 → Is (lookup_helper g e.params st) (Bad ParamNotFoundForIndex)
    unfolding lookup_helper or_fail
    lookup_few lt = go e.params E.params.count
      where
        go : (l : List ScopedJson) → w.count ≡ length l → Is (lookup_helper g l st) (Bad ParamNotFoundForIndex)
        go [] n = fails param-not-found-for-index _ refl
        go (x ∷ []) n = fails param-not-found-for-index _ refl
        go (x ∷ y ∷ l) n = absurd (omega arith)

    abbrev lookup_outcome : Option Json → rule.Got ScopedJson
    lookup_outcome x = maybe x (pick o.strict (bad missing-variable) (got (derived jnull))) (λ j. got (derived j))

    lookup_two : 2 ≤ w.count → lookup_inner g e.params ≡ lookup_outcome (looked_up j (json_of s b ent w.second))
    lookup_two ge = go e.params E.params.count E.params.begins
      where
        go : (l : List ScopedJson) → w.count ≡ length l → Begins s b ent l w.first w.second → lookup_inner g l ≡ lookup_outcome (looked_up j (json_of s b ent w.second))
        go [] n h = absurd (omega arith)
        go (x ∷ []) n h = absurd (omega arith)
        go (x ∷ y ∷ l) n h = rw (ap as_json h.0 ∙ as_json_of s b ent w.first, ap as_json h.1 ∙ as_json_of s b ent w.second, G.alike.strict)

    -- what is written
    abbrev shows : Json → Res
    shows x = indent_aware_write (do_escape st (render x)) st

    lookup_so : 2 ≤ w.count → (x : Option Json) → looked_up j (json_of s b ent w.second) ≡ x → lookup_helper g e.params st ≡ or_fail (lookup_outcome x) (λ y. shows (as_json y))
    unfolding lookup_helper
    lookup_so ge x q = ap (λ (y : rule.Got ScopedJson). or_fail y (λ y. shows (as_json y))) (lookup_two ge ∙ ap lookup_outcome q)

    pub lookup_found : 2 ≤ w.count → (x : Value) → IsFound s b ent w.first (looked_up j (json_of s b ent w.second)) x → Is (lookup_helper g e.params st) (Write x)
    unfolding or_fail
    lookup_found ge x f = record { is = lookup_so ge (some (json_of s b ent x)) f.value; stands = f.stands t E.params.first }

    pub lookup_nothing : 2 ≤ w.count → looked_up j (json_of s b ent w.second) ≡ none → (r : Does) → r ≡ unless_strict o.strict (Write Null) → Is (lookup_helper g e.params st) r
    unfolding or_fail
    lookup_nothing ge q r f = subst (Is (lookup_helper g e.params st)) (sym f) (go o.strict (lookup_so ge none q))
      where
        go : (c : Bool) → {x : Res} → x ≡ or_fail (pick c (bad missing-variable) (got (derived jnull))) (λ y. shows (as_json y)) → Is x (unless_strict c (Write Null))
        go true h = fails missing-variable _ h
        go false h = record { is = h ∙ ap shows (sym (plain_is s b ent Null refl)); stands = plain refl tt }

-- By the helper

module _ (s b : Bytes) (ent : List ℕ) (used : ℕ) (o : Options) (h : HelperDef) (w : Expanded) (ht hi : Bool) where
  back : HelperDef → registry.HelperDef
  back helper.Each = registry.HelperDef.each
  back helper.With = registry.HelperDef.with
  back helper.If = registry.HelperDef.if
  back helper.Unless = registry.HelperDef.unless
  back helper.Lookup = registry.HelperDef.lookup
  back helper.Unknown = registry.HelperDef.lookup

  back_is : (k : registry.HelperDef) → back (helper_of (some k)) ≡ k
  unfolding back
  back_is registry.HelperDef.each = refl
  back_is registry.HelperDef.with = refl
  back_is registry.HelperDef.if = refl
  back_is registry.HelperDef.unless = refl
  back_is registry.HelperDef.lookup = refl

  not_unknown : (k : registry.HelperDef) (r : Does) → helper_of (some k) ≡ helper.Unknown → r ≡ Bad HelperNotFound
  not_unknown registry.HelperDef.each r q = cc
  not_unknown registry.HelperDef.with r q = cc
  not_unknown registry.HelperDef.if r q = cc
  not_unknown registry.HelperDef.unless r q = cc
  not_unknown registry.HelperDef.lookup r q = cc

  decided : (k : registry.HelperDef) → h ≡ helper_of (some k) → (r : Does) → Helping s b ent used o w ht hi (λ g e ns T I st. call_helper g k e ns T I st) r
      → Decides s b ent used o h w ht hi r
  decided k q r x = record {
    known = λ i p. subst (λ (n : registry.HelperDef). Helping s b ent used o w ht hi (λ g e ns T I st. call_helper g n e ns T I st) r) (sym (back_is k) ∙ ap back (sym q ∙ p) ∙ back_is i) x;
    unknown = λ p. not_unknown k r (sym q ∙ p);
  }

  pub by_each : h ≡ helper.Each → (r : Does) → Helping s b ent used o w ht hi (λ g e ns T I st. each_helper g e.params ns T I st) r → Decides s b ent used o h w ht hi r
  unfolding call_helper
  by_each q r x = decided registry.HelperDef.each q r x

  pub by_with : h ≡ helper.With → (r : Does) → Helping s b ent used o w ht hi (λ g e ns T I st. with_helper g e.params ns T I st) r → Decides s b ent used o h w ht hi r
  unfolding call_helper
  by_with q r x = decided registry.HelperDef.with q r x

  pub by_if : h ≡ helper.If → (r : Does) → Helping s b ent used o w ht hi (λ g e ns T I st. if_helper g true e.params e.hash T I st) r → Decides s b ent used o h w ht hi r
  unfolding call_helper
  by_if q r x = decided registry.HelperDef.if q r x

  pub by_unless : h ≡ helper.Unless → (r : Does) → Helping s b ent used o w ht hi (λ g e ns T I st. if_helper g false e.params e.hash T I st) r → Decides s b ent used o h w ht hi r
  unfolding call_helper
  by_unless q r x = decided registry.HelperDef.unless q r x

  pub by_lookup : h ≡ helper.Lookup → (r : Does) → Helping s b ent used o w ht hi (λ g e ns T I st. lookup_helper g e.params st) r → Decides s b ent used o h w ht hi r
  unfolding call_helper
  by_lookup q r x = decided registry.HelperDef.lookup q r x

  pub by_none : h ≡ helper.Unknown → Decides s b ent used o h w ht hi (Bad HelperNotFound)
  by_none q = record { known = λ k p. clash (ap yes (not_unknown k Nothing (sym p ∙ q))); unknown = λ p. refl }
    where
      yes : Does → Bool
      yes (Bad n) = false
      yes Nothing = true
      yes Template = true
      yes Inverse = true
      yes (Within x) = true
      yes (Turns x) = true
      yes (Write x) = true
