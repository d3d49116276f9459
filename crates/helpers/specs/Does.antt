-- What a helper or an expression is about to do: s is the plan, b the bundle, ent the entries of open partials, and t is behind those in use.
use Rattle.std.specs.Prelude.{ℕ, ◌-◌, ◌<◌, Bool, true, false, List, [], ◌≡◌, refl, eqb, ltb, Option as RustOption, Some, Result, Ok, Err, None}
use Rattle.std.proofs.Math.Option.{Option, none, some}
use Rattle.std.proofs.Common.{arith}
use borrow.Author.Tests.{lt-ltb, le-ltb, ne_eqb}
use Rattle.rules.specs.Bytes.{Bytes, pick}
use Rattle.rules.specs.Bits.{bits}
use Rattle.rules.specs.Layout.{field}
use Rattle.rules.specs.Bundle.{path, param, call_of}
use Rattle.rules.specs.Json.{Json, jnull, jbool, jpos, jneg, jstr, jarr, jobj}
use Rattle.rules.specs.Template as template
use Rattle.rules.specs.Template.{BlockParam, no_names}
use Rattle.rules.specs.Error.{RenderErrorReason, number}
use Rattle.rules.specs.Value.{render, is_truthy, guide_truthy}
use Rattle.rules.specs.State.{RenderContext, Res, ok, Draw, fail, push_block, pop_block, ◌after◌}
use Rattle.rules.specs.Registry as registry
use Rattle.rules.specs.Registry.{Registry}
use Rattle.rules.specs.Output.{do_escape, indent_aware_write}
use Rattle.rules.specs.BlockUtil as block-util
use Rattle.rules.specs.BlockUtil.{Drawable, render_or_nothing, create_block}
use Rattle.rules.specs.HelperEach.{turn_block, turns}
use Rattle.rules.specs.HelperWith.{with_block}
use Rattle.rules.specs.Helpers.{call_helper}
use Rattle.rules.specs.Render.{render_helper, render_expression}
use Rattle.parts.specs.Holds.{Holds, end}
use Rattle.calls.specs.declared.Parameter.TheVariants.{Path}
use Rattle.calls.specs.Calls.{param_view, call_at}
use Rattle.value.specs.declared.Value.{Value}
use Rattle.value.specs.Numbers.{decoded}
use Rattle.meaning.specs.Meaning.{is_missing, json_of, scoped_of}
use Rattle.meaning.specs.Standing.{Stands}
use Rattle.members.specs.Turns.{each_turns}
use Rattle.scope.specs.declared.Scope.{Scope}
use Rattle.expand.specs.declared.Options.{Options}
use Rattle.expand.specs.declared.Expanded.{Expanded}
use Rattle.expand.specs.declared.HelperDef.{HelperDef}
use Rattle.expand.specs.declared.HelperDef.TheVariants as helper
use Rattle.expand.specs.declared.HelperDef.TheVariants.{Unknown}
use Rattle.expand.specs.Answers.{Alike, Setting, IsExpanded, helper_of}
use Rattle.helpers.specs.declared.Does.{Does}
use Rattle.helpers.specs.declared.Does.TheVariants.{Bad, Nothing, Template, Inverse, Within, Turns, Write}
use Rattle.helpers.specs.declared.Shows.{Shows}
use Rattle.helpers.specs.declared.Shows.TheVariants as shows
use Rattle.error.specs.declared.RenderErrorReason.TheVariants.{HelperNotFound, MissingVariable, ScopesLimit, InvalidJsonIndex}
use Rattle.error.specs.declared.RenderErrorReason.{RenderErrorReason as Reason}
use Rattle.error.specs.Reasons.{refusal, numbered}

-- what of the registry and the state a helper depends on
pub record Guided (used : ℕ) (o : Options) (g : Registry) (st : RenderContext) : Type 0 where
  pub alike : Alike used o g st
  pub guide : g.options.guide_truth ≡ o.guide_truth

abbrev pub has : {A : Type 0} → Option A → Bool
has none = false
has (some a) = true

-- Answers

-- a refusal, as the code keeps it
pub record Fails (x : Res) (n : RustOption Reason) : Type 0 where
  pub reason : RenderErrorReason
  pub is : x ≡ fail reason
  pub by_reason : refusal reason ≡ n

-- v is written
pub record Writes (s b : Bytes) (ent : List ℕ) (t : ℕ) (st : RenderContext) (x : Res) (v : Value) : Type 0 where
  pub is : x ≡ indent_aware_write (do_escape st (render (json_of s b ent v))) st
  pub stands : Stands s b ent t v

-- the template is drawn in a scope of v
pub record Opens (s b : Bytes) (ent : List ℕ) (t used : ℕ) (ns : BlockParam) (T : Drawable) (st : RenderContext) (x : Res) (v : Value) : Type 0 where
  pub is : x ≡ (pop_block after render_or_nothing T (push_block (with_block st ns (scoped_of s b ent v)) st))
  pub stands : Stands s b ent t v
  pub present : is_missing v ≡ false
  pub room : used < 32

-- the template is drawn for each turn over v, in one scope
pub record Takes (s b : Bytes) (ent : List ℕ) (t used : ℕ) (ns : BlockParam) (T : Drawable) (st : RenderContext) (x : Res) (v : Value) : Type 0 where
  pub drawn : has T ≡ true
  pub is : (D : Draw) → T ≡ some D
      → x ≡ (pop_block after turns (turn_block (scoped_of s b ent v) ns) D (each_turns (json_of s b ent v)) (push_block (create_block (scoped_of s b ent v)) st))
  pub stands : Stands s b ent t v
  pub present : is_missing v ≡ false
  pub room : used < 32

-- of a helper with the block names ns, the template T and the inverse I; x is the rules' answer
abbrev pub Helps : Bytes → Bytes → List ℕ → ℕ → ℕ → BlockParam → Drawable → Drawable → RenderContext → Res → Does → Type 0
Helps s b ent t used ns T I st x (Bad e) = Fails x (Some e)
Helps s b ent t used ns T I st x Nothing = x ≡ ok st []
Helps s b ent t used ns T I st x Template = x ≡ render_or_nothing T st
Helps s b ent t used ns T I st x Inverse = x ≡ render_or_nothing I st
Helps s b ent t used ns T I st x (Within v) = Opens s b ent t used ns T st x v
Helps s b ent t used ns T I st x (Turns v) = Takes s b ent t used ns T st x v
Helps s b ent t used ns T I st x (Write v) = Writes s b ent t st x v

-- f is the rule; ht and hi say whether there are bodies
abbrev pub Helping : Bytes → Bytes → List ℕ → ℕ → Options → Expanded → Bool → Bool → (Registry → block-util.Expanded → BlockParam → Drawable → Drawable → Draw) → Does → Type 0
Helping s b ent used o w ht hi f r =
    (g : Registry) (st : RenderContext) (t : ℕ) (e : block-util.Expanded) (ns : BlockParam) (T I : Drawable) → Guided used o g st → IsExpanded s b ent t w e → ht ≡ has T → hi ≡ has I
    → Helps s b ent t used ns T I st (f g e ns T I st) r

-- a call by its parts: its name, how many parameters, the first two, what includeZero says, and the refusal
abbrev pub given : Value → ℕ → Value → Value → Bool → RustOption Reason → Expanded
given n k v u z x = record { name = n; count = k; first = v; second = u; zero = z; bad = x }

-- by some of them, whatever the others are: the first parameter, that and includeZero, or the first two
abbrev pub HelpingFirst : Bytes → Bytes → ℕ → Options → ℕ → Value → Bool → Bool → (Registry → block-util.Expanded → BlockParam → Drawable → Drawable → Draw) → Does → Type 0
HelpingFirst s b used o k v ht hi f r = (ent : List ℕ) (n u : Value) (z : Bool) (x : RustOption Reason) → Helping s b ent used o (given n k v u z x) ht hi f r

abbrev pub HelpingTruth : Bytes → Bytes → Options → ℕ → Value → Bool → (Registry → block-util.Expanded → BlockParam → Drawable → Drawable → Draw) → Does → Type 0
HelpingTruth s b o k v z f r = (ent : List ℕ) (used : ℕ) (ht hi : Bool) (n u : Value) (x : RustOption Reason) → Helping s b ent used o (given n k v u z x) ht hi f r

abbrev pub HelpingBoth : Bytes → Bytes → List ℕ → Options → ℕ → Value → Value → (Registry → block-util.Expanded → BlockParam → Drawable → Drawable → Draw) → Does → Type 0
HelpingBoth s b ent o k v u f r = (used : ℕ) (ht hi : Bool) (n : Value) (z : Bool) (x : RustOption Reason) → Helping s b ent used o (given n k v u z x) ht hi f r

pub record Decides (s b : Bytes) (ent : List ℕ) (used : ℕ) (o : Options) (h : HelperDef) (w : Expanded) (ht hi : Bool) (r : Does) : Type 0 where
  pub known : (k : registry.HelperDef) → h ≡ helper_of (some k) → Helping s b ent used o w ht hi (λ g e ns T I st. call_helper g k e ns T I st) r
  pub unknown : h ≡ Unknown → r ≡ Bad HelperNotFound

-- with one parameter, or two, and no hash
abbrev pub DecidesOne : Bytes → Bytes → ℕ → Options → HelperDef → Value → Bool → Bool → Does → Type 0
DecidesOne s b used o h v ht hi r = (ent : List ℕ) (n u : Value) → Decides s b ent used o h (given n 1 v u false None) ht hi r

abbrev pub DecidesTwo : Bytes → Bytes → List ℕ → ℕ → Options → HelperDef → Value → Value → Bool → Bool → Does → Type 0
DecidesTwo s b ent used o h v u ht hi r = (n : Value) → Decides s b ent used o h (given n 2 v u false None) ht hi r

-- of an expression's call c
abbrev pub Expresses : Bytes → Bytes → List ℕ → ℕ → Registry → template.Call → Bool → RenderContext → Res → Shows → Type 0
Expresses s b ent t g c ibw st x (shows.Bad e) = Fails x (Some e)
Expresses s b ent t g c ibw st x shows.Helper = x ≡ render_helper g c ibw no_names none none st
Expresses s b ent t g c ibw st x (shows.Value v) = Writes s b ent t st x v
Expresses s b ent t g c ibw st x shows.Nothing = x ≡ ok st []

-- of the call at p, in the open scopes l, whatever the registry and the state are else
abbrev pub ExpressingCall : Bytes → Bytes → List ℕ → List Scope → ℕ → Options → ℕ → ℕ → Shows → Type 0
ExpressingCall s b ent l used o d p u =
    (g : Registry) (st : RenderContext) (t : ℕ) (ibw : Bool) → Setting s b ent l used o g st t
    → Expresses s b ent t g (call_at d (bits b) p) ibw st (render_expression g (call_at d (bits b) p) ibw st) u

-- of any call whose name is the path at q
abbrev pub ExpressingPath : Bytes → Bytes → List ℕ → List Scope → ℕ → Options → ℕ → Shows → Type 0
ExpressingPath s b ent l used o q u =
    (g : Registry) (st : RenderContext) (t d p : ℕ) (ibw : Bool) → Setting s b ent l used o g st t → Holds (call_of (param d)) (bits b) p → param_view (bits b) p ≡ Path q
    → Expresses s b ent t g (call_at d (bits b) p) ibw st (render_expression g (call_at d (bits b) p) ibw st) u

-- of any call that is the path at q and nothing else
abbrev pub ExpressingBare : Bytes → Bytes → List ℕ → List Scope → ℕ → Options → ℕ → Shows → Type 0
ExpressingBare s b ent l used o q u =
    (g : Registry) (st : RenderContext) (t d p : ℕ) (ibw : Bool) → Setting s b ent l used o g st t → Holds (call_of (param d)) (bits b) p → param_view (bits b) p ≡ Path q
    → field (bits b) 8 (end path (bits b) q) ≡ 0
    → Expresses s b ent t g (call_at d (bits b) p) ibw st (render_expression g (call_at d (bits b) p) ibw st) u

-- Parts

abbrev pub is_known : HelperDef → Bool
is_known helper.Each = true
is_known helper.With = true
is_known helper.If = true
is_known helper.Unless = true
is_known helper.Lookup = true
is_known helper.Unknown = false

abbrev pub unless_strict : Bool → Does → Does
unless_strict strict d = pick strict (Bad MissingVariable) d

-- the inverse, where there is one
abbrev pub inverse : Bool → Bool → Does
inverse strict hi = pick hi Inverse (unless_strict strict Nothing)

-- under one more scope
abbrev pub in_scope : ℕ → Does → Does
in_scope used d = pick (ltb used 32) d (Bad ScopesLimit)

abbrev pub branch : Bool → Does
branch b = pick b Template Inverse

-- truth of both kinds; guide truth does not heed includeZero
abbrev pub truth : Bool → Bool → Json → Bool
truth guide zero j = pick guide (guide_truthy j) (is_truthy zero j)

-- what each takes turns over
abbrev pub is_collection : Json → Bool
is_collection jnull = false
is_collection (jbool b) = false
is_collection (jpos n) = false
is_collection (jneg n) = false
is_collection (jstr t) = false
is_collection (jarr l) = true
is_collection (jobj m) = true

abbrev pub shown : Bool → Value → Shows
shown strict v = pick (is_missing v) (pick strict (shows.Bad MissingVariable) shows.Nothing) (shows.Value v)

-- as one number: 0 where it is a helper's, below 255 a refusal by its own, 255 for nothing, else 256 more than the value's
unfoldable pub shows_of : ℕ → Shows
shows_of n =
    pick (eqb n 0) shows.Helper
    (pick (ltb n 255) (shows.Bad (numbered n))
    (pick (eqb n 255) shows.Nothing (shows.Value (decoded (n - 256)))))

pub shows_helper : shows_of 0 ≡ shows.Helper
unfolding shows_of
shows_helper = refl

pub shows_nothing : shows_of 255 ≡ shows.Nothing
unfolding shows_of
shows_nothing = refl

pub shows_missing : shows_of 11 ≡ shows.Bad MissingVariable
unfolding shows_of numbered
shows_missing = refl

pub shows_bad_index : shows_of 20 ≡ shows.Bad InvalidJsonIndex
unfolding shows_of numbered
shows_bad_index = refl

module _ (n : ℕ) where
  pub shows_bad : (n ≡ 0 → ⊥) → n < 255 → shows_of n ≡ shows.Bad (numbered n)
  unfolding shows_of
  shows_bad h lt = rw (ne_eqb n 0 h, lt-ltb n 255 lt)

  pub shows_value : 255 < n → shows_of n ≡ shows.Value (decoded (n - 256))
  unfolding shows_of
  shows_value lt = rw (ne_eqb n 0 (λ e. omega arith), le-ltb n 255 (omega arith), ne_eqb n 255 (λ e. omega arith))

abbrev pub rendered : Bool → Result Value Reason → Shows
rendered strict (Ok v) = shown strict v
rendered strict (Err e) = shows.Bad e
