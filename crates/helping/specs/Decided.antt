-- What a helper was found to do is drawn, and its marks are settled: s is the plan, b the bundle.
use Rattle.std.specs.Prelude.{ℕ, Bool, true, List, ◌≡◌, Option as RustOption, Some, None}
use Rattle.rules.specs.Bytes.{Bytes}
use Rattle.rules.specs.Bits.{bits}
use Rattle.rules.specs.Template as template
use Rattle.rules.specs.State as rules
use Rattle.rules.specs.State.{Draw}
use Rattle.rules.specs.Expand.{evaluate2, try_from_template}
use Rattle.rules.specs.Registry.{Registry}
use Rattle.rules.specs.Partial.{Rendering}
use Rattle.rules.specs.Render.{render_helper, render_body}
use Rattle.parts.specs.Says.{path_at}
use Rattle.context.specs.declared.Evaluated.{Evaluated}
use Rattle.context.specs.Evaluated.{Evaluates}
use Rattle.context.specs.Start.{Newest, needs_all}
use Rattle.expand.specs.declared.Expanded.{Expanded}
use Rattle.expand.specs.Answers.{Setting, IsTemplate}
use Rattle.calls.specs.Calls.{call_at}
use Rattle.template.specs.Views.{body_says}
use Rattle.scope.specs.declared.Scope.{Scope}
use Rattle.expand.specs.declared.Options.{Options}
use Rattle.helpers.specs.declared.Does.{Does}
use Rattle.state.specs.declared.RenderContext as code
use Rattle.state.specs.Context.{RenderContext, whole, Front}
use Rattle.state.specs.Setters.{marked, finished}
use Rattle.state.specs.World.{World, world, over, Ready}
use Rattle.inlining.specs.Decorated.{is_at, SomeReady}
use Rattle.drawing.specs.Parts.{before_helper}
use Rattle.drawing.specs.Renders.{Renders, Possible, Helped}
use Rattle.helping.specs.declared.Few.{Few}
use Rattle.helping.specs.declared.Few.TheVariants.{One, Two, Other}
use Rattle.helping.specs.Few.{few_view}

-- the element: its call at p, its bodies tm and im with d depths, its names ns
abbrev pub helper_rule : Bytes → ℕ → ℕ → Bool → template.BlockParam → RustOption ℕ → RustOption ℕ → Registry → Rendering → Draw
helper_rule b d p before ns tm im g R = render_helper g (call_at d (bits b) p) before ns (render_body g R (body_says 16 d (bits b) tm)) (render_body g R (body_says 16 d (bits b) im))

-- behind the marks
abbrev pub marks_set : World → Bool → World
marks_set w before = over (marked w.rc (before_helper w.rc.writer before)) w

pub record Drawable (s b : Bytes) (o : Options) (w : World) (d p : ℕ) (before : Bool) (ns : template.BlockParam) (tm im : RustOption ℕ) (a : Does) : Type 0 where
  pub possible : Possible s b (marks_set w before) a
  pub done : (w₂ : World) → Helped s b o (marks_set w before) w₂ ns (body_says 16 d (bits b) tm) (body_says 16 d (bits b) im) a
      → Renders s b o w (over (finished w.rc.writer w₂.rc) w₂) (helper_rule b d p before ns tm im)

-- whatever page, texts and indent there are
pub record Decided (s b : Bytes) (ent : List ℕ) (o : Options) (c : RenderContext) (d p : ℕ) (tm im : RustOption ℕ) (a : Does) : Type 0 where
  pub at : (page texts indent : Bytes) (before : Bool) (ns : template.BlockParam) → Ready s b (world c page texts indent ent) → Drawable s b o (world c page texts indent ent) d p before ns tm im a

-- what the path at v leads to
abbrev pub Leads : Bytes → Bytes → List ℕ → List Scope → ℕ → Options → ℕ → Evaluated → Type 0
Leads s b ent l used o v f =
    (g : Registry) (st : rules.RenderContext) (t : ℕ) → Setting s b ent l used o g st t → Evaluates s b ent t (evaluate2 g st (path_at (bits b) v)) f

-- what the call at p is worked out to
abbrev pub CallWorked : Bytes → Bytes → List ℕ → List Scope → ℕ → Options → ℕ → ℕ → Expanded → Type 0
CallWorked s b ent l used o d p x =
    (g : Registry) (st : rules.RenderContext) (t : ℕ) → Setting s b ent l used o g st t → IsTemplate s b ent t (try_from_template g st (call_at d (bits b) p)) x

-- of a call by the scopes that are open and the bodies that there are, whatever the context is else
abbrev pub DecidedBy : Bytes → Bytes → List ℕ → List Scope → ℕ → Options → ℕ → ℕ → Bool → Bool → Does → Type 0
DecidedBy s b ent l used o d p ht hi a = (c : RenderContext) (tm im : RustOption ℕ) → c.scopes ≡ l → c.used ≡ used → ht ≡ is_at tm → hi ≡ is_at im → Decided s b ent o c d p tm im a

-- By the front alone

-- a call with other parameters, or whose path does not tell by the front
abbrev pub few_needs_all : Bytes → List ℕ → Scope → ℕ → Few → Bool
few_needs_all b ent front names (One v) = needs_all b ent front names (path_at (bits b) v)
few_needs_all b ent front names (Two v k) = needs_all b ent front names (path_at (bits b) v)
few_needs_all b ent front names Other = true

abbrev pub DecidedNear : Bytes → Bytes → List ℕ → Scope → ℕ → ℕ → Options → ℕ → ℕ → Bool → Bool → RustOption Does → Type 0
DecidedNear s b ent front names used o d p ht hi (Some a) = (l : List Scope) → Newest b ent front names l used → DecidedBy s b ent l used o d p ht hi a
DecidedNear s b ent front names used o d p ht hi None = few_needs_all b ent front names (few_view (bits b) p) ≡ true

-- there is an array with that front in a call, and what was decided can be done there
pub record Doable (s b : Bytes) (ent : List ℕ) (front : Scope) (rc : code.RenderContext) (a : Does) : Type 0 where
  pub stack : List Scope
  pub newest : Front stack rc front
  pub ready : SomeReady s b (whole rc stack) ent
  pub possible : Possible s b (world (whole rc stack) ready.page ready.texts ready.indent ent) a
