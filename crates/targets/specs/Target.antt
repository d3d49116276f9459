-- What a partial's name stands for, and what is then to be drawn: s is the plan, b the bundle.
use Rattle.std.specs.Prelude.{ℕ, ◌+◌, ◌≤◌, List, ◌≡◌, length, take, drop, Option as RustOption, Some, None}
use Rattle.std.proofs.Common.{ap, sym}
use Rattle.rules.specs.Bytes.{Bytes}
use Rattle.rules.specs.Bits.{bits}
use Rattle.rules.specs.Order.{differ}
use Rattle.rules.specs.Bundle.{body}
use Rattle.rules.specs.Output.{write}
use Rattle.parts.specs.Holds.{Holds}
use Rattle.parts.specs.Says.{MaybeHolds}
use Rattle.value.specs.declared.Value.{Value}
use Rattle.expand.specs.declared.Options.{Options}
use Rattle.expand.specs.declared.Expanded.{Expanded}
use Rattle.state.specs.Context.{RenderContext}
use Rattle.state.specs.Setters.{failed, with_template, unless_bad}
use Rattle.state.specs.World.{World, world, over, abs, Ready, Draws}
use Rattle.texts.specs.declared.Peek.{Peek}
use Rattle.texts.specs.declared.Peek.TheVariants as peek
use Rattle.texts.specs.Peeking.{peeked}
use Rattle.inlining.specs.Decorated.{is_at}
use Rattle.drawing.specs.Renders.{Named, body_rule, Renders, PartialDrawn, IncludeDrawn}
use Rattle.targets.specs.declared.Target.{Target}
use Rattle.targets.specs.declared.Target.TheVariants.{Bad, Text, Fallback, Body}
use Rattle.error.specs.declared.RenderErrorReason.TheVariants.{PartialBlockNotFound, PartialNotFound}
use Rattle.error.specs.Reasons.{Listed}

abbrev pub fallback : RustOption ℕ → Target
fallback (Some p) = Fallback p
fallback None = Bad PartialBlockNotFound

-- `@partial-block`
abbrev pub by_peek : RustOption ℕ → Peek → Target
by_peek own peek.Absent = fallback own
by_peek own peek.Nothing = fallback own
by_peek own (peek.Text h n) = Text h n

abbrev pub block_target : RustOption ℕ → RenderContext → Target
block_target own c = by_peek own (peeked c.scopes c.used c.writer.high)

-- where nothing is found
abbrev pub own_target : RustOption ℕ → ℕ → Target
own_target (Some p) d = Body p d 0 None
own_target None d = Bad PartialNotFound

-- no body is none
pub nothing_at : {C : Type 0} (t : ℕ) → None ≡ Some t → C
nothing_at t e = differ (sym (ap is_at e))

-- what is drawn from w for each target draws the partial; x is what its call was worked out to
abbrev pub Leads : Bytes → Bytes → Options → World → ℕ → ℕ → Expanded → RustOption ℕ → RustOption ℕ → Target → Type 0
Leads s b o w d p x own at (Bad e) = Listed e × PartialDrawn s b o w (over (failed w.rc (Some e)) w) d p x own at
Leads s b o w d p x own at (Text from n) =
    (w.rc.writer.high ≤ from) × (from + n ≤ length w.texts) × ((w₂ : World) → Draws s b w w₂ (write (take n (drop from w.texts)) (abs s b w)) → PartialDrawn s b o w w₂ d p x own at)
Leads s b o w d p x own at (Fallback q) =
    Holds (body 16 d) (bits b) q × (own ≡ Some q)
    × ((w₂ : World) → Renders s b o (over (with_template w.rc 0) w) w₂ (body_rule b d q 0) → PartialDrawn s b o w (over (unless_bad (λ c. with_template c w.rc.template) w₂.rc) w₂) d p x own at)
Leads s b o w d p x own at (Body q e n m) =
    (e ≤ 16) × Holds (body 16 e) (bits b) q × Named b n × MaybeHolds (body 16 d) (bits b) m × ((w₂ : World) → IncludeDrawn s b o w w₂ d p x q e n m at → PartialDrawn s b o w w₂ d p x own at) × ((t : ℕ) → m ≡ Some t → own ≡ Some t)

-- whatever page, texts and indent there are, for each call that has this name
pub record Decided (s b : Bytes) (ent : List ℕ) (c : RenderContext) (d : ℕ) (name : Value) (own : RustOption ℕ) (t : Target) : Type 0 where
  pub at : (page texts indent : Bytes) (o : Options) (p : ℕ) (x : Expanded) (ind : RustOption ℕ) → x.name ≡ name → Ready s b (world c page texts indent ent) → Leads s b o (world c page texts indent ent) d p x own ind t
