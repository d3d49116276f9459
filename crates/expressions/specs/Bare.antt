-- A helper without bodies: s is the plan, b the bundle.
use Rattle.std.specs.Prelude.{ℕ, Bool, List, ◌≡◌}
use Rattle.std.proofs.Math.Option.{none}
use Rattle.rules.specs.Bytes.{Bytes}
use Rattle.rules.specs.Bits.{bits}
use Rattle.rules.specs.Template.{no_names, no_body}
use Rattle.rules.specs.State.{Draw}
use Rattle.rules.specs.Registry.{Registry}
use Rattle.rules.specs.Partial.{Rendering}
use Rattle.rules.specs.Render.{render_helper}
use Rattle.calls.specs.Calls.{call_at}
use Rattle.value.specs.declared.Value.{Value}
use Rattle.meaning.specs.Forms.{Known}
use Rattle.expand.specs.declared.Options.{Options}
use Rattle.helpers.specs.declared.Does.{Does}
use Rattle.helpers.specs.declared.Does.TheVariants.{Write}
use Rattle.state.specs.Context.{RenderContext}
use Rattle.state.specs.World.{world, Ready}
use Rattle.drawing.specs.Renders.{Possible, Helped}

-- the helper of the call at p
abbrev pub bare_rule : Bytes → ℕ → ℕ → Bool → Registry → Rendering → Draw
bare_rule b d p before g R = render_helper g (call_at d (bits b) p) before no_names none none

-- a value that it writes is one of the plan or the bundle
abbrev pub Printable : Bytes → Bytes → Does → Type 0
Printable s b a = (v : Value) → a ≡ Write v → Known s b v

-- r with the buffers page' and texts' is what it makes of c with page and texts, whatever entries there are
pub record BareDrawn (s b : Bytes) (c r : RenderContext) (page texts indent page' texts' : Bytes) (a : Does) : Type 0 where
  pub at : (o : Options) (ent : List ℕ) → Ready s b (world c page texts indent ent) → Possible s b (world c page texts indent ent) a
      → Helped s b o (world c page texts indent ent) (world r page' texts' indent ent) no_names no_body no_body a
