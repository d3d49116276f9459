-- What a function that writes promises.
use Rattle.std.specs.Prelude.{◌≡◌}
use Rattle.rules.specs.Bytes.{Bytes}
use Rattle.rules.specs.State.{Draw}
use Rattle.output.specs.Outputs.{Outputs}
use Rattle.state.specs.Context.{RenderContext}
use Rattle.state.specs.Setters.{wrote}
use Rattle.state.specs.World.{World, abs, Ready, Draws}

-- r with the buffers p and t is what a write makes of c, that leaves the outputs o
pub record Wrote (c r : RenderContext) (p t : Bytes) (o : Outputs) : Type 0 where
  pub context : r ≡ wrote c o.writer
  pub page : p ≡ o.page
  pub texts : t ≡ o.texts

-- f is drawn, from a context that may be drawn from
abbrev pub Writes : Bytes → Bytes → World → World → Draw → Type 0
Writes s b w w' f = Ready s b w → Draws s b w w' (f (abs s b w))
