-- A partial with a block text, from the body of that text on: s is the plan, b the bundle.
use Rattle.std.specs.Prelude.{ℕ, List, Option as RustOption}
use Rattle.rules.specs.Bytes.{Bytes}
use Rattle.rules.specs.State.{Draw}
use Rattle.rules.specs.Registry.{Registry}
use Rattle.rules.specs.Partial.{Rendering}
use Rattle.expand.specs.declared.Options.{Options}
use Rattle.scope.specs.declared.Scope.{Scope}
use Rattle.state.specs.declared.RenderContext as code
use Rattle.state.specs.Context.{whole}
use Rattle.state.specs.World.{World, world}
use Rattle.drawing.specs.Renders.{Renders}
use Rattle.beginning.specs.Opened.{TextBegun}

-- c is the context in front of some element, l the array of its scopes; w₁ is what the beginning of the element left
pub record TextReady (s b : Bytes) (o : Options) (w₁ : World) (l : List Scope) (c : code.RenderContext) (d t q e n : ℕ) (at : RustOption ℕ) : Type 0 where
  pub page : Bytes
  pub texts : Bytes
  pub indent : Bytes
  pub ent : List ℕ
  pub rule : Registry → Rendering → Draw
  pub begun : TextBegun s b o (world (whole c l) page texts indent ent) w₁ d rule t q e n at

-- every such element is drawn
pub record TextDrawn (s b : Bytes) (o : Options) (w₁ w₂ : World) (l : List Scope) (c : code.RenderContext) (d t q e n : ℕ) (ind : RustOption ℕ) : Type 0 where
  pub at : (page texts indent : Bytes) (ent : List ℕ) (rule : Registry → Rendering → Draw)
      → TextBegun s b o (world (whole c l) page texts indent ent) w₁ d rule t q e n ind
      → Renders s b o (world (whole c l) page texts indent ent) w₂ rule
