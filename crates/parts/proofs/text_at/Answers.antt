use Prim.Native.Nat.{ℕ, ◌+◌}
use mathlib.Core.Path.{ap}
use Rattle.parts.proofs.text_at.Goals as goal

pub returns : goal.returns
returns c = ap (λ (n : ℕ). record { count = n; first = c.args.p + 16 }) c.field.ensures
