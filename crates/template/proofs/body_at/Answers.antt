use mathlib.Core.Path.{ap}
use Prim.Native.Nat.{ℕ, ◌+◌}
use Rattle.template.proofs.body_at.Goals as goal

pub returns : goal.returns
returns c = ap (λ (n : ℕ). record { count = n; first = c.args.p + 12 }) c.field.ensures
