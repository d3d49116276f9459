use native.Mathlib.Omega.{arith}
use mathlib.Core.Path.{ap, sym, ◌∙◌}
use Prim.Native.Nat.{◌+◌}
use Rattle.calls.specs.Calls.{param_of, three_more}
use Rattle.calls.proofs.param_at.Goals as goal

pub returns-in-0 : goal.returns-in-0
returns-in-0 c = ap (param_of (c.args.p + 2)) (sym c.in-0.is ∙ c.field.ensures)

pub returns-in-1 : goal.returns-in-1
returns-in-1 c = ap (param_of (c.args.p + 2)) (sym c.in-1.is ∙ c.field.ensures)

pub returns-in-2 : goal.returns-in-2
returns-in-2 c = ap (param_of (c.args.p + 2)) (sym c.in-2.is ∙ c.field.ensures)

pub returns-in_default : goal.returns-in_default
returns-in_default c = ap (param_of (c.args.p + 2)) (three_more _ (omega arith) ∙ c.field.ensures)
