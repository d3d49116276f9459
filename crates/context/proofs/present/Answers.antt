use mathlib.Core.Path.{sym, ap}
use Rattle.context.specs.Evaluated.{present}
use Rattle.context.proofs.Walking.{present_same}
use borrow.Enum.Refused.{opened}
use Rattle.context.proofs.present.Goals as goal

pub returns-in-Missing : goal.returns-in-Missing
returns-in-Missing c = ap present (sym c.in-Missing.is)

pub returns-in_default : goal.returns-in_default
returns-in_default c = present_same c.args.v (opened c.in_default.in_default-own.keys2)
