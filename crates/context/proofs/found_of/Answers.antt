use mathlib.Core.Path.{sym, ap, ◌∙◌}
use Rattle.meaning.specs.Meaning.{is_missing}
use Rattle.context.specs.Evaluated.{found_of, found_is}
use Rattle.context.specs.Numbers.{present_is}
use Rattle.context.proofs.Walking.{present_same}
use borrow.Enum.Refused.{opened}
use Rattle.context.proofs.found_of.Goals as goal

pub returns-in-Missing : goal.returns-in-Missing
returns-in-Missing c = ap found_of (sym c.in-Missing.is)

pub returns-in_default : goal.returns-in_default
returns-in_default c = let v = c.args.v in sym (found_is v (ap is_missing (present_same v (opened c.in_default.in_default-own.keys2)) ∙ present_is v))
