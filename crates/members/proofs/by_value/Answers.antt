use Rattle.members.proofs.Nearing.{by_value_other}
use Rattle.members.specs.Next as spec
use mathlib.Core.Path.{ap, sym}
use borrow.Author.Rules.{rules}
use borrow.Enum.Refused.{opened}
use Rattle.members.proofs.by_value.Goals as goal

pub returns-in-Missing : goal.returns-in-Missing
returns-in-Missing c = sym (ap spec.by_value c.in-Missing.is)

pub returns-in-Context : goal.returns-in-Context
returns-in-Context c = sym (ap spec.by_value c.in-Context.is)

pub returns-in_default : goal.returns-in_default
returns-in_default c = by_value_other c.args.v (opened c.in_default.in_default-own.keys3)
