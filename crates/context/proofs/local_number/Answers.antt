use mathlib.Core.Path.{sym, ap, ◌∙◌, subst}
use native.Mathlib.Omega.{arith}
use Rattle.context.specs.Start.{ParamFits, said}
use Rattle.context.proofs.Numbers.{number_told, nothing_told}
use Rattle.context.proofs.local_number.Goals as goal

pub encode-requires : goal.encode-requires
encode-requires c = subst ParamFits c.in-Some.is c.requires

pub returns-in-Some : goal.returns-in-Some
returns-in-Some c = (omega arith, number_told c.in-Some.w (subst ParamFits c.in-Some.is c.requires) c.encode.result c.encode.ensures ∙ sym (ap said c.in-Some.is))

pub returns-in-None : goal.returns-in-None
returns-in-None c = (omega arith, nothing_told ∙ sym (ap said c.in-None.is))
