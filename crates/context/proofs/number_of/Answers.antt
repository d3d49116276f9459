use native.Mathlib.Omega.{arith}
use mathlib.Core.Path.{sym, ◌∙◌, subst}
use Rattle.context.specs.Evaluated.{EvaluatedFits, found_is}
use Rattle.context.proofs.Numbers.{number_told, nothing_told}
use Rattle.context.proofs.number_of.Goals as goal

pub encode-requires : goal.encode-requires
encode-requires c = (subst EvaluatedFits c.in-Is.is c.requires).0

pub returns-in-Is : goal.returns-in-Is
returns-in-Is c = let v = c.in-Is.v in
    let f = subst EvaluatedFits c.in-Is.is c.requires in
    (omega arith, number_told v f.0 c.encode.result c.encode.ensures ∙ found_is v f.1 ∙ sym c.in-Is.is)

pub returns-in-Nothing : goal.returns-in-Nothing
returns-in-Nothing c = (omega arith, nothing_told ∙ sym c.in-Nothing.is)

pub returns-in-BadIndex : goal.returns-in-BadIndex
returns-in-BadIndex c = (omega arith, sym c.in-BadIndex.is)
