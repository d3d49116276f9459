use mathlib.Core.Path.{sym, ap, ◌∙◌, subst}
use Rattle.including.specs.Values.{number_of, GotFits}
use borrow.Author.Rules.{rules}
use Rattle.including.proofs.number_of.Goals as goal

pub encode-requires : goal.encode-requires
encode-requires c = subst GotFits c.in-Ok.is c.requires

pub returns-in-Ok : goal.returns-in-Ok
returns-in-Ok c = c.encode.ensures ∙ ap number_of (sym c.in-Ok.is)

pub returns-in-Err : goal.returns-in-Err
returns-in-Err c = ap number_of (sym c.in-Err.is)
