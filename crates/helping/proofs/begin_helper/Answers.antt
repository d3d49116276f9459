use Rattle.state.specs.Context.{whole}
use Rattle.state.specs.Setters.{marked}
use mathlib.Core.Path.{◌∙◌, ap}
use borrow.Author.Rules.{rules}
use Rattle.helping.proofs.begin_helper.Goals as goal

pub returns : goal.returns
returns c = λ l. c.begin_aware.ensures l ∙ ap (marked (whole c.args.rc l)) c.before_helper.ensures
