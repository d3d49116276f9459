use mathlib.Core.Path.{sym, ap, ◌∙◌}
use Rattle.helpers.specs.Does.{rendered}
use borrow.Author.Rules.{rules}
use Rattle.helpers.proofs.rendered.Goals as goal

pub returns-in-Ok : goal.returns-in-Ok
returns-in-Ok c = let z = c in c.shown.ensures ∙ ap (rendered z.args.strict) (sym c.in-Ok.is)

pub returns-in-Err : goal.returns-in-Err
returns-in-Err c = let z = c in ap (rendered z.args.strict) (sym c.in-Err.is)
