use mathlib.Core.Path.{sym, ap, ◌∙◌}
use Rattle.context.specs.Evaluated.{found_of, some_evaluated}
use Rattle.context.proofs.answer_of.Goals as goal

pub returns : goal.returns
returns c = c.found_of.ensures ∙ ap found_of c.decode.ensures ∙ sym (some_evaluated c.args.r c.if-r-eq-BAD_INDEX.false)
