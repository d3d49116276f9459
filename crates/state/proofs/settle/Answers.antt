use Rattle.state.specs.Setters as set
use Rattle.state.specs.Context.{whole}
use Rattle.output.specs.declared.Writer.{Writer}
use mathlib.Core.Path.{◌∙◌, ap}
use borrow.Author.Rules.{rules}
use Rattle.state.proofs.settle.Goals as goal

pub returns : goal.returns
returns c = λ l. ap (λ (w : Writer). set.with_writer (whole c.args.rc l) w) c.settle_marks-q.ensures
