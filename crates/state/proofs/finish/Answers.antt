use mathlib.Core.Bool.{not}
use Rattle.state.specs.Setters as set
use Rattle.state.specs.Context.{whole}
use Rattle.output.specs.declared.Writer.{Writer}
use mathlib.Core.Path.{◌∙◌, ap, sym}
use borrow.Author.Rules.{rules}
use Rattle.state.proofs.finish.Goals as goal

pub returns-then-is_none : goal.returns-then-is_none
returns-then-is_none c = λ l. ap (λ (w : Writer). set.with_writer (whole c.args.rc l) w) c.settle_marks-q.ensures ∙ rw (c.is_none.ensures ∙ ap not c.if-is_none.true)

pub returns-else-is_none : goal.returns-else-is_none
returns-else-is_none c = λ l. rw (c.is_none.ensures ∙ ap not c.if-is_none.false)
