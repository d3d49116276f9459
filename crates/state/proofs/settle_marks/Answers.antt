use mathlib.Core.Path.{◌∙◌}
use borrow.Author.Rules.{rules}
use Rattle.state.proofs.settle_marks.Goals as goal

pub returns-then-w : goal.returns-then-w
returns-then-w c = c.with_marks.ensures ∙ rw c.if-w.true

pub returns : goal.returns
returns c = c.with_marks-2.ensures ∙ rw c.if-w.false
