use borrow.Author.Rules.{rules}
use Rattle.state.proofs.located.Goals as goal

pub returns : goal.returns
returns c = λ l. rw (c.chosen-2.ensures, c.chosen.ensures, c.first_of.ensures)
