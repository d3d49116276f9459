use borrow.Author.Rules.{rules}
use Rattle.helpers.proofs.inverse.Goals as goal

pub returns-then-has_inverse : goal.returns-then-has_inverse
returns-then-has_inverse c = rw c.if-has_inverse.true

pub returns : goal.returns
returns c = rw c.if-has_inverse.false c.unless_strict.ensures
