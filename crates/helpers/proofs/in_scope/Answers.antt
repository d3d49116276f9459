use borrow.Author.Tests.{lt-ltb, le-ltb}
use Rattle.helpers.proofs.in_scope.Goals as goal

pub returns-then-used-lt32 : goal.returns-then-used-lt32
returns-then-used-lt32 c = rw (lt-ltb _ _ c.if-used-lt32.true)

pub returns : goal.returns
returns c = rw (le-ltb _ _ c.if-used-lt32.false)
