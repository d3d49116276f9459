use borrow.Author.Tests.{eq-eqb, ne_eqb}
use Rattle.decimal.proofs.feed.Goals as goal

pub returns-then-c-eq43 : goal.returns-then-c-eq43
returns-then-c-eq43 c = rw (c.in-Empty.is, eq-eqb _ _ c.if-c-eq43.true)

pub returns-else-c-eq43 : goal.returns-else-c-eq43
returns-else-c-eq43 c = rw (c.in-Empty.is, ne_eqb _ _ c.if-c-eq43.false) c.with_digit.ensures

pub returns-in-Plus : goal.returns-in-Plus
returns-in-Plus c = rw c.in-Plus.is c.with_digit-in-Plus.ensures

pub returns-in-Is : goal.returns-in-Is
returns-in-Is c = rw c.in-Is.is c.with_digit-in-Is.ensures
