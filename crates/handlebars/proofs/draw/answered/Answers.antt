use Rattle.state.specs.Context.{whole}
use Rattle.std.specs.Option.{is_some}
use mathlib.Core.Path.{refl, ap}
use Rattle.handlebars.specs.Answers.{failure_placed, failure_nowhere, number_so}
use Rattle.rules.specs.Picks.{yes, no}
use borrow.Author.Rules.{rules}
use Rattle.handlebars.proofs.draw.answered.Goals as goal

pub returns-in_default : goal.returns-in_default
returns-in_default c = λ l. no _ _ _ _ (ap is_some c.in_default.is) refl

pub returns-then-rc : goal.returns-then-rc
returns-then-rc c = λ l. yes _ _ _ _ (ap is_some c.in-Some.is) (failure_placed (whole c.args.rc l) _ (number_so c.in-Some.reason c.in-Some.is c.number-number.ensures) c.if-rc.true)

pub returns : goal.returns
returns c = λ l. yes _ _ _ _ (ap is_some c.in-Some.is) (failure_nowhere (whole c.args.rc l) _ (number_so c.in-Some.reason c.in-Some.is c.number-number.ensures) c.if-rc.false)
