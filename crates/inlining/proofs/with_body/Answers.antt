use mathlib.Core.Path.{sym, ap₂}
use Rattle.inlining.specs.Decorated.{with_body}
use borrow.Author.Rules.{rules}
use Rattle.inlining.proofs.with_body.Goals as goal

pub returns-in-Bad : goal.returns-in-Bad
returns-in-Bad c = sym (ap₂ with_body c.if-has_body.false c.in-Bad.is)

pub returns-in-New : goal.returns-in-New
returns-in-New c = sym (ap₂ with_body c.if-has_body.false c.in-New.is)

pub returns-in-Again : goal.returns-in-Again
returns-in-Again c = sym (ap₂ with_body c.if-has_body.false c.in-Again.is)
