use mathlib.Core.Path.{sym, ap}
use Rattle.expand.specs.Answers.{with_one}
use borrow.Author.Rules.{rules}
use Rattle.expand.proofs.with_one.Goals as goal

pub returns-in-Ok : goal.returns-in-Ok
returns-in-Ok c = ap (with_one c.args.q) (sym c.in-Ok.is)

pub returns-in-Err : goal.returns-in-Err
returns-in-Err c = ap (with_one c.args.q) (sym c.in-Err.is)
