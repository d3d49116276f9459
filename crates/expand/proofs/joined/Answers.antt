use Rattle.std.specs.Prelude.{Result}
use mathlib.Core.Path.{sym, ap}
use Rattle.expand.specs.Answers.{joined}
use borrow.Author.Rules.{rules}
use Rattle.expand.proofs.joined.Goals as goal
use Rattle.error.specs.declared.RenderErrorReason.{RenderErrorReason as Reason}
use Rattle.value.specs.declared.Value.{Value}

pub returns-in-Ok : goal.returns-in-Ok
returns-in-Ok c = ap (λ (x : Result Value Reason). joined x c.args.rest) (sym c.in-Ok.is)

pub returns-in-Err : goal.returns-in-Err
returns-in-Err c = ap (λ (x : Result Value Reason). joined x c.args.rest) (sym c.in-Err.is)
