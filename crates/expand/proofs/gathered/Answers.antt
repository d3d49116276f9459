use Rattle.std.specs.Prelude.{Result}
use mathlib.Core.Path.{sym, ap}
use Rattle.expand.specs.Answers.{gathered}
use borrow.Author.Rules.{rules}
use Rattle.expand.proofs.gathered.Goals as goal
use Rattle.error.specs.declared.RenderErrorReason.{RenderErrorReason as Reason}
use Rattle.value.specs.declared.Value.{Value}

pub returns-in-Ok : goal.returns-in-Ok
returns-in-Ok c = let z = c in rw c.or.ensures (ap (λ (x : Result Value Reason). gathered x z.args.n z.args.ps z.args.hs) (sym c.in-Ok.is))

pub returns-in-Err : goal.returns-in-Err
returns-in-Err c = let z = c in ap (λ (x : Result Value Reason). gathered x z.args.n z.args.ps z.args.hs) (sym c.in-Err.is)
