use Rattle.std.specs.Prelude.{Some}
use Rattle.state.specs.Setters as set
use Rattle.state.specs.Context.{whole}
use Rattle.output.specs.declared.Writer.{Writer}
use mathlib.Core.Path.{◌∙◌, ap}
use Prim.Native.Nat.{ℕ}
use borrow.Author.Rules.{rules}
use Rattle.state.proofs.wrote.Goals as goal
use Rattle.error.specs.declared.RenderErrorReason.{RenderErrorReason as Reason}

pub returns-then-w : goal.returns-then-w
returns-then-w c = λ l. ap (λ (e : Reason). set.failed (set.with_writer (whole c.args.rc l) c.args.w) (Some e)) c.full_reason.ensures ∙ rw c.if-w.true

pub returns-else-w : goal.returns-else-w
returns-else-w c = λ l. rw c.if-w.false
