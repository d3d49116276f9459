use borrow.Author.Rules.{rules}
use lib.Seq.{set_out}
use mathlib.Core.Path.{sym}
use Rattle.plan_read.proofs.put.Goals as goal

pub returns-else-n-tab : goal.returns-else-n-tab
returns-else-n-tab c = sym (set_out c.args.tab.now c.args.n c.args.e c.if-n-tab.false)
