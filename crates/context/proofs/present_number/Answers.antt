use Rattle.context.specs.Numbers.{present_missing, present_other}
use Rattle.context.proofs.present_number.Goals as goal

pub returns-then-n-eq0 : goal.returns-then-n-eq0
returns-then-n-eq0 c = present_missing c.args.n c.if-n-eq0.true

pub returns : goal.returns
returns c = present_other c.args.n c.if-n-eq0.false
