use Rattle.rules.specs.Tree.{is_open}
use Rattle.rules.specs.Picks.{or_false}
use Rattle.plan_read.proofs.is_open.Goals as goal

pub returns : goal.returns
unfolding is_open
returns c = simp or_false
