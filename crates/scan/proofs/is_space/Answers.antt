use Rattle.rules.specs.Scan.{is_space}
use Rattle.rules.specs.Picks.{or_false}
use Rattle.scan.proofs.is_space.Goals as goal

pub returns : goal.returns
unfolding is_space
returns c = simp or_false
