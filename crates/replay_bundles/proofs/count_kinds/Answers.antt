use Rattle.layout.specs.Verdict.{accepts}
use Rattle.replay_bundles.proofs.count_kinds.Goals as goal

pub count-n-requires : goal.count-n-requires
count-n-requires c = accepts _ _ c.check_bundle.ensures c.in-Ok.is
