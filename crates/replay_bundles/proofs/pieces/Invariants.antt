use Rattle.std.proofs.Common.{◌≤◌}
use Rattle.replay_bundles.proofs.pieces.Given as goal

abbrev pub invariant-loop : goal.invariant-loop
invariant-loop l = (l.at ≤ 262144) × (l.to ≤ 524288)
