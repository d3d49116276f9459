use Rattle.std.proofs.Common.{◌≤◌}
use Rattle.replay_render.proofs.replay.Given as goal

abbrev pub invariant-loop-i : goal.invariant-loop-i
invariant-loop-i g l = l.at ≤ 262144
