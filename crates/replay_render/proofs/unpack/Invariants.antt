use Rattle.std.proofs.Common.{◌≤◌}
use Rattle.replay_render.proofs.unpack.Given as goal

abbrev pub invariant-loop : goal.invariant-loop
invariant-loop l = l.at ≤ 262144
