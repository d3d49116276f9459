use Rattle.std.proofs.Common.{◌≤◌, length}
use Rattle.replay_render.proofs.load.Given as goal

abbrev pub invariant-loop : goal.invariant-loop
invariant-loop g l = l.n ≤ length l.buf
