use Rattle.std.proofs.Common.{length, ◌-◌}
use Rattle.test_text.proofs.with_texts.Given as goal

abbrev pub decreases-loop-i : goal.decreases-loop-i
decreases-loop-i g l = length l.r - l.i
