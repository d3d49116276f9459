use Rattle.std.proofs.Common.{length, ◌-◌}
use Rattle.test_chars.proofs.report_all.Given as goal

abbrev pub decreases-loop-i : goal.decreases-loop-i
decreases-loop-i g l = length l.r - l.i
