use Rattle.std.proofs.Common.{◌≤◌, ◌-◌, length}
use Rattle.test_utf8.proofs.report_all.Given as goal

abbrev pub invariant-loop-at : goal.invariant-loop-at
invariant-loop-at g l = l.at ≤ length l.texts

abbrev pub decreases-loop-at : goal.decreases-loop-at
decreases-loop-at g l = length l.texts - l.at
