use Rattle.rules.specs.Utf8.{utf8}
use lib.ListN.{length}
use mathlib.Core.Path.{◌≡◌}
use Rattle.utf8.proofs.is_utf8.Given as goal

abbrev pub invariant-loop-rest : goal.invariant-loop-rest
invariant-loop-rest l = utf8 l.rest ≡ utf8 l.s

abbrev pub decreases-loop-rest : goal.decreases-loop-rest
decreases-loop-rest l = length l.rest
