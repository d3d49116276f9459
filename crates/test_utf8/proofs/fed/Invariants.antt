use Rattle.utf8.specs.Machine.{wanted, after}
use lib.ListN.{take}
use mathlib.Core.Path.{◌≡◌}
use Rattle.test_utf8.proofs.fed.Given as goal

abbrev pub invariant-loop-c : goal.invariant-loop-c
invariant-loop-c l = wanted l.u ≡ after (wanted l.initial.u) (take l.c-index l.s)
