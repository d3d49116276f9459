use Rattle.bits.specs.Packed.{number_bytes}
use Rattle.utf8.specs.Machine.{wanted, after}
use mathlib.Core.Path.{◌≡◌}
use Rattle.layout.proofs.part.stepped.Given as goal

abbrev pub invariant-loop-i : goal.invariant-loop-i
invariant-loop-i l = after (wanted l.v) (number_bytes l.i l.x) ≡ after (wanted l.initial.v) (number_bytes l.k l.x)
