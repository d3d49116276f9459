use mathlib.Core.Path.{◌≡◌}
use lib.ListN.{length}
use Rattle.rules.specs.Bytes.{same}
use Rattle.bits.specs.Packed.{number_bytes}
use Rattle.bits.specs.Compare.{SameFrom}
use Rattle.scope.proofs.spells.Given as goal

abbrev pub invariant-loop-i : goal.invariant-loop-i
invariant-loop-i l = SameFrom (number_bytes (length l.t) l.z) l.t l.i ≡ same (number_bytes (length l.t) l.z) l.t
