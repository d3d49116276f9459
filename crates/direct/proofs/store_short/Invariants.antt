use Rattle.bits.specs.Packed.{number_bytes}
use lib.Seq.{sets}
use lib.ListN.{take}
use mathlib.Core.Path.{◌≡◌}
use Rattle.direct.proofs.store_short.Given as goal

abbrev pub invariant-loop-j : goal.invariant-loop-j
invariant-loop-j l = l.out ≡ sets l.initial.out l.at (take l.j (number_bytes 7 l.x))
