use mathlib.Core.Path.{◌≡◌}
use lib.ListN.{take}
use lib.Seq.{sets}
use Rattle.rules.specs.Bits.{bits}
use Rattle.bits.specs.Packed.{bytes_at}
use Rattle.output.proofs.copy_bytes.Given as goal

abbrev pub invariant-loop-i : goal.invariant-loop-i
invariant-loop-i l = l.out ≡ sets l.initial.out l.at (take l.i (bytes_at (bits l.s) l.p l.n))
