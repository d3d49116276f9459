use Rattle.std.proofs.Common.{◌≡◌}
use Rattle.bits.specs.Packed.{bytes_at}
use Rattle.rules.specs.Bits.{bits}
use Rattle.utf8.specs.Machine.{wanted, begun, after}
use Rattle.test_chars.proofs.is_valid.Given as goal

abbrev pub invariant-loop-i : goal.invariant-loop-i
invariant-loop-i l = wanted l.u ≡ after begun (bytes_at (bits l.b) l.p l.i)
