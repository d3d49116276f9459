use mathlib.Core.Path.{◌≡◌}
use Rattle.rules.specs.Bytes.{before}
use Rattle.rules.specs.Bits.{bits}
use Rattle.bits.specs.Packed.{bytes_at}
use Rattle.bits.specs.Compare.{BeforeFrom}
use Rattle.bits.proofs.before_at.Given as goal

abbrev pub invariant-loop-i : goal.invariant-loop-i
invariant-loop-i l = BeforeFrom (bytes_at (bits l.s) l.p l.n) (bytes_at (bits l.s) l.q l.m) l.i ≡ before (bytes_at (bits l.s) l.p l.n) (bytes_at (bits l.s) l.q l.m)
