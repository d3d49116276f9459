use Rattle.bits.specs.Packed.{number_bytes}
use mathlib.Core.Bool.{and_assoc, and-true}
use native.Mathlib.Nat.{div-one}
use Rattle.layout.proofs.part.is_ascii.Goals as goal

pub returns : goal.returns
unfolding number_bytes
returns c = simp (and_assoc, and-true, div-one)
