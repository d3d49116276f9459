use Rattle.parts.specs.HoldsLaws.{string_in}
use Rattle.rules.specs.BundleLaws.{bits_size}
use Rattle.rules.specs.Bits.{bits}
use lib.ListN.{get_or}
use Prim.Native.Nat.{ℕ}
use mathlib.Core.Path.{ap}
use native.Mathlib.Omega.{arith}
use Rattle.registry.proofs.indexed_at.Goals as goal

pub overflow_cast-p : goal.overflow_cast-p
overflow_cast-p c = let z = c in omega (arith, string_in (bits z.args.b.now) _ z.requires.2, bits_size z.args.b.now, z.requires.0)

pub returns : goal.returns
returns c = let z = c in ap (λ (q : ℕ). record { name = get_or z.args.places.now z.args.k 0; body = q }) c.skip_string.ensures
