use native.Mathlib.Omega.{arith}
use Rattle.calls.specs.Calls.{behind_is, pairs_fits}
use Rattle.parts.specs.HoldsLaws.{counted_holds}
use Rattle.rules.specs.BundleLaws.{bits_size}
use Rattle.rules.specs.Bundle.{param}
use Rattle.rules.specs.Bits.{bits}
use Rattle.calls.proofs.call_behind.Goals as goal

pub overflow_add-result : goal.overflow_add-result
overflow_add-result c = let s = c in omega (arith, (counted_holds 4 (param s.args.d) (bits s.args.b.now) s.args.q s.requires.1).fits, bits_size s.args.b.now)

pub overflow_add-result-2 : goal.overflow_add-result-2
overflow_add-result-2 c = let s = c in omega (arith, c.skip_params-r.ensures, pairs_fits s.args.d (bits s.args.b.now) _ s.requires.2, bits_size s.args.b.now)

pub returns : goal.returns
returns c = let s = c in behind_is s.args.d (bits s.args.b.now) s.args.q _ c.skip_params-r.ensures _ _ c.field.ensures c.field-2.ensures
