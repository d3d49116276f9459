use Rattle.std.proofs.Common.{ap, sym, ◌∙◌, ◌<◌, arith}
use Rattle.layout.specs.Verdict.{error_number, verdict_number}
use Rattle.layout.specs.declared.BundleError.{BundleError}
use Rattle.layout.specs.declared.BundleError.TheVariants.{TooLong, BadLayout, PartialContext}
use Rattle.replay_bundles.proofs.number_of.Goals as goal

below_five : (e : BundleError) → error_number e < 5
below_five TooLong = omega arith
below_five BadLayout = omega arith
below_five PartialContext = omega arith

pub returns-in-Err : goal.returns-in-Err
returns-in-Err c = (c.from.ensures ∙ ap verdict_number (sym c.in-Err.is), omega (arith, c.from.ensures, below_five c.in-Err.e))
