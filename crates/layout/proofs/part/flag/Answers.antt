use Rattle.layout.specs.Walk.{place_by}
use Rattle.layout.proofs.Parts.{flag_is}
use Rattle.rules.specs.Bits.{bits}
use mathlib.Core.Path.{◌∙◌}
use Rattle.layout.proofs.part.flag.Goals as goal

pub returns : goal.returns
returns c = c.ahead.ensures ∙ flag_is (bits c.args.b.now) (place_by c.args.p)
