use Rattle.layout.proofs.Parts.{level_is}
use Rattle.layout.specs.Walk.{place_by, after}
use Rattle.rules.specs.Bits.{bits}
use Rattle.rules.specs.Bundle.{string}
use mathlib.Core.Path.{◌∙◌, ap}
use Rattle.layout.proofs.part.level.Goals as goal

pub returns : goal.returns
returns c = c.string.ensures ∙ ap (after string (bits c.args.b.now)) c.ahead.ensures ∙ level_is (bits c.args.b.now) (place_by c.args.p)
