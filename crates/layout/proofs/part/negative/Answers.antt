use Rattle.layout.specs.Walk.{place_by}
use Rattle.layout.proofs.Parts.{negative_is, negative_not}
use Rattle.rules.specs.Bits.{bits}
use mathlib.Core.Path.{◌∙◌}
use Rattle.layout.proofs.part.negative.Goals as goal

pub returns-then-number-ge-SIGN : goal.returns-then-number-ge-SIGN
returns-then-number-ge-SIGN c = c.ahead.ensures ∙ negative_is (bits c.args.b.now) (place_by c.args.p) _ c.number.ensures c.if-number-ge-SIGN.true

pub returns : goal.returns
returns c = negative_not (bits c.args.b.now) (place_by c.args.p) _ c.number.ensures c.if-number-ge-SIGN.false
