use Rattle.layout.specs.Walk.{place_by}
use Rattle.layout.proofs.Parts.{literal_negative, literal_other, literal_stays, literal_string, literal_unsigned}
use Rattle.rules.specs.Bits.{bits}
use mathlib.Core.Path.{◌∙◌}
use native.Mathlib.Omega.{arith}
use Rattle.layout.proofs.part.literal.Goals as goal

pub returns-in-0-to-2 : goal.returns-in-0-to-2
returns-in-0-to-2 c = literal_stays (bits c.args.b.now) (place_by c.args.p) _ _ c.number-k.ensures c.ahead-q.ensures (omega arith)

pub returns-in-3 : goal.returns-in-3
returns-in-3 c = c.ahead.ensures ∙ literal_unsigned (bits c.args.b.now) (place_by c.args.p) _ _ c.number-k.ensures c.ahead-q.ensures c.in-3.is

pub returns-in-4 : goal.returns-in-4
returns-in-4 c = c.negative.ensures ∙ literal_negative (bits c.args.b.now) (place_by c.args.p) _ _ c.number-k.ensures c.ahead-q.ensures c.in-4.is

pub returns-in-5 : goal.returns-in-5
returns-in-5 c = c.string.ensures ∙ literal_string (bits c.args.b.now) (place_by c.args.p) _ _ c.number-k.ensures c.ahead-q.ensures c.in-5.is

pub returns-in_default : goal.returns-in_default
returns-in_default c = literal_other (bits c.args.b.now) (place_by c.args.p) _ _ c.number-k.ensures c.ahead-q.ensures (omega arith)
