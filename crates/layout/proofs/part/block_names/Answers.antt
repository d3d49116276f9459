use Rattle.layout.proofs.Parts.{names_none, names_one, names_other, names_two}
use Rattle.layout.specs.Walk.{place_by, after}
use Rattle.rules.specs.Bits.{bits}
use Rattle.rules.specs.Bundle.{string}
use mathlib.Core.Path.{◌∙◌, ap}
use native.Mathlib.Omega.{arith}
use Rattle.layout.proofs.part.block_names.Goals as goal

pub returns-in-0 : goal.returns-in-0
returns-in-0 c = names_none (bits c.args.b.now) (place_by c.args.p) _ _ c.number-k.ensures c.ahead-q.ensures c.in-0.is

pub returns-in-1 : goal.returns-in-1
returns-in-1 c = c.string.ensures ∙ names_one (bits c.args.b.now) (place_by c.args.p) _ _ c.number-k.ensures c.ahead-q.ensures c.in-1.is

pub returns-in-2 : goal.returns-in-2
returns-in-2 c = c.string-in-2-2.ensures ∙ ap (after string (bits c.args.b.now)) c.string-in-2.ensures ∙ names_two (bits c.args.b.now) (place_by c.args.p) _ _ c.number-k.ensures c.ahead-q.ensures c.in-2.is

pub returns-in_default : goal.returns-in_default
returns-in_default c = names_other (bits c.args.b.now) (place_by c.args.p) _ _ c.number-k.ensures c.ahead-q.ensures (omega arith)
