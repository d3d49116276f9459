use Rattle.layout.proofs.Parts.{tail_none, tail_other, tail_some}
use Rattle.layout.specs.Walk.{place_by, after}
use Rattle.rules.specs.Bits.{bits}
use Rattle.rules.specs.Bundle.{flag}
use mathlib.Core.Path.{◌∙◌, ap}
use native.Mathlib.Omega.{arith}
use Rattle.layout.proofs.part.tail.Goals as goal

pub returns-in-0 : goal.returns-in-0
returns-in-0 c = c.flag.ensures ∙ tail_none (bits c.args.b.now) (place_by c.args.p) _ _ c.number-k.ensures c.ahead-q.ensures c.in-0.is

pub returns-in-1 : goal.returns-in-1
returns-in-1 c = c.flag-in-1.ensures ∙ ap (after flag (bits c.args.b.now)) c.string.ensures ∙ tail_some (bits c.args.b.now) (place_by c.args.p) _ _ c.number-k.ensures c.ahead-q.ensures c.in-1.is

pub returns-in_default : goal.returns-in_default
returns-in_default c = tail_other (bits c.args.b.now) (place_by c.args.p) _ _ c.number-k.ensures c.ahead-q.ensures (omega arith)
