use Rattle.layout.specs.Walk.{place_by}
use Rattle.layout.proofs.Parts.{path_level, path_other, path_segs}
use Rattle.rules.specs.Bits.{bits}
use mathlib.Core.Path.{◌∙◌}
use native.Mathlib.Omega.{arith}
use Rattle.layout.proofs.part.path.Goals as goal

pub returns-in-0 : goal.returns-in-0
returns-in-0 c = c.segments.ensures ∙ path_segs (bits c.args.b.now) (place_by c.args.p) _ _ _ c.string-raw.ensures c.number-k.ensures c.ahead-q.ensures c.in-0.is

pub returns-in-1 : goal.returns-in-1
returns-in-1 c = c.level.ensures ∙ path_level (bits c.args.b.now) (place_by c.args.p) _ _ _ c.string-raw.ensures c.number-k.ensures c.ahead-q.ensures c.in-1.is

pub returns-in_default : goal.returns-in_default
returns-in_default c = path_other (bits c.args.b.now) (place_by c.args.p) _ _ _ c.string-raw.ensures c.number-k.ensures c.ahead-q.ensures (omega arith)
