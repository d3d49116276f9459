use Rattle.rules.specs.Scan.{saying}
use Rattle.saying.proofs.Comparing.{equal_same}
use mathlib.Core.Path.{◌∙◌}
use Rattle.saying.proofs.is_same.Goals as goal

pub returns : goal.returns
returns c = c.is_eq.ensures ∙ equal_same (saying c.args.s.now c.args.i) (saying c.args.s.now c.args.j) c.compare.result c.compare.ensures
