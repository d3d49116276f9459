use Rattle.saying.proofs.Comparing.{equal_same}
use Rattle.text.specs.Rest.{rest}
use mathlib.Core.Path.{◌∙◌}
use Rattle.text.proofs.same_steps.Goals as goal

pub returns : goal.returns
returns c = let a = c.args in
    c.is_eq.ensures ∙ equal_same (rest a.s.now a.b.now a.t) (rest a.s.now a.b.now a.u) c.compare.result c.compare.ensures
