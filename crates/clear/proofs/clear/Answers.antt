use mathlib.Core.Path.{◌∙◌}
use Rattle.clear.specs.Cleared.{cleared_whole}
use Rattle.clear.proofs.clear.Goals as goal

pub returns : goal.returns
returns g c = c.clear_from.ensures ∙ cleared_whole c.args.zero c.args.b.now
