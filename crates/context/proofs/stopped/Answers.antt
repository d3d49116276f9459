use mathlib.Core.Path.{sym, ap}
use Rattle.context.specs.Evaluated.{stopped}
use Rattle.context.proofs.stopped.Goals as goal

pub returns-in-On : goal.returns-in-On
returns-in-On c = sym (ap stopped c.in-On.is)

pub returns-in-Nothing : goal.returns-in-Nothing
returns-in-Nothing c = sym (ap stopped c.in-Nothing.is)

pub returns-in-BadIndex : goal.returns-in-BadIndex
returns-in-BadIndex c = sym (ap stopped c.in-BadIndex.is)
