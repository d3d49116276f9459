use Rattle.targets.specs.Target.{fallback}
use mathlib.Core.Path.{◌∙◌, ap, sym}
use borrow.Author.Rules.{rules}
use Rattle.targets.proofs.fallback.Goals as goal

pub returns-in-Some : goal.returns-in-Some
returns-in-Some c = sym (ap fallback c.in-Some.is)

pub returns-in-None : goal.returns-in-None
returns-in-None c = sym (ap fallback c.in-None.is)
