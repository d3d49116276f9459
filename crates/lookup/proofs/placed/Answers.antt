use mathlib.Core.Path.{ap, sym}
use Rattle.lookup.specs.Places as spec
use borrow.Author.Rules.{rules}
use Rattle.lookup.proofs.placed.Goals as goal

pub returns-in-Some : goal.returns-in-Some
returns-in-Some c = sym (ap spec.placed c.in-Some.is)
