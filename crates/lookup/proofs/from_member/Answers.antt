use Rattle.lookup.specs.Places as spec
use mathlib.Core.Path.{ap, sym}
use borrow.Author.Rules.{rules}
use Rattle.lookup.proofs.from_member.Goals as goal

pub returns-in-Some : goal.returns-in-Some
returns-in-Some c = sym (ap spec.from_member c.in-Some.is)
