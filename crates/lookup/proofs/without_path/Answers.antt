use Rattle.lookup.specs.Places as spec
use mathlib.Core.Path.{ap, sym}
use borrow.Author.Rules.{rules}
use Rattle.lookup.proofs.without_path.Goals as goal

pub returns-in-At : goal.returns-in-At
returns-in-At c = sym (ap spec.without_path c.in-At.is)

pub returns-in-Nothing : goal.returns-in-Nothing
returns-in-Nothing c = sym (ap spec.without_path c.in-Nothing.is)

pub returns-in-BadIndex : goal.returns-in-BadIndex
returns-in-BadIndex c = sym (ap spec.without_path c.in-BadIndex.is)
