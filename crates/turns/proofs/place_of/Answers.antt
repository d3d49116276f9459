use Rattle.turns.proofs.Places.{no_place}
use Rattle.turns.specs.Turning as spec
use mathlib.Core.Path.{ap, sym}
use borrow.Author.Rules.{rules}
use borrow.Enum.Refused.{opened}
use Rattle.turns.proofs.place_of.Goals as goal

pub returns-in-Context : goal.returns-in-Context
returns-in-Context c = sym (ap spec.place_of c.in-Context.is)

pub returns-in-Place : goal.returns-in-Place
returns-in-Place c = sym (ap spec.place_of c.in-Place.is)

pub returns-in_default : goal.returns-in_default
returns-in_default c = no_place c.args.v (opened c.in_default.in_default-own.keys3)
