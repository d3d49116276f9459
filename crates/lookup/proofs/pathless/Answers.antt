use borrow.Enum.Refused.{opened}
use mathlib.Core.Path.{ap, sym}
use Rattle.lookup.specs.Answers as answers
use Rattle.lookup.proofs.Told.{no_context}
use borrow.Author.Rules.{rules}
use Rattle.lookup.proofs.pathless.Goals as goal

pub returns-in_default : goal.returns-in_default
returns-in_default c = (no_context c.args.v (opened c.in_default.in_default-own.keys2)).1

pub returns : goal.returns
returns c = sym (ap answers.pathless c.in-Context.is)
