use mathlib.Core.Path.{ap}
use lib.Dec.{eqb}
use borrow.Author.Rules.{rules}
use Rattle.reader.proofs.is_version.Goals as goal

pub returns : goal.returns
returns c = ap (λ v. eqb v c.args.n) c.version.ensures
