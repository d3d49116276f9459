use Rattle.places.proofs.Scalars.{kind_is}
use Rattle.rules.specs.Bytes.{byte_at}
use Rattle.places.specs.Kinds.{kind_by}
use mathlib.Core.Path.{◌∙◌, ap}
use borrow.Author.Rules.{rules}
use Rattle.places.proofs.kind_of.Goals as goal

pub returns : goal.returns
returns c = c.kind_by.ensures ∙ ap kind_by (c.byte.ensures ∙ ap (byte_at c.args.s.now) c.start.ensures.0) ∙ kind_is c.args.s.now c.args.i
