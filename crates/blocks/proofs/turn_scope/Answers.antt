use mathlib.Core.Path.{◌∙◌}
use borrow.Author.Rules.{rules}
use Rattle.blocks.proofs.turn_scope.Goals as goal

pub returns : goal.returns
returns c = c.turn.ensures ∙ rw (c.encode-2.ensures, c.encode.ensures)
