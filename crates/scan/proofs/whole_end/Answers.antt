use Rattle.rules.specs.Scan.{whole_end}
use Rattle.rules.specs.State.{depth}
use Rattle.rules.specs.Picks.{no, picks}
use borrow.Author.Rules.{rules}
use borrow.Author.Tests.{ne_eqb}
use mathlib.Core.Path.{◌∙◌}
use Rattle.scan.proofs.whole_end.Goals as goal

pub returns-then-byte-eq48 : goal.returns-then-byte-eq48
unfolding whole_end
returns-then-byte-eq48 c = simp (← c.byte.ensures) (search picks depth 9)

pub returns : goal.returns
unfolding whole_end
returns c = no _ _ _ _ (ne_eqb _ _ (λ e. c.if-byte-eq48.false (c.byte.ensures ∙ e))) c.some_digits_end.ensures
