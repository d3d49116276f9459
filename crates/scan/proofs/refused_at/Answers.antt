use Rattle.rules.specs.Plan.{refused_at}
use Rattle.rules.specs.State.{depth}
use Rattle.rules.specs.Picks.{picks}
use borrow.Author.Rules.{rules}
use Rattle.scan.proofs.refused_at.Goals as goal

pub returns-then-is_outside : goal.returns-then-is_outside
unfolding refused_at
returns-then-is_outside c = simp (← c.byte-c.ensures, ← c.is_digit.ensures, ← c.is_outside.ensures) (search picks depth 9)

pub returns-else-is_outside : goal.returns-else-is_outside
unfolding refused_at
returns-else-is_outside c = simp (← c.byte-c.ensures, ← c.is_digit.ensures, ← c.is_outside.ensures) (search picks depth 9)

pub returns-else-c-is_digit : goal.returns-else-c-is_digit
unfolding refused_at
returns-else-c-is_digit c = simp (← c.byte-c.ensures, ← c.is_digit.ensures) (search picks depth 9)
