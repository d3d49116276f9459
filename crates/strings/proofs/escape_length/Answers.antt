use Rattle.rules.specs.Scan.{escape_length}
use Rattle.rules.specs.State.{depth}
use Rattle.rules.specs.Picks.{picks}
use borrow.Author.Rules.{rules}
use Rattle.strings.proofs.escape_length.Goals as goal

pub returns-then-is_short : goal.returns-then-is_short
unfolding escape_length
returns-then-is_short c = simp (← c.byte-e.ensures, ← c.is_short.ensures) (search picks depth 9)

pub returns-then-e-eq117 : goal.returns-then-e-eq117
unfolding escape_length
returns-then-e-eq117 c = simp (← c.byte-e.ensures, ← c.is_short.ensures, ← c.unicode_length.ensures) (search picks depth 9)

pub returns : goal.returns
unfolding escape_length
returns c = simp (← c.byte-e.ensures, ← c.is_short.ensures) (search picks depth 9)
