use Rattle.rules.specs.Picks.{picks}
use Rattle.scan.specs.Short.{plain_number_end}
use borrow.Author.Rules.{rules}
use Rattle.scan.proofs.plain_number_end.Goals as goal

pub returns-then-w-eq0 : goal.returns-then-w-eq0
unfolding plain_number_end
returns-then-w-eq0 c = simp (← c.whole_end-w.ensures) (search picks depth 9)

pub returns-then-c-i : goal.returns-then-c-i
unfolding plain_number_end
returns-then-c-i c = simp (← c.whole_end-w.ensures, ← c.byte-c.ensures) (search picks depth 9)

pub returns : goal.returns
unfolding plain_number_end
returns c = simp (← c.whole_end-w.ensures, ← c.byte-c.ensures) (search picks depth 9)
