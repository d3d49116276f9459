use Rattle.rules.specs.Scan.{fraction_end}
use Rattle.rules.specs.State.{depth}
use Rattle.rules.specs.Picks.{picks}
use borrow.Author.Rules.{rules}
use Rattle.scan.proofs.fraction_end.Goals as goal

pub returns-then-byte-eq46 : goal.returns-then-byte-eq46
unfolding fraction_end
returns-then-byte-eq46 c = simp (← c.byte.ensures, ← c.some_digits_end.ensures) (search picks depth 9)

pub returns : goal.returns
unfolding fraction_end
returns c = simp (← c.byte.ensures) (search picks depth 9)
