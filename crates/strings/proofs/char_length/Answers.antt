use Rattle.rules.specs.Scan.{char_length}
use Rattle.rules.specs.State.{depth}
use Rattle.rules.specs.Picks.{picks}
use borrow.Author.Rules.{rules}
use Rattle.strings.proofs.char_length.Goals as goal

pub returns-then-c-lt32 : goal.returns-then-c-lt32
unfolding char_length
returns-then-c-lt32 c = simp (← c.byte-c.ensures) (search picks depth 9)

pub returns-then-c-eq92 : goal.returns-then-c-eq92
unfolding char_length
returns-then-c-eq92 c = simp (← c.byte-c.ensures, ← c.escape_length.ensures) (search picks depth 9)

pub returns : goal.returns
unfolding char_length
returns c = simp (← c.byte-c.ensures, ← c.utf8_length.ensures) (search picks depth 9)
