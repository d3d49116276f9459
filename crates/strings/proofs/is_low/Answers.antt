use Rattle.rules.specs.Scan.{is_low}
use Rattle.rules.specs.State.{depth}
use Rattle.rules.specs.Picks.{picks}
use borrow.Author.Rules.{rules}
use Rattle.strings.proofs.is_low.Goals as goal

pub returns-then-byte-ne92 : goal.returns-then-byte-ne92
unfolding is_low
returns-then-byte-ne92 c = simp (← c.byte.ensures) (search picks depth 9)

pub returns-then-byte-ne117 : goal.returns-then-byte-ne117
unfolding is_low
returns-then-byte-ne117 c = simp (← c.byte.ensures, ← c.byte-2.ensures) (search picks depth 9)

pub returns : goal.returns
unfolding is_low
returns c = simp (← c.byte.ensures, ← c.byte-2.ensures, ← c.hex_four-v.ensures.0) (search picks depth 9)
