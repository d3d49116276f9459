use Rattle.rules.specs.Scan.{says}
use Rattle.rules.specs.State.{depth}
use Rattle.saying.proofs.Lists.{lists}
use borrow.Author.Rules.{rules}
use Rattle.saying.proofs.said_count.Goals as goal

pub returns-then-byte-ne92 : goal.returns-then-byte-ne92
unfolding says
returns-then-byte-ne92 c = simp (← c.byte.ensures) (search lists depth 9)

pub returns-then-byte-ne117 : goal.returns-then-byte-ne117
unfolding says
returns-then-byte-ne117 c = simp (← c.byte.ensures, ← c.byte-2.ensures) (search lists depth 9)

pub returns : goal.returns
unfolding says
returns c = simp (← c.byte.ensures, ← c.byte-2.ensures, ← c.code_point.ensures.0) (search (lists, c.encoded_count.ensures) depth 9)
