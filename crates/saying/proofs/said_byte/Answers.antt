use Rattle.rules.specs.Scan.{says}
use Rattle.rules.specs.State.{depth}
use Rattle.saying.proofs.Lists.{lists}
use borrow.Author.Rules.{rules}
use Rattle.saying.proofs.said_byte.Goals as goal

pub returns-then-c-ne92 : goal.returns-then-c-ne92
unfolding says
returns-then-c-ne92 c = simp (← c.byte-c.ensures) (search (lists, c.nth.ensures) depth 9)

pub returns-then-e-ne117 : goal.returns-then-e-ne117
unfolding says
returns-then-e-ne117 c = simp (← c.byte-c.ensures, ← c.byte-e.ensures, ← c.escaped_byte.ensures) (search (lists, c.nth-then-e-ne117.ensures) depth 9)

pub returns : goal.returns
unfolding says
returns c = simp (← c.byte-c.ensures, ← c.byte-e.ensures, ← c.code_point.ensures.0) (search (lists, c.encoded_byte.ensures) depth 9)
