use Rattle.plan_read.specs.Reading.{judged}
use Rattle.rules.specs.State.{depth}
use Rattle.rules.specs.Picks.{picks}
use borrow.Author.Rules.{rules}
use Rattle.plan_read.proofs.judge.Goals as goal

pub returns-then-at-eq-NOTHING : goal.returns-then-at-eq-NOTHING
unfolding judged
returns-then-at-eq-NOTHING c = search picks depth 9

pub returns-then-spaces_end-s : goal.returns-then-spaces_end-s
unfolding judged
returns-then-spaces_end-s c = simp (← c.spaces_end.ensures) (search picks depth 9)

pub returns-then-r-ne0 : goal.returns-then-r-ne0
unfolding judged
returns-then-r-ne0 c = simp (← c.spaces_end.ensures) (search picks depth 9)

pub returns-then-r-gt-VALUES : goal.returns-then-r-gt-VALUES
unfolding judged
returns-then-r-gt-VALUES c = simp (← c.spaces_end.ensures) (search picks depth 9)

pub returns : goal.returns
unfolding judged
returns c = simp (← c.spaces_end.ensures) (search picks depth 9)
