use Rattle.rules.specs.Picks.{picks}
use Rattle.value.specs.Numbers.{word_of}
use borrow.Author.Rules.{rules}
use Rattle.value.proofs.decode_word.Goals as goal

pub returns-then-tag-eq0 : goal.returns-then-tag-eq0
unfolding word_of
returns-then-tag-eq0 c = search picks depth 12

pub returns-then-tag-eq1 : goal.returns-then-tag-eq1
unfolding word_of
returns-then-tag-eq1 c = search picks depth 12

pub returns-then-tag-eq2 : goal.returns-then-tag-eq2
unfolding word_of
returns-then-tag-eq2 c = search picks depth 12

pub returns-then-tag-eq3 : goal.returns-then-tag-eq3
unfolding word_of
returns-then-tag-eq3 c = search picks depth 12

pub returns : goal.returns
unfolding word_of
returns c = search picks depth 12
