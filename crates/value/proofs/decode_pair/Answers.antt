use Rattle.rules.specs.Picks.{picks}
use Rattle.value.specs.Numbers.{pair_of}
use borrow.Author.Rules.{rules}
use Rattle.value.proofs.decode_pair.Goals as goal

pub returns-then-tag-eq12 : goal.returns-then-tag-eq12
unfolding pair_of
returns-then-tag-eq12 c = search picks depth 12

pub returns-then-tag-eq13 : goal.returns-then-tag-eq13
unfolding pair_of
returns-then-tag-eq13 c = search picks depth 12

pub returns : goal.returns
unfolding pair_of
returns c = search picks depth 12
