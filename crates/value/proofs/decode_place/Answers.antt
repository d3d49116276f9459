use Rattle.rules.specs.Picks.{picks}
use Rattle.value.specs.Numbers.{place_of}
use borrow.Author.Rules.{rules}
use Rattle.value.proofs.decode_place.Goals as goal

pub returns-then-tag-eq5 : goal.returns-then-tag-eq5
unfolding place_of
returns-then-tag-eq5 c = search picks depth 12

pub returns-then-tag-eq6 : goal.returns-then-tag-eq6
unfolding place_of
returns-then-tag-eq6 c = search picks depth 12

pub returns-then-tag-eq7 : goal.returns-then-tag-eq7
unfolding place_of
returns-then-tag-eq7 c = search picks depth 12

pub returns-then-tag-eq8 : goal.returns-then-tag-eq8
unfolding place_of
returns-then-tag-eq8 c = search picks depth 12

pub returns-then-tag-eq9 : goal.returns-then-tag-eq9
unfolding place_of
returns-then-tag-eq9 c = search picks depth 12

pub returns-then-tag-eq10 : goal.returns-then-tag-eq10
unfolding place_of
returns-then-tag-eq10 c = search picks depth 12

pub returns : goal.returns
unfolding place_of
returns c = search picks depth 12
