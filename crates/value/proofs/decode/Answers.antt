use mathlib.Core.Path.{◌∙◌}
use Rattle.rules.specs.Picks.{picks}
use Rattle.value.specs.Numbers.{decoded}
use borrow.Author.Rules.{rules}
use Rattle.value.proofs.decode.Goals as goal

pub returns-then-tag-lt5 : goal.returns-then-tag-lt5
unfolding decoded
returns-then-tag-lt5 c = c.decode_word.ensures ∙ search picks depth 12

pub returns-then-tag-lt12 : goal.returns-then-tag-lt12
unfolding decoded
returns-then-tag-lt12 c = c.decode_place.ensures ∙ search picks depth 12

pub returns : goal.returns
unfolding decoded
returns c = c.decode_pair.ensures ∙ search picks depth 12
