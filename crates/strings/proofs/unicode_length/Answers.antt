use Rattle.rules.specs.Scan.{unicode_length}
use Rattle.rules.specs.State.{depth}
use Rattle.rules.specs.Picks.{picks}
use borrow.Author.Rules.{rules}
use Rattle.strings.proofs.unicode_length.Goals as goal

pub returns-then-v-lt55296 : goal.returns-then-v-lt55296
unfolding unicode_length
returns-then-v-lt55296 c = simp (← c.hex_four-v.ensures.0) (search picks depth 9)

pub returns-then-is_low : goal.returns-then-is_low
unfolding unicode_length
returns-then-is_low c = simp (← c.hex_four-v.ensures.0, ← c.is_low.ensures) (search picks depth 9)

pub returns-then-v-lt56320 : goal.returns-then-v-lt56320
unfolding unicode_length
returns-then-v-lt56320 c = simp (← c.hex_four-v.ensures.0, ← c.is_low.ensures) (search picks depth 9)

pub returns-then-v-lt57344 : goal.returns-then-v-lt57344
unfolding unicode_length
returns-then-v-lt57344 c = simp (← c.hex_four-v.ensures.0) (search picks depth 9)

pub returns-then-v-lt65536 : goal.returns-then-v-lt65536
unfolding unicode_length
returns-then-v-lt65536 c = simp (← c.hex_four-v.ensures.0) (search picks depth 9)

pub returns : goal.returns
unfolding unicode_length
returns c = simp (← c.hex_four-v.ensures.0) (search picks depth 9)
