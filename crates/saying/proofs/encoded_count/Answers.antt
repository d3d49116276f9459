use Rattle.rules.specs.Scan.{encoded}
use Rattle.rules.specs.State.{depth}
use Rattle.saying.proofs.Lists.{lists}
use Rattle.saying.proofs.encoded_count.Goals as goal

pub returns-then-p-lt-OF_TWO : goal.returns-then-p-lt-OF_TWO
unfolding encoded
returns-then-p-lt-OF_TWO c = search lists depth 9

pub returns-then-p-lt-OF_THREE : goal.returns-then-p-lt-OF_THREE
unfolding encoded
returns-then-p-lt-OF_THREE c = search lists depth 9

pub returns-then-p-lt-OF_FOUR : goal.returns-then-p-lt-OF_FOUR
unfolding encoded
returns-then-p-lt-OF_FOUR c = search lists depth 9

pub returns : goal.returns
unfolding encoded
returns c = search lists depth 9
