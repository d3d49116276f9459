use Rattle.rules.specs.Bytes.{digits}
use Rattle.text.proofs.Laws.{drop_on}
use lib.ListN.{drop_of_length-le}
use native.Mathlib.Omega.{arith}
use Rattle.text.proofs.digits.Goals as goal

pub returns-then-count-k : goal.returns-then-count-k
returns-then-count-k c = drop_of_length-le (digits c.args.n) {i = c.args.k} (omega (arith, c.digit_count-count.ensures, c.if-count-k.true))

pub returns : goal.returns
returns c = let a = c.args in
    (drop_on (digits a.n) a.k c.digit.result (omega (arith, c.digit_count-count.ensures, c.if-count-k.false)) c.digit.ensures, tt)
