use Rattle.decimal.proofs.Digits.{digits_at}
use Rattle.rules.specs.Bytes.{digits}
use lib.ListN.{get_or-eq_default}
use mathlib.Core.Path.{sym, ◌∙◌}
use native.Mathlib.Omega.{arith}
use Rattle.decimal.proofs.digit.Goals as goal

pub returns-then-count-i : goal.returns-then-count-i
returns-then-count-i c = sym (get_or-eq_default (digits c.args.n) 0 (rw c.digit_count-count.ensures at c.if-count-i.true))

pub returns : goal.returns
returns c = let a = c.args in
    let e = c.digit_count-count.ensures in
    c.place.ensures ∙ rw e (sym (digits_at a.n a.i (omega arith) (rw e at c.if-count-i.false)))
