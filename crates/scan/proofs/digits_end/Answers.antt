use Rattle.rules.specs.Scan.{is_digit}
use Rattle.scan.proofs.Runs.{run_off, run_on, run_out}
use mathlib.Core.Path.{◌∙◌, sym}
use Rattle.scan.proofs.digits_end.Goals as goal

pub returns-then-not-is_digit : goal.returns-then-not-is_digit
returns-then-not-is_digit c = let l = c.loop-j in
    sym (l.invariant ∙ run_off is_digit c.args.s.now l.j c.loop-j-test.true (sym c.is_digit.ensures ∙ c.if-not-is_digit.true))

pub loop-j-preserved : goal.loop-j-preserved
loop-j-preserved c = let l = c.loop-j in
    l.invariant ∙ run_on is_digit c.args.s.now l.j c.loop-j-test.true (sym c.is_digit.ensures ∙ c.if-not-is_digit.false)

pub returns : goal.returns
returns c = let l = c.loop-j in
    c.max.ensures ∙ run_out is_digit c.args.s.now c.args.i l.j c.loop-j-test.false l.auto.j-end l.invariant
