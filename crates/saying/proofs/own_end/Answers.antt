use Rattle.scan.proofs.Runs.{run_off, run_on, run_out}
use Rattle.saying.specs.Said.{is_own}
use mathlib.Core.Path.{◌∙◌, refl, sym}
use Rattle.saying.proofs.own_end.Goals as goal

pub loop-j-init : goal.loop-j-init
loop-j-init c = refl

pub returns-then-not-is_own : goal.returns-then-not-is_own
returns-then-not-is_own c = let l = c.loop-j in
    sym (l.invariant ∙ run_off is_own c.args.s.now l.j c.loop-j-test.true (sym c.is_own.ensures ∙ c.if-not-is_own.true))

pub loop-j-preserved : goal.loop-j-preserved
loop-j-preserved c = let l = c.loop-j in
    l.invariant ∙ run_on is_own c.args.s.now l.j c.loop-j-test.true (sym c.is_own.ensures ∙ c.if-not-is_own.false)

pub returns : goal.returns
returns c = let l = c.loop-j in
    c.max.ensures ∙ run_out is_own c.args.s.now c.args.i l.j c.loop-j-test.false l.auto.j-end l.invariant
