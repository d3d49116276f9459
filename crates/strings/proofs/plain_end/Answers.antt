use Rattle.scan.proofs.Runs.{run_off, run_on, run_out}
use Rattle.strings.specs.Plain.{is_plain}
use mathlib.Core.Path.{◌∙◌, sym}
use Rattle.strings.proofs.plain_end.Goals as goal

pub returns-then-not-is_plain : goal.returns-then-not-is_plain
returns-then-not-is_plain c = let l = c.loop-j in
    sym (l.invariant ∙ run_off is_plain c.args.s.now l.j c.loop-j-test.true (sym c.is_plain.ensures ∙ c.if-not-is_plain.true))

pub loop-j-preserved : goal.loop-j-preserved
loop-j-preserved c = let l = c.loop-j in
    l.invariant ∙ run_on is_plain c.args.s.now l.j c.loop-j-test.true (sym c.is_plain.ensures ∙ c.if-not-is_plain.false)

pub returns : goal.returns
returns c = let l = c.loop-j in
    c.max.ensures ∙ run_out is_plain c.args.s.now c.args.i l.j c.loop-j-test.false l.auto.j-end l.invariant
