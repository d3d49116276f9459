use Rattle.rules.specs.Scan.{is_space}
use Rattle.scan.proofs.Runs.{run_off, run_on, run_out}
use mathlib.Core.Path.{◌∙◌, sym}
use Rattle.scan.proofs.spaces_on.Goals as goal

pub returns-then-not-is_space : goal.returns-then-not-is_space
returns-then-not-is_space c = let l = c.loop-j in
    sym (l.invariant ∙ run_off is_space c.args.s.now l.j c.loop-j-test.true (sym c.is_space.ensures ∙ c.if-not-is_space.true))

pub loop-j-preserved : goal.loop-j-preserved
loop-j-preserved c = let l = c.loop-j in
    l.invariant ∙ run_on is_space c.args.s.now l.j c.loop-j-test.true (sym c.is_space.ensures ∙ c.if-not-is_space.false)

pub returns : goal.returns
returns c = let l = c.loop-j in
    c.max.ensures ∙ run_out is_space c.args.s.now c.args.i l.j c.loop-j-test.false l.auto.j-end l.invariant
