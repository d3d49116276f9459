use Prim.Native.Nat.{◌-◌}
use Rattle.scan.proofs.Runs.{run_end, run_off, run_on}
use Rattle.print.specs.Span.{is_calm, calm_end}
use borrow.Author.Rules.{rules}
use borrow.Author.Tests.{not-false, not-true}
use lib.ListN.{length}
use mathlib.Core.Path.{◌∙◌, ◌≡◌, refl, sym}
use Rattle.print.proofs.calm_end.Goals as goal

pub loop-j-preserved : goal.loop-j-preserved
loop-j-preserved c = let l = c.loop-j in
    l.invariant ∙ run_on is_calm c.args.s.now l.j c.loop-j-test.true (sym c.is_calm.ensures ∙ c.if-is_calm.true)

pub returns-else-is_calm : goal.returns-else-is_calm
returns-else-is_calm c = let l = c.loop-j in
    sym (l.invariant ∙ run_off is_calm c.args.s.now l.j c.loop-j-test.true (sym c.is_calm.ensures ∙ c.if-is_calm.false))

pub returns-after-loop-j : goal.returns-after-loop-j
returns-after-loop-j c = sym (c.loop-j.invariant ∙ run_end is_calm c.args.s.now c.loop-j.j c.loop-j-test.false)
