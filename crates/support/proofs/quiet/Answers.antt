use mathlib.Core.Path.{◌≡◌, sym, ◌∙◌}
use native.Mathlib.Omega.{arith}
use lib.ListN.{length}
use Rattle.support.specs.Runs.{quiet_byte}
use Rattle.support.proofs.Runs.{run_next, run_stop, run_over}
use Rattle.support.proofs.quiet.Goals as goal

pub returns-then-not-is_quiet : goal.returns-then-not-is_quiet
returns-then-not-is_quiet c = let a = c.args in
    let l = c.loop-j in
    (run_stop (quiet_byte a.has_indent a.escape) a.v.now l.j (omega arith) _ (sym c.is_quiet.ensures ∙ c.if-not-is_quiet.true) l.invariant, omega arith)

pub loop-j-preserved : goal.loop-j-preserved
loop-j-preserved c = let a = c.args in
    let l = c.loop-j in
    run_next (quiet_byte a.has_indent a.escape) a.v.now l.j (omega arith) _ (sym c.is_quiet.ensures ∙ c.if-not-is_quiet.false) l.invariant

pub returns : goal.returns
returns c = let a = c.args in
    let l = c.loop-j in
    let e : l.j ≡ length a.v.now = omega arith in
    (sym e ∙ run_over (quiet_byte a.has_indent a.escape) a.v.now l.j _ (omega arith) l.invariant, omega arith)
