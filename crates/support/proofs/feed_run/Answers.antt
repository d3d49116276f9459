use Rattle.support.proofs.Runs.{run_whole}
use Rattle.support.proofs.Steps.{emit_done}
use Rattle.output.specs.Writer.{output, over, all_put}
use Rattle.support.specs.Feed.{with_pen, penned}
use lib.ListN.{length, get_or}
use native.Mathlib.Omega.{arith}
use native.Mathlib.Numerals.{add-one}
use Prim.Native.Nat.{ℕ, suc, ◌+◌, ◌-◌}
use mathlib.Core.Path.{◌≡◌, sym, ap, ◌∙◌}
use Rattle.support.proofs.feed_run.Goals as goal

pub returns-then-n-eq0 : goal.returns-then-n-eq0
returns-then-n-eq0 c = let a = c.args in sym (emit_done a.indent.now a.v.now 0 (output a.w a.out.now) (omega (arith, c.if-n-eq0.true)))

pub returns : goal.returns
returns c = let a = c.args in
    let v = a.v.now in
    let p = c.write-r in
    let x = get_or v (length v - 1) 0 in
    let e : c.from.result + 1 ≡ suc x = ap (λ (n : ℕ). n + 1) c.from.ensures ∙ add-one x in
    ap (λ (n : ℕ). output (with_pen n p.result) p.new.out) e
    ∙ ap (over (penned x)) (p.ensures ∙ ap (all_put v) c.indent_before-q.ensures)
    ∙ sym (run_whole a.indent.now v (output a.w a.out.now) c.if-n-eq0.false c.requires)
