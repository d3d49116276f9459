use Rattle.text.proofs.Laws.{bytes_met, bytes_short, bytes_other, bytes_on}
use Rattle.text.specs.Rest.{rest}
use mathlib.Core.Path.{◌∙◌}
use native.Mathlib.Omega.{arith}
use Rattle.text.proofs.strip_bytes.Goals as goal

pub returns-in_err-c : goal.returns-in_err-c
returns-in_err-c c = let a = c.args in
    let l = c.loop-d in
    rw c.from_residual.ensures (l.invariant.1 ∙ bytes_short a.w.now (rest a.s.now a.b.now l.u) l.d-index (omega arith) c.in_err-c.ensures)

pub returns-then-d-c : goal.returns-then-d-c
returns-then-d-c c = let a = c.args in
    let l = c.loop-d in
    let o = c.in_ok-c in
    let e = o.ensures in
    l.invariant.1
    ∙ bytes_other a.w.now (rest a.s.now a.b.now l.u) l.d-index o.c (rest a.s.now a.b.now o.v) (omega arith) e.0 c.if-d-c.true

pub loop-d-preserved : goal.loop-d-preserved
loop-d-preserved c = let a = c.args in
    let l = c.loop-d in
    let o = c.in_ok-c in
    let e = o.ensures in (
      e.1,
      l.invariant.1
          ∙ bytes_on a.w.now (rest a.s.now a.b.now l.u) l.d-index o.c (rest a.s.now a.b.now o.v) (omega arith) e.0 c.if-d-c.false,
    )

pub returns : goal.returns
returns c = let a = c.args in
    let l = c.loop-d in
    (l.invariant.1 ∙ bytes_met a.w.now (rest a.s.now a.b.now l.u) l.d-index (omega arith), l.invariant.0)
