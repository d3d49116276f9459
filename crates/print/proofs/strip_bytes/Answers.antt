use Rattle.print.proofs.Stripping.{bytes_met, bytes_on, bytes_other, bytes_short}
use lib.ListN.{drop, length}
use mathlib.Core.Path.{◌∙◌, refl, sym}
use native.Mathlib.Omega.{arith}
use Rattle.print.specs.Target as target
use Rattle.print.proofs.strip_bytes.Goals as goal

pub loop-d-init : goal.loop-d-init
loop-d-init c = (c.requires.1, refl)

pub front-requires : goal.front-requires
front-requires c = (c.requires.0, c.loop-d.invariant.0)

pub returns-in_err-c : goal.returns-in_err-c
returns-in_err-c c = let a = c.args in
    let l = c.loop-d in
    rw c.from_residual.ensures (record { is = sym (l.invariant.1 ∙ bytes_short a.v.now (target.rest a.s.now a.b.now a.w.now l.u) l.d-index (omega arith) c.in_err-c.ensures); stands = tt })

pub returns-then-d-c : goal.returns-then-d-c
returns-then-d-c c = let a = c.args in
    let l = c.loop-d in
    let o = c.in_ok-c in
    let e = o.ensures in
    record {
      is = sym (l.invariant.1 ∙ bytes_other a.v.now (target.rest a.s.now a.b.now a.w.now l.u) l.d-index o.c (target.rest a.s.now a.b.now a.w.now o.x) (omega arith) e.0 c.if-d-c.true);
      stands = tt;
    }

pub loop-d-preserved : goal.loop-d-preserved
loop-d-preserved c = let a = c.args in
    let l = c.loop-d in
    let o = c.in_ok-c in
    let e = o.ensures in (
      e.1,
      l.invariant.1 ∙ bytes_on a.v.now (target.rest a.s.now a.b.now a.w.now l.u) l.d-index o.c (target.rest a.s.now a.b.now a.w.now o.x) (omega arith) e.0 c.if-d-c.false,
    )

pub returns : goal.returns
returns c = let a = c.args in
    let l = c.loop-d in
    record { is = sym (l.invariant.1 ∙ bytes_met a.v.now (target.rest a.s.now a.b.now a.w.now l.u) l.d-index (omega arith)); stands = l.invariant.0 }
