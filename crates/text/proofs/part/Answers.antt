use Rattle.saying.specs.Said.{remaining}
use Rattle.text.proofs.Laws.{take_none, take_end, take_on}
use Rattle.text.proofs.part.Goals as goal

pub returns-then-n-eq0 : goal.returns-then-n-eq0
returns-then-n-eq0 c = take_none c.args.n (remaining c.args.s.now c.args.at c.args.k) c.if-n-eq0.true

pub returns-in_err-c : goal.returns-in_err-c
returns-in_err-c c = let a = c.args in
    rw c.from_residual.ensures (take_end a.n (remaining a.s.now a.at a.k) c.in_err-c.ensures)

pub returns : goal.returns
returns c = let a = c.args in
    let o = c.in_ok-c in
    let e = o.ensures in
    (take_on a.n o.c (remaining a.s.now a.at a.k) (remaining a.s.now o.p.at o.p.k) c.if-n-eq0.false e.0, e.1)
