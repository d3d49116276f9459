use mathlib.Core.Path.{◌∙◌}
use native.Mathlib.Omega.{arith}
use Rattle.rules.specs.Bits.{bits}
use Rattle.bits.specs.Packed.{bytes_at, bytes_length, bytes_hold}
use Rattle.bits.specs.Compare.{before_rest, before_differ, before_more}
use Rattle.bits.proofs.before_at.Goals as goal

pub returns-then-x-y : goal.returns-then-x-y
returns-then-x-y c = let a = c.args in
    let b = bits a.s.now in
    let l = c.loop-i in
    before_differ (bytes_hold b a.p a.n l.i (omega arith) c.byte-x.ensures) (bytes_hold b a.q a.m l.i (omega arith) c.byte-y.ensures) c.if-x-y.true ∙ l.invariant

pub loop-i-preserved : goal.loop-i-preserved
loop-i-preserved c = let a = c.args in
    let b = bits a.s.now in
    let l = c.loop-i in
    before_more (bytes_hold b a.p a.n l.i (omega arith) c.byte-x.ensures) (bytes_hold b a.q a.m l.i (omega arith) c.byte-y.ensures) c.if-x-y.false ∙ l.invariant

pub returns : goal.returns
returns c = let a = c.args in
    let b = bits a.s.now in
    let l = c.loop-i in
    before_rest (bytes_at b a.p a.n) (bytes_at b a.q a.m) (bytes_length b a.p a.n) (bytes_length b a.q a.m) (omega arith) ∙ l.invariant
