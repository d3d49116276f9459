use mathlib.Core.Path.{◌≡◌, sym, ap, ◌∙◌}
use mathlib.Core.Bool.{true, not}
use native.Mathlib.Omega.{arith}
use borrow.Author.Tests.{ne_eqb}
use lib.ListN.{get_or}
use Rattle.rules.specs.Bits.{bits}
use Rattle.bits.specs.Packed.{bytes_at, bytes_length, bytes_get}
use Rattle.support.specs.Runs.{inner_byte}
use Rattle.support.proofs.Runs.{run_next, line_found, line_last, line_all}
use Rattle.support.proofs.line_end.Goals as goal

pub returns-then-not-has_indent : goal.returns-then-not-has_indent
returns-then-not-has_indent c = let a = c.args in
    let v = bytes_at (bits a.s.now) a.p a.n in
    let n = bytes_length (bits a.s.now) a.p a.n in
    sym n ∙ line_all a.has_indent v a.i (c.if-not-has_indent.true) (omega arith)

pub returns-then-byte-eq10 : goal.returns-then-byte-eq10
returns-then-byte-eq10 c = let a = c.args in
    let l = c.loop-j in
    let b = bits a.s.now in
    let n = bytes_length b a.p a.n in
    let x : get_or (bytes_at b a.p a.n) l.j 0 ≡ 10 = bytes_get b a.p a.n l.j c.loop-j-test.true ∙ sym c.byte.ensures ∙ c.if-byte-eq10.true in
    line_found a.has_indent (bytes_at b a.p a.n) a.i l.j (c.if-not-has_indent.false) (omega arith) l.invariant (omega arith) (rw x)

pub loop-j-preserved : goal.loop-j-preserved
loop-j-preserved c = let a = c.args in
    let l = c.loop-j in
    let b = bits a.s.now in
    let v = bytes_at b a.p a.n in
    let n = bytes_length b a.p a.n in
    let x : get_or v l.j 0 ≡ c.byte.result = bytes_get b a.p a.n l.j c.loop-j-test.true ∙ sym c.byte.ensures in
    let y : inner_byte (get_or v l.j 0) ≡ true = ap inner_byte x ∙ ap not (ne_eqb c.byte.result 10 c.if-byte-eq10.false) in
    run_next inner_byte v l.j (omega arith) _ y l.invariant

pub returns : goal.returns
returns c = let a = c.args in
    let l = c.loop-j in
    let b = bits a.s.now in
    let n = bytes_length b a.p a.n in
    let e : l.j ≡ a.n = omega arith in
    sym e ∙ line_last a.has_indent (bytes_at b a.p a.n) a.i l.j (c.if-not-has_indent.false) (omega arith) l.invariant (omega arith)
