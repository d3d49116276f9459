use mathlib.Core.Path.{refl, sym, ◌∙◌}
use native.Mathlib.Omega.{arith}
use Rattle.rules.specs.Bits.{bits}
use Rattle.bits.specs.Packed.{bytes_at, bytes_length, bytes_hold}
use Rattle.bits.specs.Compare.{same_lengths, same_end, same_differ, same_more}
use Rattle.bits.proofs.same_bytes.Goals as goal

pub returns-then-n-t : goal.returns-then-n-t
returns-then-n-t c = let a = c.args in same_lengths (bytes_at (bits a.s.now) a.p a.n) a.t.now (λ e. c.if-n-t.true (sym (bytes_length (bits a.s.now) a.p a.n) ∙ e))

pub returns-then-byte-c : goal.returns-then-byte-c
returns-then-byte-c c = let a = c.args in
    let l = c.loop-i in
    same_differ (bytes_hold (bits a.s.now) a.p a.n l.i (omega arith) c.byte.ensures) (record { within = omega arith; is = refl }) c.if-byte-c.true ∙ l.invariant

pub loop-i-preserved : goal.loop-i-preserved
loop-i-preserved c = let a = c.args in
    let l = c.loop-i in
    same_more (bytes_hold (bits a.s.now) a.p a.n l.i (omega arith) c.byte.ensures) (record { within = omega arith; is = refl }) c.if-byte-c.false ∙ l.invariant

pub returns : goal.returns
returns c = let a = c.args in
    let b = bits a.s.now in
    let l = c.loop-i in
    same_end (bytes_at b a.p a.n) a.t.now l.i (omega (arith, bytes_length b a.p a.n)) (omega arith) ∙ l.invariant
