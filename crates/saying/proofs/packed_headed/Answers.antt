use Prim.Native.Nat.{◌*◌, ◌+◌, ◌-◌}
use Rattle.rules.specs.Bits.{bits}
use Rattle.rules.specs.BundleLaws.{bits_binary}
use Rattle.saying.proofs.Headed.{head_byte, headed_on, same_places}
use Rattle.saying.proofs.Plain.{plain_end, plain_near, plain_other}
use mathlib.Core.Path.{◌∙◌, sym}
use native.Mathlib.Omega.{arith}
use Rattle.saying.proofs.packed_headed.Goals as goal

pub returns-then-x-k : goal.returns-then-x-k
returns-then-x-k c = let a = c.args in
    let l = c.loop-k in
    let o = sym c.is_own.ensures ∙ c.if-not-is_own.false in
    plain_other a.s.now (bits a.w.now) (a.i + l.k) (a.p + 8 * l.k) (a.n - l.k) _ c.byte-c.ensures o l.invariant.0 _
    (head_byte (bits a.w.now) (bits_binary a.w.now) a.p a.x l.k c.requires.3 (omega (arith, c.min-m.ensures))) c.if-x-k.true
    ∙ sym l.invariant.1

pub loop-k-preserved : goal.loop-k-preserved
loop-k-preserved c = let a = c.args in
    let l = c.loop-k in
    let e = c.byte-c.ensures in
    let o = sym c.is_own.ensures ∙ c.if-not-is_own.false in (
      omega (arith, plain_near a.s.now (bits a.w.now) (a.i + l.k) (a.p + 8 * l.k) (a.n - l.k) _ e o l.invariant.0 c.requires.0),
      l.invariant.1
          ∙ headed_on a.s.now (bits a.w.now) a.i a.p a.n l.k _ e o l.invariant.0 _
          (head_byte (bits a.w.now) (bits_binary a.w.now) a.p a.x l.k c.requires.3 (omega (arith, c.min-m.ensures)))
          (λ y. omega (arith, c.min-m.ensures)) c.if-x-k.false,
    )

pub returns-then-byte-eq34 : goal.returns-then-byte-eq34
returns-then-byte-eq34 c = let a = c.args in
    let l = c.loop-k in
    let m = c.min-m.result in
    plain_end a.s.now (bits a.w.now) (a.i + m) (a.p + 8 * m) (a.n - m) _ c.byte.ensures c.if-byte-eq34.true
    ∙ sym (l.invariant.1 ∙ same_places a.s.now (bits a.w.now) (a.i + l.k) (a.i + m) (a.p + 8 * l.k) (a.p + 8 * m) (a.n - l.k) (a.n - m) (omega arith) (omega arith) (omega arith))
