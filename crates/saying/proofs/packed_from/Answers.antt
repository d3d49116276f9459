use Prim.Native.Nat.{◌*◌, ◌+◌, ◌-◌}
use Rattle.rules.specs.Bits.{bits}
use Rattle.saying.proofs.Headed.{headed_on, same_places}
use Rattle.saying.proofs.Plain.{plain_end, plain_near, plain_other}
use Rattle.saying.proofs.Remaining.{inside_start}
use mathlib.Core.Path.{◌∙◌, sym}
use native.Mathlib.Omega.{arith}
use Rattle.saying.proofs.packed_from.Goals as goal

pub packed_steps-requires : goal.packed_steps-requires
packed_steps-requires c = (c.requires.0, inside_start c.args.s.now (c.args.i + c.loop-k.k) c.loop-k.invariant.0, omega (arith, c.requires.2))

pub returns-then-byte-c : goal.returns-then-byte-c
returns-then-byte-c c = let a = c.args in
    let l = c.loop-k in
    let o = sym c.is_own.ensures ∙ c.if-not-is_own.false in
    plain_other a.s.now (bits a.w.now) (a.i + l.k) (a.p + 8 * l.k) (a.n - l.k) _ c.byte-c.ensures o l.invariant.0 _ c.byte.ensures c.if-byte-c.true
    ∙ sym l.invariant.1

pub loop-k-preserved : goal.loop-k-preserved
loop-k-preserved c = let a = c.args in
    let l = c.loop-k in
    let e = c.byte-c.ensures in
    let o = sym c.is_own.ensures ∙ c.if-not-is_own.false in (
      omega (arith, plain_near a.s.now (bits a.w.now) (a.i + l.k) (a.p + 8 * l.k) (a.n - l.k) _ e o l.invariant.0 c.requires.0),
      l.invariant.1
          ∙ headed_on a.s.now (bits a.w.now) a.i a.p a.n l.k _ e o l.invariant.0 _ c.byte.ensures (λ y. omega arith) c.if-byte-c.false,
    )

pub returns-then-byte-eq34 : goal.returns-then-byte-eq34
returns-then-byte-eq34 c = let a = c.args in
    let l = c.loop-k in
    plain_end a.s.now (bits a.w.now) (a.i + a.n) (a.p + 8 * a.n) 0 _ c.byte-2.ensures c.if-byte-eq34.true
    ∙ sym (l.invariant.1 ∙ same_places a.s.now (bits a.w.now) (a.i + l.k) (a.i + a.n) (a.p + 8 * l.k) (a.p + 8 * a.n) (a.n - l.k) 0 (omega arith) (omega arith) (omega arith))

pub packed_steps-requires-2 : goal.packed_steps-requires-2
packed_steps-requires-2 c = (c.requires.0, inside_start c.args.s.now (c.args.i + c.args.n) (omega (arith, c.loop-k.invariant.0)), omega (arith, c.requires.2))
