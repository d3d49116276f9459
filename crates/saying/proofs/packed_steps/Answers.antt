use Prim.Native.Nat.{◌*◌, ◌+◌, ◌-◌}
use Rattle.bits.specs.Packed.{bytes_at}
use Rattle.rules.specs.Bits.{bits}
use Rattle.rules.specs.Bytes.{Bytes, same}
use Rattle.saying.proofs.Comparing.{none_left, packed_end, packed_on, packed_other, packed_none, same_moved}
use Rattle.saying.specs.Said.{Stepped, remaining}
use borrow.Author.Tests.{ne_eqb}
use mathlib.Core.Path.{◌∙◌, ap, subst, sym}
use native.Mathlib.Omega.{arith}
use Rattle.saying.proofs.packed_steps.Goals as goal

pub returns-in_default : goal.returns-in_default
returns-in_default c = let a = c.args in
    let l = c.loop-m in
    let e = subst (λ x. Stepped a.s.now (remaining a.s.now l.at l.k) x) c.in_default.is c.next_byte.ensures in
    sym (ne_eqb (a.n - l.m) 0 (λ z. omega arith)) ∙ packed_end (bits a.w.now) (a.p + 8 * l.m) (a.n - l.m)
    ∙ ap (λ (y : Bytes). same y (bytes_at (bits a.w.now) (a.p + 8 * l.m) (a.n - l.m))) (sym e) ∙ sym l.invariant.1

pub returns-then-byte-b : goal.returns-then-byte-b
returns-then-byte-b c = let a = c.args in
    let l = c.loop-m in
    let e = subst (λ x. Stepped a.s.now (remaining a.s.now l.at l.k) x) c.in-Some.is c.next_byte.ensures in
    packed_other (bits a.w.now) (a.p + 8 * l.m) c.in-Some.b (remaining a.s.now c.in-Some.c.at c.in-Some.c.k) (a.n - l.m) (λ z. omega arith)
    (λ z. c.if-byte-b.true (c.byte.ensures ∙ z))
    ∙ ap (λ (y : Bytes). same y (bytes_at (bits a.w.now) (a.p + 8 * l.m) (a.n - l.m))) (sym e.0) ∙ sym l.invariant.1

pub loop-m-preserved : goal.loop-m-preserved
loop-m-preserved c = let a = c.args in
    let l = c.loop-m in
    let e = subst (λ x. Stepped a.s.now (remaining a.s.now l.at l.k) x) c.in-Some.is c.next_byte.ensures in
    let r = remaining a.s.now c.in-Some.c.at c.in-Some.c.k in (
      e.1,
      l.invariant.1 ∙ ap (λ (y : Bytes). same y (bytes_at (bits a.w.now) (a.p + 8 * l.m) (a.n - l.m))) e.0
          ∙ packed_on (bits a.w.now) (a.p + 8 * l.m) c.in-Some.b r (a.n - l.m) (λ z. omega arith) (sym c.byte.ensures ∙ c.if-byte-b.false)
          ∙ same_moved (bits a.w.now) (a.p + 8 * l.m + 8) r (a.p + 8 * (l.m + 1)) (a.n - l.m - 1) (a.n - (l.m + 1)) (omega arith) (omega arith),
    )

pub returns : goal.returns
returns c = let a = c.args in
    let l = c.loop-m in
    none_left a.s.now (remaining a.s.now l.at l.k) c.next_byte-2.result c.is_none.result c.next_byte-2.ensures c.is_none.ensures
    ∙ packed_none (bits a.w.now) (a.p + 8 * l.m) (remaining a.s.now l.at l.k) (a.n - l.m) (omega arith) ∙ sym l.invariant.1
