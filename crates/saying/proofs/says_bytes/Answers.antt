use Prim.Native.Nat.{◌+◌}
use Rattle.rules.specs.Bytes.{Bytes, same}
use Rattle.saying.proofs.Comparing.{none_left, same_end}
use Rattle.saying.proofs.Remaining.{inside_start}
use Rattle.saying.specs.Said.{Stepped, remaining}
use borrow.Author.Tests.{ne_eqb}
use lib.ListN.{drop, length, drop_of_length-le}
use mathlib.Core.Path.{◌∙◌, ap, refl, subst, sym}
use native.Mathlib.Omega.{arith}
use Rattle.saying.proofs.says_bytes.Goals as goal

pub loop-b-init : goal.loop-b-init
loop-b-init c = (inside_start c.args.s.now (c.args.i + 1) (omega arith), refl)

pub returns-in_default : goal.returns-in_default
returns-in_default c = let a = c.args in
    let l = c.loop-b in
    let e = subst (λ x. Stepped a.s.now (remaining a.s.now l.at l.k) x) c.in_default.is c.next_byte.ensures in
    sym (ne_eqb l.b-index (length a.w.now) (λ z. omega arith)) ∙ same_end a.w.now l.b-index (omega arith)
    ∙ ap (λ (y : Bytes). same y (drop l.b-index a.w.now)) (sym e) ∙ sym l.invariant.1

pub returns : goal.returns
returns c = let a = c.args in
    let l = c.loop-b in
    none_left a.s.now (remaining a.s.now l.at l.k) c.next_byte-2.result c.is_none.result c.next_byte-2.ensures c.is_none.ensures
    ∙ ap (same (remaining a.s.now l.at l.k)) (sym (drop_of_length-le a.w.now (omega arith))) ∙ sym l.invariant.1
