use Rattle.rules.specs.Bytes.{Bytes, same}
use Rattle.saying.proofs.Comparing.{same_end}
use Rattle.text.proofs.Laws.{none_left}
use Rattle.text.specs.Rest.{Stepped, rest}
use borrow.Author.Tests.{ne_eqb}
use lib.ListN.{drop, length, drop_of_length-le}
use mathlib.Core.Path.{◌∙◌, ap, subst, sym}
use native.Mathlib.Omega.{arith}
use Rattle.text.proofs.is_steps.Goals as goal

pub returns-in_default : goal.returns-in_default
returns-in_default c = let a = c.args in
    let l = c.loop-d in
    let e = subst (λ x. Stepped a.s.now a.b.now l.u x) c.in_default.is c.next.ensures in
    sym (ne_eqb l.d-index (length a.w.now) (λ z. omega arith)) ∙ same_end a.w.now l.d-index (omega arith)
    ∙ ap (λ (y : Bytes). same y (drop l.d-index a.w.now)) (sym e) ∙ sym l.invariant.1

pub returns : goal.returns
returns c = let a = c.args in
    let l = c.loop-d in
    none_left a.s.now a.b.now l.u c.next-2.result c.is_none.result c.next-2.ensures c.is_none.ensures
    ∙ ap (same (rest a.s.now a.b.now l.u)) (sym (drop_of_length-le a.w.now (omega arith))) ∙ sym l.invariant.1
