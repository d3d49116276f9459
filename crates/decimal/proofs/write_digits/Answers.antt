use Rattle.decimal.proofs.Writing.{Written, written_none, written_more, written_all}
use Rattle.decimal.proofs.Putting.{behind_all, put_none, behind_none}
use Rattle.decimal.proofs.Digits.{digits_places}
use Rattle.rules.specs.Bytes.{digits}
use lib.ListN.{length}
use mathlib.Core.Path.{◌≡◌, ap, subst, ◌∙◌, sym}
use Prim.Native.Nat.{suc, ◌+◌, ◌-◌, ◌≤◌, ◌<◌}
use native.Mathlib.Omega.{arith}
use Rattle.decimal.proofs.write_digits.Goals as goal

pub returns-then-out-count : goal.returns-then-out-count
returns-then-out-count c = let a = c.args in
    let h : length a.out.now < a.at + length (digits a.n) = omega (arith, c.digit_count-count.ensures) in
    (sym (behind_none a.out.now a.at (digits a.n) h), sym (put_none a.out.now a.at (digits a.n) h))

pub returns-then-out-count-2 : goal.returns-then-out-count-2
returns-then-out-count-2 c = let a = c.args in
    let h : length a.out.now < a.at + length (digits a.n) = omega (arith, c.digit_count-count.ensures) in
    (sym (behind_none a.out.now a.at (digits a.n) h), sym (put_none a.out.now a.at (digits a.n) h))

pub loop-i-init : goal.loop-i-init
loop-i-init c = let a = c.args in
    rw c.digit_count-count.ensures (written_none a.out.now a.at a.n (digits a.n) (digits_places a.n (omega arith)))

pub loop-i-preserved : goal.loop-i-preserved
loop-i-preserved c = let a = c.args in
    let l = c.loop-i in
    let e : l.i ≡ suc (l.i - 1) = omega arith in
    let room : a.at + length (digits a.n) ≤ length a.out.now = omega (arith, c.digit_count-count.ensures) in
    written_more a.out.now a.at (digits a.n) l.rest (l.i - 1) l.out room (subst (λ k. Written a.out.now a.at (digits a.n) l.rest k l.out) e l.invariant)

pub returns : goal.returns
returns c = let a = c.args in
    let l = c.loop-i in
    let e : l.i ≡ 0 = omega arith in
    let room : a.at + length (digits a.n) ≤ length a.out.now = omega (arith, c.digit_count-count.ensures) in
    let w = subst (λ k. Written a.out.now a.at (digits a.n) l.rest k l.out) e l.invariant in
    (ap (λ k. a.at + k) c.digit_count-count.ensures ∙ sym (behind_all a.out.now a.at (digits a.n) room), written_all a.out.now a.at l.rest (digits a.n) l.out room w)
