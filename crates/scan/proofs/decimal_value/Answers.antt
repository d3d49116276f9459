use Prim.Native.Nat.{◌*◌, ◌+◌, ◌-◌, ◌≤◌}
use Rattle.rules.specs.Scan.{decimal_value, slice}
use Rattle.scan.proofs.Decimal.{sized_is, sized_large, value_end, value_more}
use Rattle.scan.specs.Sized.{sized}
use borrow.Author.Rules.{rules}
use mathlib.Core.Path.{◌∙◌, ◌≡◌, ap, sym}
use native.Mathlib.Omega.{arith}
use Rattle.scan.proofs.decimal_value.Goals as goal

pub returns-then-v-n : goal.returns-then-v-n
returns-then-v-n c = let a = c.args in
    let l = c.loop-k in
    sized_large a.s.now l.n l.k a.e _ c.loop-k-test.true c.requires (omega (arith, c.digit_value-v.ensures)) l.invariant.0

pub loop-k-preserved : goal.loop-k-preserved
loop-k-preserved c = let a = c.args in
    let l = c.loop-k in
    let h = value_more a.s.now l.n l.k a.e c.loop-k-test.true c.requires in
    (l.invariant.0 ∙ h ∙ ap (λ v. decimal_value (l.n * 10 + v) (slice a.s.now (l.k + 1) a.e)) (sym c.digit_value-v.ensures.0), omega arith)

pub returns : goal.returns
returns c = let a = c.args in
    let l = c.loop-k in
    sized_is l.n l.invariant.1 ∙ ap sized (sym (l.invariant.0 ∙ value_end a.s.now l.n l.k a.e c.loop-k-test.false))
