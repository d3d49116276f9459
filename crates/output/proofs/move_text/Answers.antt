use mathlib.Core.Path.{◌≡◌, refl, ap, ◌∙◌}
use Prim.Native.Nat.{ℕ, ◌+◌, ◌-◌}
use native.Mathlib.Omega.{arith}
use lib.Seq.{sets, slice, slice_empty}
use Rattle.output.proofs.Texts.{move_more}
use Rattle.output.proofs.move_text.Goals as goal

pub loop-i-init : goal.loop-i-init
loop-i-init c = let a = c.args in (omega arith, rw (slice_empty a.low a.texts.now))

pub loop-i-preserved : goal.loop-i-preserved
loop-i-preserved c = let a = c.args in
    let l = c.loop-i in
    let to = a.high - (a.low - a.begin) in
    (omega arith, move_more a.texts.now l.texts (l.i - 1) (to + (l.i - 1 - a.begin)) l.i (to + (l.i - a.begin)) a.low (omega arith) (omega arith) (omega arith) (omega arith) (omega arith) l.invariant.1)

pub returns : goal.returns
returns c = let a = c.args in
    let l = c.loop-i in
    let t = a.texts.now in
    let e : l.i ≡ a.begin = omega arith in
    let k : a.high - (a.low - a.begin) + (l.i - a.begin) ≡ a.high - (a.low - a.begin) = omega (arith, e) in
    (refl, l.invariant.1 ∙ ap (λ (j : ℕ). sets t j (slice l.i a.low t)) k ∙ ap (λ (i : ℕ). sets t (a.high - (a.low - a.begin)) (slice i a.low t)) e)
