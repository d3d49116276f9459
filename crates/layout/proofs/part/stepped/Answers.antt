use Rattle.bits.specs.Packed.{number_bytes}
use Rattle.utf8.specs.Machine.{wanted}
use Rattle.layout.specs.Ascii.{after_step}
use mathlib.Core.Path.{◌≡◌, ◌∙◌, refl}
use native.Mathlib.Omega.{arith}
use Rattle.layout.proofs.part.stepped.Goals as goal

pub loop-i-init : goal.loop-i-init
loop-i-init c = refl

pub loop-i-preserved : goal.loop-i-preserved
loop-i-preserved c = let l = c.loop-i in
    after_step l.i c.args.x (wanted l.v) _ c.loop-i-test.true c.step-v.ensures ∙ l.invariant

pub returns : goal.returns
unfolding number_bytes
returns c = let l = c.loop-i in
    let e : l.i ≡ 0 = omega arith in
    rw e at l.invariant
