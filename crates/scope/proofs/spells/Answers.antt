use mathlib.Core.Path.{refl, ◌∙◌}
use native.Mathlib.Omega.{arith}
use lib.ListN.{length}
use Rattle.bits.specs.Packed.{number_bytes}
use Rattle.bits.specs.Compare.{same_end, same_differ, same_more}
use Rattle.scope.proofs.Letters.{number_length, number_holds}
use Rattle.scope.proofs.spells.Goals as goal

pub returns-then-z-n : goal.returns-then-z-n
returns-then-z-n c = let a = c.args in
    let l = c.loop-i in
    same_differ (number_holds (length a.t.now) a.z l.i c.loop-i-test.true) (record { within = omega (arith, c.loop-i-test.true); is = refl }) c.if-z-n.true ∙ l.invariant

pub loop-i-preserved : goal.loop-i-preserved
loop-i-preserved c = let a = c.args in
    let l = c.loop-i in
    same_more (number_holds (length a.t.now) a.z l.i c.loop-i-test.true) (record { within = omega (arith, c.loop-i-test.true); is = refl }) c.if-z-n.false ∙ l.invariant

pub returns : goal.returns
returns c = let a = c.args in
    let l = c.loop-i in
    same_end (number_bytes (length a.t.now) a.z) a.t.now l.i (omega (arith, number_length (length a.t.now) a.z)) (omega arith) ∙ l.invariant
