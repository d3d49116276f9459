use mathlib.Core.Bool.{not}
use Rattle.places.proofs.Plain.{plain_in, plain_first, plain_differ, plain_on}
use Rattle.saying.specs.Compared.{ordering}
use Rattle.places.proofs.Walking.{yes_not}
use Rattle.rules.specs.Order.{and_left, and_right}
use lib.ListN.{length}
use mathlib.Core.Bool.{◌&&◌}
use mathlib.Core.Path.{◌∙◌, ap, refl, sym}
use native.Mathlib.Omega.{arith}
use Rattle.places.proofs.order.Goals as goal

pub loop-i-init : goal.loop-i-init
loop-i-init c = (omega arith, omega arith, refl)

pub returns-then-a-b : goal.returns-then-a-b
returns-then-a-b c = let l = c.loop-i in
    let g = yes_not (c.is_plain.result && c.is_plain-in-loop-i.result) (ap not c.if-not-is_plain.false) in
    let x = sym c.is_plain.ensures ∙ and_left c.is_plain.result c.is_plain-in-loop-i.result g in
    let y = sym c.is_plain-in-loop-i.ensures ∙ and_right c.is_plain.result c.is_plain-in-loop-i.result g in
    ap ordering c.cmp.ensures ∙ plain_differ c.args.s.now l.p c.byte-a.result c.byte-a.ensures x l.q c.byte-b.result c.byte-b.ensures y c.if-a-b.true ∙ sym l.invariant.2

pub overflow_add-p-in-loop-i : goal.overflow_add-p-in-loop-i
overflow_add-p-in-loop-i c = omega arith

pub overflow_add-q-in-loop-i : goal.overflow_add-q-in-loop-i
overflow_add-q-in-loop-i c = omega arith

pub loop-i-smaller : goal.loop-i-smaller
loop-i-smaller c = let l = c.loop-i in
    let g = yes_not (c.is_plain.result && c.is_plain-in-loop-i.result) (ap not c.if-not-is_plain.false) in
    let x = sym c.is_plain.ensures ∙ and_left c.is_plain.result c.is_plain-in-loop-i.result g in
    let y = sym c.is_plain-in-loop-i.ensures ∙ and_right c.is_plain.result c.is_plain-in-loop-i.result g in
    omega (arith, ap length (plain_first c.args.s.now l.p c.byte-a.result c.byte-a.ensures x))

pub loop-i-preserved : goal.loop-i-preserved
loop-i-preserved c = let l = c.loop-i in
    let g = yes_not (c.is_plain.result && c.is_plain-in-loop-i.result) (ap not c.if-not-is_plain.false) in
    let x = sym c.is_plain.ensures ∙ and_left c.is_plain.result c.is_plain-in-loop-i.result g in
    let y = sym c.is_plain-in-loop-i.ensures ∙ and_right c.is_plain.result c.is_plain-in-loop-i.result g in
    (omega (arith, c.requires.0, plain_in c.args.s.now l.p c.byte-a.result c.byte-a.ensures x), omega (arith, c.requires.0, plain_in c.args.s.now l.q c.byte-b.result c.byte-b.ensures y), l.invariant.2 ∙ plain_on c.args.s.now l.p c.byte-a.result c.byte-a.ensures x l.q c.byte-b.result c.byte-b.ensures y c.if-a-b.false)
