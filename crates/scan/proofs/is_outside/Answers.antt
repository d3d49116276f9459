use Rattle.scan.proofs.Numbers.{tail_number, outside_part, outside_short, outside_large, outside_zero, outside_minus, outside_plus}
use Rattle.scan.proofs.Bounds.{whole_goes}
use mathlib.Core.Path.{◌∙◌, sym}
use native.Mathlib.Omega.{arith}
use Rattle.scan.proofs.is_outside.Goals as goal

pub tail_end-requires : goal.tail_end-requires
tail_end-requires c = (omega (arith, c.whole_end-w.ensures, whole_goes c.args.s.now c.minus_end-d.result), c.requires.1)

pub returns-then-w-tail_end : goal.returns-then-w-tail_end
returns-then-w-tail_end c = let e = tail_number c.args.s.now c.args.i _ _ _ c.minus_end-d.ensures c.whole_end-w.ensures c.tail_end.ensures in
    outside_part _ _ _ _ _ c.minus_end-d.ensures c.whole_end-w.ensures e c.if-w-tail_end.true

pub returns-then-c-w : goal.returns-then-c-w
returns-then-c-w c = let e = tail_number c.args.s.now c.args.i _ _ _ c.minus_end-d.ensures c.whole_end-w.ensures c.tail_end.ensures in
    outside_short _ _ _ _ _ c.minus_end-d.ensures c.whole_end-w.ensures e c.if-w-tail_end.false _ c.byte-c.ensures c.if-c-w.true

pub decimal_value-requires : goal.decimal_value-requires
decimal_value-requires c = omega (arith, c.whole_end-w.ensures, whole_goes c.args.s.now c.minus_end-d.result)

pub returns-in_default : goal.returns-in_default
returns-in_default c = let e = tail_number c.args.s.now c.args.i _ _ _ c.minus_end-d.ensures c.whole_end-w.ensures c.tail_end.ensures in
    outside_large _ _ _ _ _ c.minus_end-d.ensures c.whole_end-w.ensures e c.if-w-tail_end.false (sym c.in_default.is ∙ c.decimal_value.ensures)

pub returns-then-n-eq0 : goal.returns-then-n-eq0
returns-then-n-eq0 c = let e = tail_number c.args.s.now c.args.i _ _ _ c.minus_end-d.ensures c.whole_end-w.ensures c.tail_end.ensures in
    let h = sym c.in-Some.is ∙ c.decimal_value.ensures in
    outside_zero _ _ _ _ _ c.minus_end-d.ensures c.whole_end-w.ensures e c.if-w-tail_end.false _ _ c.byte-c.ensures h c.if-c-eq45.true c.if-n-eq0.true

pub returns-then-c-eq45 : goal.returns-then-c-eq45
returns-then-c-eq45 c = let e = tail_number c.args.s.now c.args.i _ _ _ c.minus_end-d.ensures c.whole_end-w.ensures c.tail_end.ensures in
    let h = sym c.in-Some.is ∙ c.decimal_value.ensures in
    outside_minus _ _ _ _ _ c.minus_end-d.ensures c.whole_end-w.ensures e c.if-w-tail_end.false _ _ c.byte-c.ensures h c.if-c-eq45.true c.if-n-eq0.false

pub returns : goal.returns
returns c = let e = tail_number c.args.s.now c.args.i _ _ _ c.minus_end-d.ensures c.whole_end-w.ensures c.tail_end.ensures in
    let h = sym c.in-Some.is ∙ c.decimal_value.ensures in
    outside_plus _ _ _ _ _ c.minus_end-d.ensures c.whole_end-w.ensures e c.if-w-tail_end.false _ _ c.byte-c.ensures h c.if-c-eq45.false
