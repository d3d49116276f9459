use Rattle.places.proofs.Scalars.{other_by, no_number, number_read, number_small}
use Rattle.scan.proofs.Bounds.{minus_near, whole_goes}
use mathlib.Core.Path.{◌∙◌, ◌≡◌, ap, sym, subst}
use Prim.Native.Nat.{◌+◌, ◌≤◌, ◌<◌}
use Rattle.places.proofs.Fields.{index}
use native.Mathlib.Omega.{arith}
use borrow.Author.Rules.{rules}
use Rattle.places.proofs.number.Goals as goal

pub returns-then-is_other : goal.returns-then-is_other
returns-then-is_other c = no_number c.args.s.now c.args.i (sym (other_by c.args.s.now c.args.i c.start-b.result c.byte-c.result c.is_other.result c.is_other.ensures c.byte-c.ensures c.start-b.ensures.0) ∙ c.if-is_other.true)

pub minus_end-d-requires : goal.minus_end-d-requires
minus_end-d-requires c = omega (arith, c.start-b.ensures.1, (index c.args.s.now c.args.tab.now c.requires.0 c.args.i c.requires.1).text)

pub whole_end-requires : goal.whole_end-requires
whole_end-requires c = omega (arith, c.start-b.ensures.1, c.minus_end-d.ensures, minus_near c.args.s.now c.start-b.result, (index c.args.s.now c.args.tab.now c.requires.0 c.args.i c.requires.1).text)

pub decimal_value-requires : goal.decimal_value-requires
decimal_value-requires c = rw c.whole_end.ensures (whole_goes c.args.s.now c.minus_end-d.result).within

pub returns-in_default : goal.returns-in_default
returns-in_default c = let o = sym (other_by c.args.s.now c.args.i c.start-b.result c.byte-c.result c.is_other.result c.is_other.ensures c.byte-c.ensures c.start-b.ensures.0) ∙ c.if-is_other.false in
    number_small c.args.s.now c.args.i c.requires.0.answers c.requires.1 o c.decimal_value.result c.start-b.result c.minus_end-d.result c.whole_end.result c.start-b.ensures.0 c.minus_end-d.ensures c.whole_end.ensures c.decimal_value.ensures 0 c.in_default.is

pub returns : goal.returns
returns c = let o = sym (other_by c.args.s.now c.args.i c.start-b.result c.byte-c.result c.is_other.result c.is_other.ensures c.byte-c.ensures c.start-b.ensures.0) ∙ c.if-is_other.false in
    number_read c.args.s.now c.args.i c.requires.0.answers c.requires.1 o c.decimal_value.result c.start-b.result c.minus_end-d.result c.whole_end.result c.start-b.ensures.0 c.minus_end-d.ensures c.whole_end.ensures c.decimal_value.ensures _ c.in-Some.is
