use Rattle.rules.specs.Scan.{code_point}
use Rattle.rules.specs.State.{depth}
use Rattle.saying.proofs.Pairs.{pair_halves}
use Rattle.rules.specs.Picks.{picks}
use borrow.Author.Rules.{rules}
use mathlib.Core.Path.{◌∙◌, sym}
use native.Mathlib.Omega.{arith}
use Rattle.saying.proofs.code_point.Goals as goal

pub overflow_sub-result : goal.overflow_sub-result
overflow_sub-result c = let p = pair_halves c.args.s.now c.args.i (sym c.unicode_length.ensures ∙ c.if-unicode_length-eq-PAIR.true) in
    omega (arith, c.hex_four-v.ensures.0, p.high_from)

pub overflow_mul-result : goal.overflow_mul-result
overflow_mul-result c = let p = pair_halves c.args.s.now c.args.i (sym c.unicode_length.ensures ∙ c.if-unicode_length-eq-PAIR.true) in
    omega (arith, c.hex_four-v.ensures.0, p.high_from, p.high_to)

pub overflow_add-result : goal.overflow_add-result
overflow_add-result c = let p = pair_halves c.args.s.now c.args.i (sym c.unicode_length.ensures ∙ c.if-unicode_length-eq-PAIR.true) in
    omega (arith, c.hex_four-v.ensures.0, p.high_from, p.high_to)

pub overflow_sub-result-then-unicode_length-eq-PAIR : goal.overflow_sub-result-then-unicode_length-eq-PAIR
overflow_sub-result-then-unicode_length-eq-PAIR c = let p = pair_halves c.args.s.now c.args.i (sym c.unicode_length.ensures ∙ c.if-unicode_length-eq-PAIR.true) in
    omega (arith, c.hex_four-w.ensures.0, p.low_from)

pub overflow_add-result-then-unicode_length-eq-PAIR : goal.overflow_add-result-then-unicode_length-eq-PAIR
overflow_add-result-then-unicode_length-eq-PAIR c = let p = pair_halves c.args.s.now c.args.i (sym c.unicode_length.ensures ∙ c.if-unicode_length-eq-PAIR.true) in
    omega (arith, c.hex_four-v.ensures.0, c.hex_four-w.ensures.0, p.high_from, p.high_to, p.low_to)

pub returns-then-unicode_length-eq-PAIR : goal.returns-then-unicode_length-eq-PAIR
unfolding code_point
returns-then-unicode_length-eq-PAIR c = let p = pair_halves c.args.s.now c.args.i (sym c.unicode_length.ensures ∙ c.if-unicode_length-eq-PAIR.true) in (
  simp (← c.hex_four-v.ensures.0, ← c.unicode_length.ensures, ← c.hex_four-w.ensures.0) (search picks depth 9),
  omega (arith, c.hex_four-v.ensures.0, c.hex_four-w.ensures.0, p.high_to, p.low_to),
)

pub returns : goal.returns
unfolding code_point
returns c = (simp (← c.hex_four-v.ensures.0, ← c.unicode_length.ensures) (search picks depth 9), omega (arith, c.hex_four-v.ensures.1))
