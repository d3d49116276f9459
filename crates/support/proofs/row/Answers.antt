use mathlib.Core.Path.{◌≡◌, sym, ap, ◌∙◌}
use Prim.Native.Nat.{ℕ, ◌+◌}
use native.Mathlib.Numerals.{add-one}
use native.Mathlib.Omega.{arith}
use lib.ListN.{drop}
use Rattle.rules.specs.Bytes.{Bytes}
use Rattle.rules.specs.Support.{entities}
use Rattle.support.specs.Table.{row_in}
use Rattle.support.proofs.Table.{row_hit, row_miss}
use Rattle.support.proofs.row.Goals as goal

abbrev character : ℕ × Bytes → ℕ
character e = e.0

pub returns-then-e-c : goal.returns-then-e-c
returns-then-e-c c = let x = c.args.c in
    let l = c.loop-k in
    let below = c.loop-k-test.true in
    let row = c.entry-e.ensures.result_value in
    let e : row_in (drop l.k entities) x ≡ 0 = row_hit entities l.k x below (sym (ap character row) ∙ c.if-e-c.true) in
    omega (arith, l.invariant)

pub loop-k-preserved : goal.loop-k-preserved
loop-k-preserved c = let x = c.args.c in
    let l = c.loop-k in
    let below = c.loop-k-test.true in
    let row = c.entry-e.ensures.result_value in
    let later = row_in (drop (l.k + 1) entities) x in
    let e : row_in (drop l.k entities) x ≡ later + 1 =
    rw (add-one later, add-one l.k) (row_miss entities l.k x below (λ q. c.if-e-c.false (ap character row ∙ q))) in
    omega (arith, l.invariant)

pub returns : goal.returns
unfolding row_in
returns c = let k = c.loop-k.k in
    let e : k ≡ 7 = omega arith in
    let z : row_in (drop k entities) c.args.c ≡ 0 = rw e in
    omega (arith, c.loop-k.invariant)
