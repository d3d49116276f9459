use Prim.Native.Nat.{ℕ, ◌+◌, ◌-◌, ◌*◌, ◌^◌, ◌≤◌, ◌<◌}
use mathlib.Core.List.{◌∷◌}
use mathlib.Core.Path.{◌≡◌, refl, sym, ap, ◌∙◌}
use native.Mathlib.Omega.{arith}
use native.Mathlib.Numerals.{add-one}
use lib.ListN.{length, get_or, drop, drop_of_length-le}
use lib.Pow.{pow_mono, pow-add}
use lib.Seq.{drop-cons}
use Rattle.rules.specs.Bytes.{Bytes}
use Rattle.expand.specs.Answers.{packed_onto, packed}
use borrow.Author.Rules.{rules}
use Rattle.expand.proofs.packed.Goals as goal

few_bits : (i x : ℕ) → i < 6 → x < 2 ^ (8 * i) → x < 1099511627776
few_bits i x lt h =
    let n : 8 * i ≤ 40 = omega arith in
    let m : 2 ^ (8 * i) ≤ 2 ^ 40 = pow_mono n in
    omega (arith, h, m)

more-bits : (i x c : ℕ) → c < 256 → x < 2 ^ (8 * i) → x * 256 + c < 2 ^ (8 * (i + 1))
more-bits i x c lt h =
    let d : 8 * (i + 1) ≡ 8 * i + 8 = omega arith in
    let e : 2 ^ (8 * i + 8) ≡ 2 ^ (8 * i) * 256 = pow-add 2 (8 * i) 8 in
    rw (d, e) (omega (arith, h, lt))

more-packed : (t : Bytes) (i x : ℕ) → i < length t → packed_onto (x * 256 + get_or t i 0) (drop (i + 1) t) ≡ packed_onto x (drop i t)
more-packed t i x lt =
    let e : drop i t ≡ get_or t i 0 ∷ drop (i + 1) t = drop-cons t i 0 lt ∙ rw add-one in
    sym (ap (packed_onto x) e)

pub loop-c-init : goal.loop-c-init
loop-c-init c = (omega arith, refl)

pub overflow_mul-x : goal.overflow_mul-x
overflow_mul-x c = let l = c.loop-c in omega (arith, few_bits l.c-index l.x (omega (arith, c.requires, c.loop-c-test.true)) l.invariant.0)

pub overflow_cast-x : goal.overflow_cast-x
overflow_cast-x c = omega (arith, c.type_inv.t c.loop-c.c-index)

pub overflow_add-x : goal.overflow_add-x
overflow_add-x c = let l = c.loop-c in omega (arith, few_bits l.c-index l.x (omega (arith, c.requires, c.loop-c-test.true)) l.invariant.0, c.type_inv.t l.c-index)

pub loop-c-preserved : goal.loop-c-preserved
loop-c-preserved c = let l = c.loop-c in
    let k = c.type_inv.t l.c-index in
    (more-bits l.c-index l.x _ (omega (arith, k)) l.invariant.0, more-packed c.args.t.now l.c-index l.x c.loop-c-test.true ∙ l.invariant.1)

pub returns : goal.returns
returns c = let l = c.loop-c in
    sym (ap (packed_onto l.x) (drop_of_length-le c.args.t.now c.loop-c-test.false)) ∙ l.invariant.1
