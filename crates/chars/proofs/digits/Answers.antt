use Prim.Native.Nat.{◌≤◌, ◌<◌}
use Rattle.chars.proofs.Numbers.{digit_plain, digit_first}
use Rattle.rules.specs.Bytes.{digits}
use lib.ListN.{length, drop_of_length-le}
use native.Mathlib.Omega.{arith}
use Rattle.chars.proofs.digits.Goals as goal

pub returns-then-count-k : goal.returns-then-count-k
returns-then-count-k c = drop_of_length-le (digits c.args.n) {i = c.args.k} (omega (arith, c.digit_count-count.ensures, c.if-count-k.true))

pub overflow_sub-result : goal.overflow_sub-result
overflow_sub-result c =
    let within : c.args.k < length (digits c.args.n) = omega (arith, c.digit_count-count.ensures, c.if-count-k.false) in
    let plain : (48 ≤ c.digit-d.result) × (c.digit-d.result ≤ 57) = let a = c.args in
    digit_plain a.s.now a.b.now a.n a.k c.digit-d.result c.requires (within) c.digit-d.ensures in
    omega (arith, (plain).0)

pub overflow_cast-result : goal.overflow_cast-result
overflow_cast-result c =
    let within : c.args.k < length (digits c.args.n) = omega (arith, c.digit_count-count.ensures, c.if-count-k.false) in
    let plain : (48 ≤ c.digit-d.result) × (c.digit-d.result ≤ 57) = let a = c.args in
    digit_plain a.s.now a.b.now a.n a.k c.digit-d.result c.requires (within) c.digit-d.ensures in
    omega (arith, (plain).1)

pub returns : goal.returns
returns c =
    let within : c.args.k < length (digits c.args.n) = omega (arith, c.digit_count-count.ensures, c.if-count-k.false) in
    let a = c.args in
    digit_first a.s.now a.b.now a.n a.k c.digit-d.result c.requires (within) c.digit-d.ensures
