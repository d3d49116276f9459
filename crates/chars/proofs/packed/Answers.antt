use Rattle.chars.proofs.Bundled.{packed_none, packed_least, packed_most, packed_first}
use Rattle.rules.specs.BundleLaws.{bits_size}
use Prim.Native.Nat.{◌≤◌}
use native.Mathlib.Omega.{arith}
use Rattle.chars.proofs.packed.Goals as goal

pub returns-then-n-eq0 : goal.returns-then-n-eq0
returns-then-n-eq0 c = packed_none c.args.b.now c.args.p c.args.n c.if-n-eq0.true

pub overflow_mul-result : goal.overflow_mul-result
overflow_mul-result c =
    let most : c.lead_length-m.result ≤ 4 = let a = c.args in
    packed_most a.s.now a.b.now a.p a.n c.lead_length-m.result c.byte.result c.if-n-eq0.false c.byte.ensures c.lead_length-m.ensures c.requires.1.1 in
    omega (arith, most)

pub overflow_add-result : goal.overflow_add-result
overflow_add-result c =
    let least : c.lead_length-m.result ≤ c.args.n = let a = c.args in
    packed_least a.s.now a.b.now a.p a.n c.lead_length-m.result c.byte.result c.if-n-eq0.false c.byte.ensures c.lead_length-m.ensures c.requires.1.1 in
    omega (arith, least, c.requires.0, c.requires.1.0, bits_size c.args.b.now)

pub overflow_sub-result : goal.overflow_sub-result
overflow_sub-result c =
    let least : c.lead_length-m.result ≤ c.args.n = let a = c.args in
    packed_least a.s.now a.b.now a.p a.n c.lead_length-m.result c.byte.result c.if-n-eq0.false c.byte.ensures c.lead_length-m.ensures c.requires.1.1 in
    omega (arith, least)

pub returns : goal.returns
returns c = let a = c.args in
    packed_first a.s.now a.b.now a.p a.n c.lead_length-m.result c.byte.result c.if-n-eq0.false c.byte.ensures c.lead_length-m.ensures c.requires.1.1 c.requires.1.0
