use Rattle.bits.proofs.Laws.{byte_lt, pair_of}
use Rattle.rules.specs.BundleLaws.{bits_binary}
use Rattle.rules.specs.Bits.{bits}
use native.Mathlib.Omega.{arith}
use Prim.Native.Nat.{◌+◌, ◌*◌}
use Rattle.bits.proofs.pair_or_zero.Goals as goal

pub overflow_mul-result : goal.overflow_mul-result
overflow_mul-result c = let a = c.args in
    record { fits = omega (arith, byte_lt a.s.now (8 * a.k)) }

pub overflow_add-result : goal.overflow_add-result
overflow_add-result c = let a = c.args in
    record { fits = omega (arith, byte_lt a.s.now (8 * a.k), byte_lt a.s.now (8 * (a.k + 1))) }

pub returns-then-k-s : goal.returns-then-k-s
returns-then-k-s c = let a = c.args in
    pair_of (bits a.s.now) (bits_binary a.s.now) a.k c.byte_at.result c.byte_at-then-k-s.result c.byte_at.ensures c.byte_at-then-k-s.ensures
