-- Two numbers in one: the first has w bits, the second stands above it. The width is left open.
use Rattle.std.specs.Prelude.{ℕ, ◌+◌, ◌*◌, ◌/◌, ◌%◌, ◌^◌, ◌<◌, ◌≡◌}
use Rattle.std.proofs.Common.{mul_comm, add_comm}
use Rattle.std.proofs.Math.Pow.{high, low}

abbrev pub pack : ℕ → ℕ → ℕ → ℕ
pack w a b = a + 2 ^ w * b

pub unpack_first : (w a b : ℕ) → a < 2 ^ w → pack w a b % 2 ^ w ≡ a
unpack_first w a b h = rw (add_comm a (2 ^ w * b), mul_comm (2 ^ w) b) (low b w h)

pub unpack_second : (w a b : ℕ) → a < 2 ^ w → pack w a b / 2 ^ w ≡ b
unpack_second w a b h = rw (add_comm a (2 ^ w * b), mul_comm (2 ^ w) b) (high b w h)
