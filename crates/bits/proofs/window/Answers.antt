use Rattle.bits.proofs.Laws.{past, window_of, window_end}
use Rattle.rules.specs.BundleLaws.{bits_binary}
use Rattle.rules.specs.Bits.{bits}
use native.Mathlib.Omega.{arith}
use Prim.Native.Nat.{◌+◌, ◌*◌, ◌/◌, ◌%◌}
use Rattle.bits.proofs.window.Goals as goal

pub returns-then-k-s : goal.returns-then-k-s
returns-then-k-s c = let a = c.args in
    window_of (bits a.s.now) (bits_binary a.s.now) a.p c.word.ensures c.byte_at.ensures

pub returns : goal.returns
returns c = let a = c.args in
    window_end (bits a.s.now) (bits_binary a.s.now) a.p c.near_end.ensures (past a.s.now (a.p % 8) (8 * (a.p / 8) + 64) (omega arith))
