use Rattle.bits.proofs.Laws.{past, last_of}
use Rattle.rules.specs.BundleLaws.{bits_binary}
use Rattle.rules.specs.Bits.{bits}
use lib.ListN.{length}
use native.Mathlib.Omega.{arith}
use Prim.Native.Nat.{◌+◌, ◌-◌, ◌*◌}
use Rattle.bits.proofs.last_bytes.Goals as goal

pub returns : goal.returns
returns c = let a = c.args in
    let h = c.requires in
    let l = length a.s.now in
    let z = past a.s.now (64 - 8 * (l - a.k)) (8 * (l - 8) + 64) (omega (arith, h)) in
    last_of (bits a.s.now) (bits_binary a.s.now) a.k l a.n c.word.result h.1 h.2 h.3 h.4 c.word.ensures z
