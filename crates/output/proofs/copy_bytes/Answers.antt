use mathlib.Core.Path.{◌≡◌, sym, ap, ◌∙◌}
use Prim.Native.Nat.{◌+◌}
use native.Mathlib.Omega.{arith}
use lib.ListN.{get_or, take, set}
use lib.Seq.{sets, take_all}
use Rattle.rules.specs.Bytes.{Bytes}
use Rattle.rules.specs.Bits.{bits}
use Rattle.bits.specs.Packed.{bytes_at, bytes_length, bytes_get}
use Rattle.output.proofs.Texts.{copy_more}
use Rattle.output.proofs.copy_bytes.Goals as goal

pub loop-i-preserved : goal.loop-i-preserved
loop-i-preserved c = let a = c.args in
    let l = c.loop-i in
    let b = bits a.s.now in
    let v = bytes_at b a.p a.n in
    let n = bytes_length b a.p a.n in
    let x : c.byte.result ≡ get_or v l.i 0 = c.byte.ensures ∙ sym (bytes_get b a.p a.n l.i c.loop-i-test.true) in
    ap (λ (u : Bytes). set u (a.at + l.i) c.byte.result) l.invariant ∙ ap (set (sets a.out.now a.at (take l.i v)) (a.at + l.i)) x ∙ copy_more a.out.now v a.at l.i (omega arith)

pub returns : goal.returns
returns c = let a = c.args in
    let l = c.loop-i in
    let b = bits a.s.now in
    let n = bytes_length b a.p a.n in
    l.invariant ∙ ap (sets a.out.now a.at) (take_all l.i (bytes_at b a.p a.n) (omega arith))
