use Rattle.direct.specs.Direct.{word_length}
use Rattle.output.proofs.Texts.{copy_more}
use Rattle.bits.specs.Packed.{number_bytes}
use Rattle.rules.specs.Bytes.{Bytes}
use lib.Seq.{sets}
use lib.ListN.{take, set}
use mathlib.Core.Path.{ap, ◌∙◌}
use Prim.Native.Nat.{◌+◌}
use native.Mathlib.Omega.{arith}
use Rattle.direct.proofs.store_short.Goals as goal

pub loop-j-preserved : goal.loop-j-preserved
loop-j-preserved c = let a = c.args in
    let l = c.loop-j in
    let v = number_bytes 7 a.x in
    let m = word_length a.x in
    ap (λ (u : Bytes). set u (a.at + l.j) c.short_byte.result) l.invariant ∙ ap (set (sets a.out.now a.at (take l.j v)) (a.at + l.j)) c.short_byte.ensures ∙ copy_more a.out.now v a.at l.j (omega arith)
