use Rattle.direct.specs.Direct.{behind, stored_whole}
use Rattle.output.specs.Writer.{output}
use lib.Seq.{sets, take-length}
use lib.ListN.{length, get_or}
use mathlib.Core.Path.{ap, ◌∙◌}
use Prim.Native.Nat.{ℕ, ◌-◌}
use Rattle.direct.proofs.put_bytes.Goals as goal

pub returns : goal.returns
returns c = let a = c.args in
    let h = c.requires in
    let v = a.v.now in
    λ i. ap (λ x. output x c.copy.new.out) c.behind.ensures
    ∙ ap (output (behind (length v) (get_or v (length v - 1) 0) a.w)) (c.copy.ensures ∙ ap (sets a.out.now c.place-at.result) (take-length v) ∙ ap (λ (m : ℕ). sets a.out.now m v) c.place-at.ensures)
    ∙ stored_whole i v a.out.now a.w h.0 h.1
