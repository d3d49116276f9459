use Rattle.direct.specs.Direct.{cleared, written_text, led_whole}
use Rattle.output.proofs.Steps.{take_min}
use Rattle.output.specs.Writer.{output, advanced, place_of, room}
use Rattle.output.specs.declared.Writer.{Writer}
use Rattle.rules.specs.Bytes.{Bytes}
use lib.Seq.{sets}
use lib.ListN.{length, take, length-take}
use mathlib.Core.Path.{◌≡◌, sym, ap, ◌∙◌}
use mathlib.Core.List.{◌∷◌}
use Prim.Native.Nat.{ℕ, ◌≤◌}
use native.Mathlib.Omega.{arith}
use Rattle.direct.proofs.lead.Goals as goal

pub returns : goal.returns
returns c = let a = c.args in
    let i = a.indent.now in
    let o = a.out.now in
    let n = c.min-n.result in
    let t : Bytes = take a.w.indent i in
    let same : take n i ≡ t = ap (λ (m : ℕ). take m i) c.min-n.ensures ∙ take_min a.w.indent i in
    let size : n ≡ length t = c.min-n.ensures ∙ sym (length-take a.w.indent i) in
    let fits : length t ≤ room (output a.w o) = omega (arith, size, c.if-room-n.false, c.room.ensures) in
    let e : output (cleared c.advance-q.result) c.copy.new.out ≡ output (cleared (advanced (length t) a.w)) (sets o (place_of a.w) t) =
    ap (λ (x : Writer). output (cleared x) c.copy.new.out) (c.advance-q.ensures ∙ ap (λ (m : ℕ). advanced m a.w) size)
    ∙ ap (output (cleared (advanced (length t) a.w))) (c.copy.ensures ∙ ap (λ (m : ℕ). sets o m (take n i)) c.place-at.ensures ∙ ap (sets o (place_of a.w)) same) in
    (ap (λ (x : Writer). x.has_indent) c.advance-q.ensures, λ d v h. ap (written_text i (d ∷ v)) e ∙ led_whole i v o d a.w h fits)
