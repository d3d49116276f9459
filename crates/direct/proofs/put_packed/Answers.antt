use Rattle.direct.specs.Direct.{behind, taken, stored_whole, takes}
use Rattle.output.specs.Writer.{output}
use Rattle.bits.specs.Packed.{bytes_at, bytes_length, bytes_get}
use Rattle.rules.specs.Bits.{bits}
use lib.Seq.{sets}
use lib.ListN.{length, get_or}
use mathlib.Core.Path.{◌≡◌, sym, ap, ◌∙◌}
use Prim.Native.Nat.{ℕ, ◌-◌}
use native.Mathlib.Omega.{arith}
use Rattle.direct.proofs.put_packed.Goals as goal

pub returns : goal.returns
returns c = let a = c.args in
    let h = c.requires in
    let b = bits a.s.now in
    let v = bytes_at b a.p a.n in
    let n : length v ≡ a.n = bytes_length b a.p a.n in
    let t = taken a.w (length a.out.now) a.n h.1 in
    let last : c.byte.result ≡ get_or v (length v - 1) 0 = c.byte.ensures ∙ sym (bytes_get b a.p a.n (a.n - 1) (omega (arith, t.some))) ∙ ap (λ (k : ℕ). get_or v (k - 1) 0) (sym n) in
    let k : takes a.w (length a.out.now) (length v) ≡ _ = ap (takes a.w (length a.out.now)) n ∙ h.1 in
    λ i. ap (λ x. output x c.copy_packed.new.out) (c.behind.ensures ∙ ap (λ (x : ℕ). behind a.n x a.w) last ∙ ap (λ (x : ℕ). behind x (get_or v (length v - 1) 0) a.w) (sym n))
    ∙ ap (output (behind (length v) (get_or v (length v - 1) 0) a.w)) (c.copy_packed.ensures ∙ ap (λ (m : ℕ). sets a.out.now m v) c.place-at.ensures)
    ∙ stored_whole i v a.out.now a.w k h.2
