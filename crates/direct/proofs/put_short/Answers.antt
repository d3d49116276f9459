use Rattle.direct.specs.Direct.{behind, taken, takes, stored_whole, short_bytes, short_length}
use Rattle.output.specs.Writer.{output}
use Rattle.bits.specs.Packed.{number_bytes}
use lib.Seq.{sets, get_or-take}
use lib.ListN.{length, get_or}
use mathlib.Core.Path.{◌≡◌, sym, ap, ◌∙◌}
use Prim.Native.Nat.{ℕ, ◌-◌}
use native.Mathlib.Omega.{arith}
use Rattle.direct.proofs.put_short.Goals as goal

pub returns : goal.returns
returns c = let a = c.args in
    let h = c.requires in
    let v = short_bytes a.n a.x in
    let n : length v ≡ a.n = short_length a.n a.x h.0 in
    let t = taken a.w (length a.out.now) a.n h.1 in
    let last : c.short_byte.result ≡ get_or v (length v - 1) 0 = c.short_byte.ensures ∙ sym (get_or-take a.n (number_bytes 7 a.x) (a.n - 1) 0 (omega (arith, t.some))) ∙ ap (λ (k : ℕ). get_or v (k - 1) 0) (sym n) in
    let k : takes a.w (length a.out.now) (length v) ≡ _ = ap (takes a.w (length a.out.now)) n ∙ h.1 in
    λ i. ap (λ x. output x c.store_short.new.out) (c.behind.ensures ∙ ap (λ (x : ℕ). behind a.n x a.w) last ∙ ap (λ (x : ℕ). behind x (get_or v (length v - 1) 0) a.w) (sym n))
    ∙ ap (output (behind (length v) (get_or v (length v - 1) 0) a.w)) (c.store_short.ensures ∙ ap (λ (m : ℕ). sets a.out.now m v) c.place-at.ensures)
    ∙ stored_whole i v a.out.now a.w k h.2
