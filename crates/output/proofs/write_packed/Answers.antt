use Rattle.output.proofs.Packed.{take_packed}
use Rattle.output.proofs.Written.{part_written}
use Rattle.output.specs.Writer.{output, room, filled_if}
use Rattle.bits.specs.Packed.{bytes_at, bytes_length}
use Rattle.rules.specs.Bits.{bits}
use lib.Seq.{sets}
use lib.ListN.{length}
use native.Mathlib.Omega.{arith}
use Prim.Native.Nat.{ℕ, ◌≤◌, min}
use mathlib.Core.Path.{◌≡◌, sym, ap, ◌∙◌}
use Rattle.output.proofs.write_packed.Goals as goal

pub returns : goal.returns
returns c = let a = c.args in
    let b = bits a.s.now in
    let v = bytes_at b a.p a.n in
    let m = c.min-m.result in
    let size : a.n ≡ length v = sym (bytes_length b a.p a.n) in
    let h : m ≡ min (length v) (room (output a.w a.out.now)) = c.min-m.ensures ∙ ap (min a.n) c.room.ensures ∙ ap (λ (k : ℕ). min k (room (output a.w a.out.now))) size in
    let few : m ≤ a.n = omega (arith, c.min-m.ensures) in
    part_written v m (output a.w a.out.now) h c.advance.result c.fill.result c.copy_packed.new.out c.place-at.result (c.fill.ensures ∙ ap (λ (k : ℕ). filled_if m k c.advance.result) size) c.advance.ensures (c.copy_packed.ensures ∙ ap (sets a.out.now c.place-at.result) (sym (take_packed b a.p a.n m few))) c.place-at.ensures
