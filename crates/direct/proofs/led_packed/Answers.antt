use Rattle.direct.specs.Direct.{written_text, bytes_first}
use Rattle.output.specs.Writer.{output}
use Rattle.bits.specs.Packed.{bytes_at}
use Rattle.rules.specs.Bits.{bits}
use Rattle.rules.specs.Bytes.{Bytes}
use Prim.Native.Nat.{ℕ, ◌+◌, ◌-◌}
use mathlib.Core.Path.{◌≡◌, sym, ap, ◌∙◌}
use mathlib.Core.List.{◌∷◌}
use native.Mathlib.Omega.{arith}
use Rattle.direct.proofs.led_packed.Goals as goal

pub returns-then-n-gt0 : goal.returns-then-n-gt0
returns-then-n-gt0 c = let a = c.args in
    let b = bits a.s.now in
    let i = a.indent.now in
    let rest = bytes_at b (a.p + 8) (a.n - 1) in
    let some = c.if-n-gt0.true in
    let f : bytes_at b a.p a.n ≡ c.byte.result ∷ rest = bytes_first b a.p a.n (λ z. absurd (omega (arith, z, some))) ∙ ap (λ (x : ℕ). x ∷ rest) (sym c.byte.ensures) in
    ap (λ (u : Bytes). written_text i u (output c.led.result c.led.new.out)) f ∙ c.led.ensures.1 rest ∙ ap (λ (u : Bytes). written_text i u (output a.w a.out.now)) (sym f)
