use Prim.Native.Nat.{ℕ, ◌+◌, ◌/◌}
use mathlib.Core.Bool.{◌&&◌}
use mathlib.Core.Path.{sym, ap, ap₂, ◌∙◌}
use lib.Dec.{ltb}
use Rattle.rules.specs.Bits.{bits}
use Rattle.rules.specs.BundleLaws.{bits_binary}
use Rattle.rules.specs.Bytes.{same}
use Rattle.bits.specs.Packed.{bytes_at}
use Rattle.registry.proofs.Heads.{heads_differ, head_count}
use Rattle.registry.proofs.is_named.Goals as goal

pub returns-then-x-y : goal.returns-then-x-y
returns-then-x-y c = let z = c in
    let b = z.args.b.now in
    let x = c.field-x.ensures in
    let y = z.requires.2 in
    ap₂ (λ (x y : ℕ). ltb x 256 && ltb y 256) x y ∙ heads_differ (bits b) (bits_binary b) z.args.p z.args.q (λ e. c.if-x-y.true (x ∙ e ∙ sym y))

pub returns : goal.returns
returns c = let z = c in
    let b = z.args.b.now in
    let p = z.args.p in
    let q = z.args.q in
    let m = ap (λ (x : ℕ). x / 256) c.field-x.ensures ∙ head_count (bits b) (bits_binary b) p in
    let n = ap (λ (x : ℕ). x / 256) (c.if-x-y.false ∙ z.requires.2) ∙ head_count (bits b) (bits_binary b) q in
    c.same_at.ensures ∙ ap₂ (λ (m n : ℕ). same (bytes_at (bits b) (p + 16) m) (bytes_at (bits b) (q + 16) n)) m n
