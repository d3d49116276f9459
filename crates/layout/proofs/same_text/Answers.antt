use Prim.Native.Nat.{◌+◌, ℕ}
use Rattle.rules.specs.BundleLaws.{bits_binary}
use Rattle.rules.specs.LayoutLaws.{field_lt}
use Rattle.bits.specs.Packed.{bytes_at}
use Rattle.layout.specs.Text.{text_at}
use Rattle.rules.specs.Bits.{bits}
use Rattle.rules.specs.Bytes.{same}
use mathlib.Core.Path.{◌∙◌, ap}
use native.Mathlib.Omega.{arith}
use Rattle.layout.proofs.same_text.Goals as goal

pub same_at-requires : goal.same_at-requires
same_at-requires c = (omega (arith, field_lt (bits c.args.b.now) (bits_binary c.args.b.now) 16 c.args.p, c.field-m.ensures), omega (arith, field_lt (bits c.args.b.now) (bits_binary c.args.b.now) 16 c.args.q, c.field-n.ensures))

pub returns : goal.returns
returns c = c.same_at.ensures ∙ ap (λ (n : ℕ). same (bytes_at (bits c.args.b.now) (c.args.p + 16) n) (bytes_at (bits c.args.b.now) (c.args.q + 16) c.field-n.result)) c.field-m.ensures ∙ ap (λ (n : ℕ). same (text_at (bits c.args.b.now) c.args.p) (bytes_at (bits c.args.b.now) (c.args.q + 16) n)) c.field-n.ensures
