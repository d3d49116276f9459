use native.Mathlib.Omega.{arith}
use mathlib.Core.Path.{ap, ◌∙◌}
use Prim.Native.Nat.{ℕ, ◌+◌}
use Rattle.bits.specs.Packed.{bytes_at}
use Rattle.rules.specs.LayoutLaws.{field_lt}
use Rattle.rules.specs.BundleLaws.{bits_binary}
use Rattle.rules.specs.Bytes.{same}
use Rattle.rules.specs.Bits.{bits}
use Rattle.parts.proofs.text_is.Goals as goal

pub same_bytes-requires : goal.same_bytes-requires
same_bytes-requires c = let s = c in omega (arith, c.field-n.ensures, field_lt (bits s.args.b.now) (bits_binary s.args.b.now) 16 s.args.p)

pub returns : goal.returns
returns c = let s = c in c.same_bytes.ensures ∙ ap (λ (n : ℕ). same (bytes_at (bits s.args.b.now) (s.args.p + 16) n) s.args.t.now) c.field-n.ensures
