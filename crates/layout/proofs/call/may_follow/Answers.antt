use Prim.Native.Nat.{◌+◌, ℕ}
use Rattle.rules.specs.BundleLaws.{bits_binary}
use Rattle.rules.specs.LayoutLaws.{field_lt}
use Rattle.bits.specs.Packed.{bytes_at}
use Rattle.layout.proofs.Calls.{first_key, later_key}
use Rattle.layout.specs.Text.{text_at}
use Rattle.rules.specs.Bits.{bits}
use Rattle.rules.specs.Bytes.{before}
use mathlib.Core.Path.{◌∙◌, ap}
use native.Mathlib.Omega.{arith}
use Rattle.layout.proofs.call.may_follow.Goals as goal

pub returns-then-i-eq0 : goal.returns-then-i-eq0
returns-then-i-eq0 c = first_key (bits c.args.b.now) c.args.i c.args.prev _ c.if-i-eq0.true

pub before_at-requires : goal.before_at-requires
before_at-requires c = (omega (arith, field_lt (bits c.args.b.now) (bits_binary c.args.b.now) 16 c.args.prev, c.field-m.ensures), omega (arith, field_lt (bits c.args.b.now) (bits_binary c.args.b.now) 16 c.args.at, c.field-n.ensures))

pub returns : goal.returns
returns c = later_key (bits c.args.b.now) c.args.i c.args.prev _ _ c.if-i-eq0.false (c.before_at.ensures ∙ ap (λ (n : ℕ). before (bytes_at (bits c.args.b.now) (c.args.prev + 16) n) (bytes_at (bits c.args.b.now) (c.args.at + 16) c.field-n.result)) c.field-m.ensures ∙ ap (λ (n : ℕ). before (text_at (bits c.args.b.now) c.args.prev) (bytes_at (bits c.args.b.now) (c.args.at + 16) n)) c.field-n.ensures)
