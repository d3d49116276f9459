use Rattle.std.specs.Prelude.{Option as RustOption, ℕ}
use Rattle.decorators.specs.Indents.{own, OwnStands}
use Rattle.lookup.proofs.Ordered.{string_near}
use Rattle.parts.specs.declared.Text.{Text}
use Rattle.bits.specs.Packed.{bytes_length}
use Rattle.rules.specs.State.{text_size}
use Rattle.rules.specs.BundleLaws.{bits_binary}
use Rattle.rules.specs.LayoutLaws.{field_lt}
use Rattle.rules.specs.Layout.{field}
use Rattle.rules.specs.Bits.{bits}
use Prim.Native.Nat.{◌+◌}
use mathlib.Core.Path.{sym, ap, ◌∙◌, subst}
use native.Mathlib.Omega.{arith}
use borrow.Author.Rules.{rules}
use Rattle.decorators.proofs.own_length.Goals as goal

pub text_at-t-requires : goal.text_at-t-requires
text_at-t-requires c = let z = c in string_near z.args.b.now _ z.requires.0 (subst (OwnStands (bits z.args.b.now)) c.in-Some.is z.requires.1)

pub returns : goal.returns
returns c = let z = c in
    let b = bits z.args.b.now in
    let p = c.in-Some.p in
    let f = ap (λ (t : Text). t.count) c.text_at-t.ensures in
    (f ∙ sym (bytes_length b (p + 16) (field b 16 p)) ∙ ap (λ (m : RustOption ℕ). text_size (own b m)) (sym c.in-Some.is), omega (arith, f, field_lt b (bits_binary z.args.b.now) 16 p))
