use Rattle.std.specs.Prelude.{Option as RustOption, ℕ}
use Rattle.decorators.specs.Indents.{own, OwnStands, bytes_of}
use Rattle.lookup.proofs.Ordered.{string_near}
use Rattle.parts.specs.declared.Text.{Text}
use Rattle.bits.specs.Packed.{bytes_at, bytes_length}
use Rattle.rules.specs.State.{text_size}
use Rattle.rules.specs.BundleLaws.{bits_binary}
use Rattle.rules.specs.LayoutLaws.{field_lt}
use Rattle.rules.specs.Layout.{field}
use Rattle.rules.specs.Bits.{bits}
use Rattle.rules.specs.Bytes.{Bytes}
use lib.Seq.{sets}
use Prim.Native.Nat.{◌+◌}
use mathlib.Core.Path.{sym, ap, ap₂, ◌∙◌, subst}
use native.Mathlib.Omega.{arith}
use borrow.Author.Rules.{rules}
use Rattle.decorators.proofs.append_indent.Goals as goal

pub returns-in_default : goal.returns-in_default
returns-in_default c = let z = c in
    let b = bits z.args.b.now in
    let e = ap (λ (m : RustOption ℕ). text_size (own b m)) c.in_default.is in
    (omega (arith, e), sym (ap (λ (m : RustOption ℕ). sets z.args.indent.now z.args.len (bytes_of (own b m))) c.in_default.is))

pub text_at-t-requires : goal.text_at-t-requires
text_at-t-requires c = let z = c in string_near z.args.b.now _ z.requires.0 (subst (OwnStands (bits z.args.b.now)) c.in-Some.is z.requires.1)

pub copy_packed-requires : goal.copy_packed-requires
copy_packed-requires c = let z = c in
    let b = bits z.args.b.now in
    let p = c.in-Some.p in
    let f = ap (λ (t : Text). t.count) c.text_at-t.ensures in
    let h = ap (λ (t : Text). t.first) c.text_at-t.ensures in
    let e = ap (λ (m : RustOption ℕ). text_size (own b m)) c.in-Some.is ∙ bytes_length b (p + 16) (field b 16 p) in
    (omega (arith, f, e, z.requires.2), omega (arith, f, h, field_lt b (bits_binary z.args.b.now) 16 p, string_near z.args.b.now p z.requires.0 (subst (OwnStands b) c.in-Some.is z.requires.1)))

pub overflow_add-result : goal.overflow_add-result
overflow_add-result c = let z = c in
    let b = bits z.args.b.now in
    let p = c.in-Some.p in
    let f = ap (λ (t : Text). t.count) c.text_at-t.ensures in
    let e = ap (λ (m : RustOption ℕ). text_size (own b m)) c.in-Some.is ∙ bytes_length b (p + 16) (field b 16 p) in
    omega (arith, f, e, z.requires.2)

pub returns : goal.returns
returns c = let z = c in
    let b = bits z.args.b.now in
    let p = c.in-Some.p in
    let f = ap (λ (t : Text). t.count) c.text_at-t.ensures in
    let h = ap (λ (t : Text). t.first) c.text_at-t.ensures in
    let e = ap (λ (m : RustOption ℕ). text_size (own b m)) c.in-Some.is ∙ bytes_length b (p + 16) (field b 16 p) in
    (omega (arith, f, e), c.copy_packed.ensures ∙ ap (λ (x : Bytes). sets z.args.indent.now z.args.len x) (ap₂ (bytes_at b) h f) ∙ sym (ap (λ (m : RustOption ℕ). sets z.args.indent.now z.args.len (bytes_of (own b m))) c.in-Some.is))
