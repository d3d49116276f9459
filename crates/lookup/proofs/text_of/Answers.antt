use Rattle.text.specs.declared.Text.TheVariants.{Packed}
use Rattle.chars.specs.Spelled.{Spelled}
use Rattle.chars.specs.Laws.{string_spelled}
use mathlib.Core.Path.{subst, ap, ap₂, sym}
use Rattle.lookup.proofs.Ordered.{string_near}
use Rattle.parts.specs.declared.Text.{Text}
use Rattle.parts.specs.HoldsLaws.{string_in}
use Rattle.bits.specs.Packed.{bytes_at}
use Rattle.rules.specs.BundleLaws.{bits_size}
use Rattle.rules.specs.Bits.{bits}
use native.Mathlib.Omega.{arith}
use Rattle.lookup.proofs.text_of.Goals as goal

pub text_at-t-requires : goal.text_at-t-requires
text_at-t-requires c = string_near c.args.b.now c.args.p c.requires.0 c.requires.1

pub returns : goal.returns
returns c = let e = ap (λ (t : Text). t.first) c.text_at-t.ensures in
    let f = ap (λ (t : Text). t.count) c.text_at-t.ensures in
    let i = string_in (bits c.args.b.now) c.args.p c.requires.1 in
    let z = bits_size c.args.b.now in
    let x = ap₂ Packed e f in
    (ap₂ (bytes_at (bits c.args.b.now)) e f, omega (arith, c.requires.0), subst (Spelled c.args.s.now c.args.b.now) (sym x) (string_spelled c.args.s.now c.args.b.now c.args.p c.requires.1))
