use Prim.Native.Nat.{ℕ, ◌+◌}
use native.Mathlib.Omega.{arith}
use mathlib.Core.Path.{◌∙◌, ap, refl, sym}
use Rattle.bits.specs.Packed.{bytes_at}
use Rattle.layout.specs.Text.{text_at}
use Rattle.parts.specs.HoldsLaws.{string_in}
use Rattle.places.specs.Places.{member}
use Rattle.rules.specs.Bits.{bits}
use Rattle.rules.specs.BundleLaws.{bits_size}
use Rattle.lookup.proofs.Numbers.{member_small, is_member, no_member}
use Rattle.lookup.proofs.Ordered.{string_near}
use borrow.Author.Rules.{rules}
use Rattle.lookup.proofs.place_number.Goals as goal

pub overflow_add-q : goal.overflow_add-q
overflow_add-q c = let z = c in omega (arith, string_near z.args.b.now z.args.q z.requires.1 z.requires.3)

pub member_number-c-requires : goal.member_number-c-requires
member_number-c-requires c = let z = c in
    (z.requires.0, z.requires.2, omega (arith, z.requires.4, string_in (bits z.args.b.now) z.args.q z.requires.3, bits_size z.args.b.now, z.requires.1))

pub overflow_add-result : goal.overflow_add-result
overflow_add-result c = let z = c in
    let a = z.args in
    omega (arith, member_small a.s.now a.tab.now z.requires.0 a.i z.requires.2 (text_at (bits a.b.now) a.q) c.member_number-c.result (c.member_number-c.ensures ∙ ap (λ (n : ℕ). member a.s.now a.i (bytes_at (bits a.b.now) (a.q + 16) n)) z.requires.4))

pub returns-then-is_object : goal.returns-then-is_object
returns-then-is_object c = let z = c in
    let a = z.args in
    is_member a.s.now a.tab.now z.requires.0 a.i z.requires.2 (text_at (bits a.b.now) a.q) c.member_number-c.result _ (sym c.is_object.ensures ∙ c.if-is_object.true) (c.member_number-c.ensures ∙ ap (λ (n : ℕ). member a.s.now a.i (bytes_at (bits a.b.now) (a.q + 16) n)) z.requires.4) refl

pub returns : goal.returns
returns c = let a = c.args in no_member a.s.now a.i (text_at (bits a.b.now) a.q) (sym c.is_object.ensures ∙ c.if-is_object.false)
