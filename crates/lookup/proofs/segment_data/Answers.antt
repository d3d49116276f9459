use Prim.Native.Nat.{ℕ, ◌+◌}
use Rattle.bits.specs.Packed.{bytes_at}
use Rattle.layout.specs.Text.{text_at}
use Rattle.lookup.proofs.Leading.{object_reaches}
use Rattle.lookup.proofs.Ordered.{string_near}
use Rattle.lookup.specs.Places.{Reaches}
use Rattle.parts.specs.HoldsLaws.{string_in}
use Rattle.places.specs.Items.{object_at}
use Rattle.places.specs.Kinds.{found, kind_of}
use Rattle.places.specs.Places.{member}
use Rattle.places.specs.declared.Kind.TheVariants as kind
use Rattle.rules.specs.Bits.{bits}
use Rattle.rules.specs.BundleLaws.{bits_size}
use Rattle.rules.specs.Bytes.{Bytes}
use borrow.Author.Rules.{rules}
use borrow.Author.Tests.{eqb-true}
use mathlib.Core.Path.{◌∙◌, ap, refl, subst, sym}
use native.Mathlib.Omega.{arith}
use Rattle.lookup.proofs.segment_data.Goals as goal

pub overflow_add-q : goal.overflow_add-q
overflow_add-q c = let z = c in
    omega (arith, string_near z.args.b.now z.args.q z.requires.1 z.requires.3)

pub member_packed-requires : goal.member_packed-requires
member_packed-requires c = let z = c in
    (z.requires.0, z.requires.2, omega (arith, c.field-n.ensures, string_in (bits z.args.b.now) z.args.q z.requires.3, bits_size z.args.b.now, z.requires.1))

pub returns-then-is_object : goal.returns-then-is_object
returns-then-is_object c = let z = c in
    let a = z.args in
    let o = eqb-true _ 123 (sym c.is_object.ensures ∙ c.if-is_object.true) in
    let g = c.member_packed.ensures ∙ ap (λ (n : ℕ). member a.s.now a.i (bytes_at (bits a.b.now) (a.q + 16) n)) c.field-n.ensures in
    rw c.from_place.ensures (object_reaches a.s.now a.tab.now z.requires.0 a.i z.requires.2 (text_at (bits a.b.now) a.q) kind.Object
    (sym (ap kind_of (object_at a.s.now a.i o))) refl (found c.member_packed.result) g)

pub returns : goal.returns
returns c = let a = c.args in
    subst (λ (k : Bytes). Reaches a.s.now a.i k c.place_data.result) c.text_of.ensures.0 c.place_data.ensures
