use Prim.Native.Nat.{ℕ, ◌+◌}
use native.Mathlib.Omega.{arith}
use mathlib.Core.Path.{◌∙◌, ap}
use Rattle.bits.specs.Packed.{bytes_at}
use Rattle.layout.specs.Text.{text_at}
use Rattle.parts.specs.HoldsLaws.{string_in}
use Rattle.places.specs.Places.{member}
use Rattle.rules.specs.Bits.{bits}
use Rattle.rules.specs.BundleLaws.{bits_size}
use Rattle.lookup.proofs.Ordered.{string_near}
use Rattle.members.proofs.Objects.{new_member, old_member}
use borrow.Author.Rules.{rules}
use Rattle.members.proofs.new_in.Goals as goal

pub overflow_add-q : goal.overflow_add-q
overflow_add-q c = let z = c in omega (arith, string_near z.args.b.now z.args.q z.requires.1 z.requires.4)

pub member_number-requires : goal.member_number-requires
member_number-requires c = let z = c in
    (z.requires.0, z.requires.2, omega (arith, c.field-m.ensures, string_in (bits z.args.b.now) z.args.q z.requires.4, bits_size z.args.b.now, z.requires.1))

pub returns-then-member_number-eq0 : goal.returns-then-member_number-eq0
returns-then-member_number-eq0 c = let z = c in
    let a = z.args in
    new_member a.s.now a.tab.now z.requires.0 a.i z.requires.2 z.requires.3 (text_at (bits a.b.now) a.q) c.member_number.result (c.member_number.ensures ∙ ap (λ (n : ℕ). member a.s.now a.i (bytes_at (bits a.b.now) (a.q + 16) n)) c.field-m.ensures) c.if-member_number-eq0.true

pub returns : goal.returns
returns c = let z = c in
    let a = z.args in
    old_member a.s.now a.tab.now z.requires.0 a.i z.requires.2 z.requires.3 (text_at (bits a.b.now) a.q) c.member_number.result (c.member_number.ensures ∙ ap (λ (n : ℕ). member a.s.now a.i (bytes_at (bits a.b.now) (a.q + 16) n)) c.field-m.ensures) c.if-member_number-eq0.false
