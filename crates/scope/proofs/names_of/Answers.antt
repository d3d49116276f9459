use Prim.Native.Nat.{ℕ, ◌-◌, ◌^◌}
use mathlib.Core.Path.{sym, ap, ◌∙◌, subst}
use native.Mathlib.Omega.{arith}
use Rattle.rules.specs.Bits.{bits}
use Rattle.rules.specs.Bundle.{string}
use Rattle.layout.specs.Text.{text_at}
use Rattle.parts.specs.Holds.{end}
use Rattle.scope.specs.NameBits.{Has, bit_of, has_own, has_left, has_right, covers_none, covers_one, covers_two, covers_hash}
use Rattle.scope.proofs.names_of.Goals as goal

pub returns-in-0 : goal.returns-in-0
returns-in-0 c = let a = c.args in covers_none a.b.now a.ent.now 0 a.c c.in-0.is

pub returns-in-1 : goal.returns-in-1
returns-in-1 c = let a = c.args in
    covers_one a.b.now a.ent.now c.name_bit.result a.c c.in-1.is
    (subst (λ (x : ℕ). Has x (text_at (bits a.b.now) a.c.names)) (sym c.name_bit.ensures) (has_own (text_at (bits a.b.now) a.c.names)))

pub returns-in-2 : goal.returns-in-2
returns-in-2 c = let a = c.args in
    let t = text_at (bits a.b.now) a.c.names in
    let u = text_at (bits a.b.now) (end string (bits a.b.now) a.c.names) in
    let x = c.name_bit-in-2.result in
    let y = c.name_bit-in-2-2.result in
    covers_two a.b.now a.ent.now _ a.c c.in-2.is
    (has_left x y t (subst (λ (n : ℕ). Has n t) (sym c.name_bit-in-2.ensures) (has_own t)))
    (has_right x y u (subst (λ (n : ℕ). Has n u) (sym (c.name_bit-in-2-2.ensures ∙ ap (λ (q : ℕ). 2 ^ bit_of (text_at (bits a.b.now) q)) c.skip_string-next.ensures)) (has_own u)))

pub returns-in-Merged : goal.returns-in-Merged
returns-in-Merged c = let a = c.args in
    covers_hash a.b.now a.ent.now c.hash_bits.result a.c (a.c.kind - 3) _ _ (omega arith) (sym c.decode.ensures ∙ c.in-Merged.is) c.hash_bits.ensures
