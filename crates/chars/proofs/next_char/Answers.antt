use Rattle.chars.proofs.Strings.{said_any, part_first}
use Rattle.chars.specs.Spelled.{Spelled, Parted}
use mathlib.Core.Path.{refl, subst, sym}
use Rattle.chars.proofs.next_char.Goals as goal

pub said-requires : goal.said-requires
said-requires c = let a = c.args in
    let h = subst (Spelled a.s.now a.b.now) c.in-Said.is c.requires.2 in
    (c.requires.0, (refl, h.1, h.2))

pub packed-requires : goal.packed-requires
packed-requires c = let a = c.args in
    (c.requires.1, subst (Spelled a.s.now a.b.now) c.in-Packed.is c.requires.2)

pub digits-requires : goal.digits-requires
digits-requires c = let a = c.args in
    subst (Spelled a.s.now a.b.now) c.in-Digits.is c.requires.2

pub returns-in-Said : goal.returns-in-Said
returns-in-Said c = let a = c.args in
    let h = subst (Spelled a.s.now a.b.now) c.in-Said.is c.requires.2 in
    subst (λ z. Parted a.s.now a.b.now z c.said.result) (sym c.in-Said.is)
    (said_any a.s.now a.b.now c.in-Said.at c.in-Said.field-1 c.said.result h.0 c.said.ensures)

pub returns-in-Part : goal.returns-in-Part
returns-in-Part c = let a = c.args in
    let h = subst (Spelled a.s.now a.b.now) c.in-Part.is c.requires.2 in
    part_first a.s.now a.b.now a.t c.in-Part.at c.in-Part.field-1 c.in-Part.n c.in-Part.is h.0 h.1

pub returns-in-Packed : goal.returns-in-Packed
returns-in-Packed c = let a = c.args in
    subst (λ z. Parted a.s.now a.b.now z c.packed.result) (sym c.in-Packed.is) c.packed.ensures

pub returns-in-Digits : goal.returns-in-Digits
returns-in-Digits c = let a = c.args in
    subst (λ z. Parted a.s.now a.b.now z c.digits.result) (sym c.in-Digits.is) c.digits.ensures

pub returns-in-Minus : goal.returns-in-Minus
returns-in-Minus c = let a = c.args in
    absurd (subst (Spelled a.s.now a.b.now) c.in-Minus.is c.requires.2)
