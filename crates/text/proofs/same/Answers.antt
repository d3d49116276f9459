use mathlib.Core.Path.{◌∙◌, ap, ap₂, subst, sym}
use Rattle.rules.specs.Bytes.{same}
use Rattle.text.specs.declared.Text.{Text}
use Rattle.text.specs.Rest.{Stands, rest}
use Rattle.text.proofs.same.Goals as goal

pub remaining_packed-requires : goal.remaining_packed-requires
remaining_packed-requires c = let z = c in
    let s = z.args.s.now in
    let b = z.args.b.now in
    (z.requires.0, subst (Stands s b) c.in-Said.is z.requires.1, subst (Stands s b) c.in-Packed.is z.requires.2)

pub same_at-requires : goal.same_at-requires
same_at-requires c = let z = c in
    let s = z.args.s.now in
    let b = z.args.b.now in
    (subst (Stands s b) c.in-Packed-t.is z.requires.1, subst (Stands s b) c.in-Packed.is z.requires.2)

pub same_steps-requires-in_default-t : goal.same_steps-requires-in_default-t
same_steps-requires-in_default-t c = let z = c in
    (z.requires.0, z.requires.1, subst (Stands z.args.s.now z.args.b.now) c.in-Packed.is z.requires.2)

pub returns-in-Said : goal.returns-in-Said
returns-in-Said c = let a = c.args in
    c.remaining_packed.ensures
    ∙ ap₂ (λ (x y : Text). same (rest a.s.now a.b.now x) (rest a.s.now a.b.now y)) (sym c.in-Said.is) (sym c.in-Packed.is)

pub returns-in-Packed-t : goal.returns-in-Packed-t
returns-in-Packed-t c = let a = c.args in
    c.same_at.ensures
    ∙ ap₂ (λ (x y : Text). same (rest a.s.now a.b.now x) (rest a.s.now a.b.now y)) (sym c.in-Packed-t.is) (sym c.in-Packed.is)

pub returns-in_default-t : goal.returns-in_default-t
returns-in_default-t c = let a = c.args in
    c.same_steps-in_default-t.ensures ∙ ap (λ (y : Text). same (rest a.s.now a.b.now a.t) (rest a.s.now a.b.now y)) (sym c.in-Packed.is)
