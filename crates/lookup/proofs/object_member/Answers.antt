use mathlib.Core.Path.{◌∙◌, ap, subst, sym}
use Rattle.places.specs.Places.{member}
use Rattle.text.specs.declared.Text.{Text}
use Rattle.text.specs.Rest.{Stands, rest}
use borrow.Author.Rules.{rules}
use Rattle.lookup.proofs.object_member.Goals as goal

pub member_packed-requires : goal.member_packed-requires
member_packed-requires c = let z = c in
    (z.requires.0, z.requires.1, subst (Stands z.args.s.now z.args.b.now) c.in-Packed.is z.requires.2)

pub said_member-requires : goal.said_member-requires
said_member-requires c = let z = c in
    (z.requires.0, z.requires.1, subst (Stands z.args.s.now z.args.b.now) c.in-Said.is z.requires.2)

pub returns-in-Packed : goal.returns-in-Packed
returns-in-Packed c = let a = c.args in
    c.member_packed.ensures ∙ ap (λ (x : Text). member a.s.now a.i (rest a.s.now a.b.now x)) (sym c.in-Packed.is)

pub returns-in-Said : goal.returns-in-Said
returns-in-Said c = let a = c.args in
    c.said_member.ensures ∙ ap (λ (x : Text). member a.s.now a.i (rest a.s.now a.b.now x)) (sym c.in-Said.is)
