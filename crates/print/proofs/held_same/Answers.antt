use mathlib.Core.Path.{◌∙◌, ap, subst, sym}
use Rattle.rules.specs.Bits.{bits}
use Rattle.rules.specs.Bytes.{same}
use Rattle.bits.specs.Packed.{bytes_at}
use Rattle.parts.specs.declared.Text.{Text}
use Rattle.text.specs.declared.Text.{Text as Given}
use Rattle.text.specs.Rest.{rest, Stands}
use Rattle.meaning.proofs.Forming.{held_text, string_near}
use borrow.Author.Rules.{rules}
use Rattle.print.proofs.held_same.Goals as goal

pub text_at-x-requires : goal.text_at-x-requires
text_at-x-requires c = let z = c in string_near z.args.b.now z.args.p z.requires.1 z.requires.2

pub same-requires : goal.same-requires
same-requires c = let z = c in
    let a = z.args in
    let x = c.text_at-x in
    let h = held_text a.s.now a.b.now a.p z.requires.1 z.requires.2 x.result.first x.result.count (ap (λ (y : Text). y.first) x.ensures) (ap (λ (y : Text). y.count) x.ensures) in
    (z.requires.0, h.stands, z.requires.3)

pub returns-in_default : goal.returns-in_default
returns-in_default c = let a = c.args in
    c.same.ensures ∙ ap (λ (y : Text). same (bytes_at (bits a.b.now) y.first y.count) (rest a.s.now a.b.now a.t)) c.text_at-x.ensures

pub same_at-requires : goal.same_at-requires
same_at-requires c = let z = c in
    let a = z.args in
    let x = c.text_at-x in
    let h = held_text a.s.now a.b.now a.p z.requires.1 z.requires.2 x.result.first x.result.count (ap (λ (y : Text). y.first) x.ensures) (ap (λ (y : Text). y.count) x.ensures) in
    (h.stands, subst (Stands a.s.now a.b.now) c.in-Packed.is z.requires.3)

pub returns : goal.returns
returns c = let a = c.args in
    c.same_at.ensures
    ∙ ap (λ (y : Given). same (bytes_at (bits a.b.now) c.text_at-x.result.first c.text_at-x.result.count) (rest a.s.now a.b.now y)) (sym c.in-Packed.is)
    ∙ ap (λ (y : Text). same (bytes_at (bits a.b.now) y.first y.count) (rest a.s.now a.b.now a.t)) c.text_at-x.ensures
