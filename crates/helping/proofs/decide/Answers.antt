use mathlib.Core.Bool.{Bool}
use mathlib.Core.Path.{sym, ap, ◌∙◌, subst}
use Rattle.rules.specs.Bytes.{Bytes}
use Rattle.rules.specs.Registry.{get_helper}
use Rattle.meaning.specs.Means.{stands_known}
use Rattle.expand.specs.Answers.{helper_of}
use Rattle.inlining.specs.Decorated.{is_at}
use Rattle.helpers.specs.Does.{Decides}
use Rattle.helping.proofs.Deciding.{by_refused, by_fine}
use borrow.Author.Rules.{rules}
use Rattle.helping.proofs.decide.Goals as goal

pub returns-in-Some : goal.returns-in-Some
returns-in-Some c = let a = c.args in
    λ l d p h. by_refused a.s.now a.b.now a.ent.now l a.used a.options d p (is_at a.template) (is_at a.inverse) a.w h c.in-Some.e c.in-Some.is

pub get_helper-h-requires : goal.get_helper-h-requires
get_helper-h-requires c = let z = c in (z.requires.0, z.requires.1, stands_known z.args.s.now z.args.b.now z.args.ent.now _ _ (z.requires.2 c.in_default.is).name)

pub call_helper-requires : goal.call_helper-requires
call_helper-requires c = let z = c in (z.requires.0, z.requires.1, z.requires.2 c.in_default.is)

pub returns : goal.returns
returns c = let a = c.args in
    let D =
    subst (λ (x : Bool). Decides a.s.now a.b.now a.ent.now a.used a.options c.get_helper-h.result a.w (is_at a.template) x c.call_helper.result) c.is_at-2.ensures
    (subst (λ (x : Bool). Decides a.s.now a.b.now a.ent.now a.used a.options c.get_helper-h.result a.w x c.is_at-2.result c.call_helper.result) c.is_at.ensures c.call_helper.ensures) in
    λ l d p h.
    by_fine a.s.now a.b.now a.ent.now l a.used a.options d p (is_at a.template) (is_at a.inverse) a.w h c.in_default.is c.get_helper-h.result c.call_helper.result
    (λ t e i. c.get_helper-h.ensures.at a.ent.now t i.name_stands ∙ ap (λ (n : Bytes). helper_of (get_helper n)) (sym i.name)) D
