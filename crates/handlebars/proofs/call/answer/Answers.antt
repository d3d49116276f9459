use Rattle.std.specs.Prelude.{Ok}
use borrow.Author.Tests.{not-true, not-false}
use Rattle.handlebars.specs.Answers.{Shown}
use Rattle.handlebars.specs.Begins.{StartHolds, standing_accepted, goes_on, short, roomy}
use Rattle.handlebars.specs.Calls.{refused_shown}
use mathlib.Core.Path.{refl, sym, ap, ◌∙◌, subst}
use borrow.Author.Rules.{rules}
use Rattle.handlebars.proofs.call.answer.Goals as goal

pub returns-then-not-long_enough : goal.returns-then-not-long_enough
returns-then-not-long_enough c = let z = c in
    let y = c.long_enough in
    (record { shown = refused_shown z.args.bundle.now z.args.page.now 1 _ _ c.refused.ensures (short _ (sym y.ensures ∙ c.if-not-long_enough.true)); places_after = c.clear.ensures })

pub begin-from-requires : goal.begin-from-requires
begin-from-requires c = refl

pub go_on-requires : goal.go_on-requires
go_on-requires c = let z = c in
    let y = c.long_enough in
    let b = c.begin-from.ensures in
    let h = subst (StartHolds z.args.bundle.now) c.in-Ok.is b.0.parts in
    (h, b.1.accepted (standing_accepted z.args.bundle.now h.0), roomy _ _ _ _ (sym y.ensures ∙ c.if-not-long_enough.false))

pub returns-in-Err : goal.returns-in-Err
returns-in-Err c = let z = c in
    let y = c.long_enough in
    let b = c.begin-from.ensures.0 in
    (record { shown = refused_shown z.args.bundle.now z.args.page.now _ _ _ c.refused-in-Err.ensures (b.is _ _ _ (sym y.ensures ∙ c.if-not-long_enough.false) ∙ ap (goes_on z.args.bundle.now z.args.plan.now _ _) c.in-Err.is); places_after = c.clear-in-Err.ensures })

pub returns-in-Ok : goal.returns-in-Ok
returns-in-Ok c = let z = c in
    let y = c.long_enough in
    let b = c.begin-from.ensures.0 in
    (record { shown = subst (Shown z.args.bundle.now _ _) (sym (b.is _ _ _ (sym y.ensures ∙ c.if-not-long_enough.false) ∙ ap (goes_on z.args.bundle.now z.args.plan.now _ _) c.in-Ok.is)) c.go_on.ensures.shown; places_after = c.go_on.ensures.places_after })
