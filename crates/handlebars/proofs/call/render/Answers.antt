use Rattle.handlebars.specs.Calls.{shown_emptied}
use borrow.Author.Rules.{rules}
use Rattle.handlebars.proofs.call.render.Goals as goal

pub returns : goal.returns
returns c = let z = c in
    let r = c.answer-r in
    shown_emptied z.args.bundle.now z.args.page.now z.args.places.now z.args.entries.now z.args.texts.now z.args.indent.now _ _ _ _ _ _ _ _ _ _ _
    (record { page = r.auto.page; entries = r.auto.entries; texts = r.auto.texts; indent = r.auto.indent })
    r.ensures.shown r.ensures.places_after c.clear_lent.ensures
