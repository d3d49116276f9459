use Rattle.handlebars.specs.Calls.{same_options}
use borrow.Author.Rules.{rules}
use Rattle.handlebars.proofs.handlebars_render.Goals as goal

pub returns : goal.returns
returns c = let z = c in same_options _ z.args.bundle.now z.args.plan.now z.args.start.now _ _ _ _ c.render.ensures c.options_from.ensures
