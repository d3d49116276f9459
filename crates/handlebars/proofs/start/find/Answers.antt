use mathlib.Core.Path.{sym, ◌∙◌}
use Rattle.handlebars.specs.Begins.{both_set, missing, found_at}
use borrow.Author.Rules.{rules}
use Rattle.handlebars.proofs.start.find.Goals as goal

pub returns-then-options : goal.returns-then-options
returns-then-options c = let z = c in both_set z.args.b.now z.args.start.now z.args.options z.requires c.if-options.true

pub returns-in-Some : goal.returns-in-Some
returns-in-Some c = let z = c in found_at z.args.b.now z.args.start.now z.args.options z.requires c.if-options.false _ _ _ (sym c.get_template-f.ensures ∙ c.in-Some.is)

pub returns-in-None : goal.returns-in-None
returns-in-None c = let z = c in missing z.args.b.now z.args.start.now z.args.options z.requires c.if-options.false (sym c.get_template-f.ensures ∙ c.in-None.is)
