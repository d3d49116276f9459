use mathlib.Core.Bool.{Bool}
use mathlib.Core.Path.{sym, ap, ◌∙◌}
use Rattle.meaning.specs.Meaning.{json_of}
use Rattle.helpers.specs.Does.{truth}
use Rattle.helpers.proofs.Deciding.{true_means, false_means}
use borrow.Author.Rules.{rules}
use Rattle.helpers.proofs.truth.Goals as goal

pub returns-in-True : goal.returns-in-True
returns-in-True c = let z = c in true_means z.args.s.now z.args.b.now z.args.guide z.args.zero z.args.v c.in-True.is

pub returns-in-False : goal.returns-in-False
returns-in-False c = let z = c in false_means z.args.s.now z.args.b.now z.args.guide z.args.zero z.args.v c.in-False.is

pub returns-then-guide : goal.returns-then-guide
returns-then-guide c = let z = c in record { at = λ ent t st. c.guide_truthy.ensures.at ent t st ∙ ap (λ (x : Bool). truth x z.args.zero (json_of z.args.s.now z.args.b.now ent z.args.v)) (sym c.if-guide.true) }

pub returns : goal.returns
returns c = let z = c in record { at = λ ent t st. c.is_truthy.ensures.at ent t st ∙ ap (λ (x : Bool). truth x z.args.zero (json_of z.args.s.now z.args.b.now ent z.args.v)) (sym c.if-guide.false) }
