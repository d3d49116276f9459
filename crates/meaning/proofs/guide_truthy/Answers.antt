use Rattle.meaning.specs.Means.{means_so}
use Rattle.meaning.specs.Truth.{truthy_guide}
use borrow.Author.Rules.{rules}
use mathlib.Core.Path.{◌∙◌}
use Rattle.meaning.proofs.guide_truthy.Goals as goal

pub returns : goal.returns
returns c = let s = c in means_so s.args.s.now s.args.b.now s.args.v _ _ (λ j e. e ∙ truthy_guide j) c.truth.ensures
