use mathlib.Core.Path.{◌∙◌}
use Rattle.expand.specs.Answers.{name_of}
use Rattle.helpers.proofs.Expressing.{known_helper}
use borrow.Author.Rules.{rules}
use Rattle.helpers.proofs.is_helper.Goals as goal

pub returns : goal.returns
returns c = let a = c.args in
    record { at = λ ent t st. c.known.ensures ∙ known_helper (name_of a.s.now a.b.now ent a.v) c.get_helper.result (c.get_helper.ensures.at ent t st) }
