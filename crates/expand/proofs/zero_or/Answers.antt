use mathlib.Core.Path.{sym, ◌∙◌}
use borrow.Author.Rules.{rules}
use Rattle.expand.proofs.zero_or.Goals as goal

pub returns-then-text_is : goal.returns-then-text_is
returns-then-text_is c = record { at = λ ent t st. rw (sym c.text_is.ensures ∙ c.if-text_is.true) (c.as_bool.ensures.at ent t st) }

pub returns : goal.returns
returns c = record { at = λ ent t st. rw (sym c.text_is.ensures ∙ c.if-text_is.false) }
