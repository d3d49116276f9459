use Rattle.layout.specs.Verdict.{verdict_number, answer_verdict}
use mathlib.Core.Path.{◌∙◌, ap, sym}
use borrow.Author.Rules.{rules}
use Rattle.handlebars.proofs.handlebars_check_bundle.Goals as goal

pub returns-in-Ok : goal.returns-in-Ok
returns-in-Ok c = ap verdict_number (sym c.in-Ok.is) ∙ c.check_bundle.ensures ∙ sym (answer_verdict _)

pub returns-in-Err : goal.returns-in-Err
returns-in-Err c = c.from.ensures ∙ ap verdict_number (sym c.in-Err.is) ∙ c.check_bundle.ensures ∙ sym (answer_verdict _)
