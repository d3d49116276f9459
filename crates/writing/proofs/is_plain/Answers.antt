use Rattle.rules.specs.Order.{differ}
use Rattle.direct.specs.Direct.{plain_means}
use mathlib.Core.Path.{sym, ◌∙◌}
use borrow.Author.Rules.{rules}
use Rattle.writing.proofs.is_plain.Goals as goal

pub returns-then-w : goal.returns-then-w
returns-then-w c = λ h. differ (sym h)

pub returns-then-takes : goal.returns-then-takes
returns-then-takes c = λ h. let a = c.args in let d = plain_means a.w.has_indent a.escape a.v.now (sym c.is_plain.ensures ∙ h) in (c.if-w.false, sym c.takes.ensures ∙ c.if-takes.true, d.0, d.1)

pub returns : goal.returns
returns c = λ h. differ (sym h)
