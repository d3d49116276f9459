use Rattle.handlebars.specs.Checks.{plan_number, plan_table}
use Rattle.rules.specs.Picks.{no, yes}
use borrow.Author.Tests.{le-ltb, lt-ltb}
use mathlib.Core.Path.{◌∙◌, refl}
use borrow.Author.Rules.{rules}
use Rattle.handlebars.proofs.handlebars_check_plan.Goals as goal

pub returns-then-table-lt-VALUES : goal.returns-then-table-lt-VALUES
unfolding plan_number plan_table
returns-then-table-lt-VALUES c = (yes _ _ _ _ (lt-ltb _ _ c.if-table-lt-VALUES.true) refl, c.clear.ensures ∙ yes _ _ _ _ (lt-ltb _ _ c.if-table-lt-VALUES.true) refl)

pub returns : goal.returns
unfolding plan_number plan_table
returns c = (c.read_plan.ensures.value ∙ no _ _ _ _ (le-ltb _ _ c.if-table-lt-VALUES.false) refl, c.read_plan.ensures.tab_after ∙ no _ _ _ _ (le-ltb _ _ c.if-table-lt-VALUES.false) refl)
