use Rattle.targets.specs.Target.{by_peek}
use mathlib.Core.Path.{◌∙◌, ap, sym}
use borrow.Author.Rules.{rules}
use Rattle.targets.proofs.block_target.Goals as goal

pub returns-in-Absent : goal.returns-in-Absent
returns-in-Absent c = c.fallback.ensures ∙ sym (ap (by_peek c.args.own) c.in-Absent.is)

pub returns-in-Nothing : goal.returns-in-Nothing
returns-in-Nothing c = c.fallback-in-Nothing.ensures ∙ sym (ap (by_peek c.args.own) c.in-Nothing.is)

pub returns-in-Text : goal.returns-in-Text
returns-in-Text c = sym (ap (by_peek c.args.own) c.in-Text.is)
