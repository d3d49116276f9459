use Rattle.decorators.proofs.Naming.{name_known, name_text, no_other}
use Rattle.meaning.specs.Forms.{Formed}
use Rattle.value.specs.Numbers.{decoded}
use mathlib.Core.Path.{ap, ◌∙◌, subst}
use borrow.Author.Rules.{rules}
use borrow.Enum.Refused.{opened}
use Rattle.decorators.proofs.inline_name.Goals as goal

pub form_of-f-requires : goal.form_of-f-requires
form_of-f-requires c = let z = c in (z.requires.0, z.requires.1, name_known z.args.s.now z.args.b.now z.args.ent.now z.args.e z.requires.3 _ (c.decode.ensures ∙ ap decoded c.low.ensures))

pub returns-in_default : goal.returns-in_default
returns-in_default c = let z = c in absurd (no_other z.args.s.now z.args.b.now z.args.ent.now z.args.e z.requires.3 _ (c.decode.ensures ∙ ap decoded c.low.ensures) c.form_of-f.result (opened c.in_default.in_default-own.keys2) c.form_of-f.ensures)

pub returns : goal.returns
returns c = let z = c in let v = c.decode.result in name_text z.args.s.now z.args.b.now z.args.ent.now z.args.e z.requires.3 v (c.decode.ensures ∙ ap decoded c.low.ensures) _ (subst (Formed z.args.s.now z.args.b.now v) c.in-String.is c.form_of-f.ensures)
