use mathlib.Core.Bool.{Bool}
use mathlib.Core.Path.{◌∙◌, ap, sym}
use borrow.Author.Tests.{eq-eqb, ne_eqb}
use Rattle.rules.specs.Bytes.{pick}
use Rattle.expand.specs.declared.HelperDef.TheVariants.{Unknown}
use borrow.Author.Rules.{rules}
use Rattle.expand.proofs.if_bits.Goals as goal

pub returns-then-field-x : goal.returns-then-field-x
returns-then-field-x c = sym (ap (λ (x : Bool). pick x c.args.helper Unknown) (eq-eqb _ _ (sym c.field.ensures ∙ c.if-field-x.true)))

pub returns : goal.returns
returns c = sym (ap (λ (x : Bool). pick x c.args.helper Unknown) (ne_eqb _ _ (λ e. c.if-field-x.false (c.field.ensures ∙ e))))
