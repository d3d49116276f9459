use mathlib.Core.Bool.{Bool}
use mathlib.Core.Path.{◌∙◌, ap, sym}
use Rattle.rules.specs.Bytes.{pick}
use Rattle.expand.specs.declared.HelperDef.TheVariants.{Unknown}
use borrow.Author.Rules.{rules}
use Rattle.expand.proofs.if_named.Goals as goal

pub returns-then-is : goal.returns-then-is
returns-then-is c = sym (ap (λ (x : Bool). pick x c.args.helper Unknown) (sym c.is.ensures ∙ c.if-is.true))

pub returns : goal.returns
returns c = sym (ap (λ (x : Bool). pick x c.args.helper Unknown) (sym c.is.ensures ∙ c.if-is.false))
