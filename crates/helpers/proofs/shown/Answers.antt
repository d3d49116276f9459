use mathlib.Core.Bool.{Bool}
use mathlib.Core.Path.{sym, ap, ◌∙◌}
use Rattle.rules.specs.Bytes.{pick}
use Rattle.helpers.specs.declared.Shows.TheVariants.{Bad, Nothing}
use Rattle.helpers.specs.Does.{shown}
use Rattle.helpers.proofs.Expressing.{not_missing}
use borrow.Author.Rules.{rules}
use borrow.Enum.Refused.{opened}
use Rattle.helpers.proofs.shown.Goals as goal
use Rattle.error.specs.declared.RenderErrorReason.TheVariants.{MissingVariable}

pub returns-then-strict : goal.returns-then-strict
returns-then-strict c = let z = c in sym (ap (shown z.args.strict) c.in-Missing.is ∙ ap (λ (b : Bool). pick b (Bad MissingVariable) Nothing) c.if-strict.true)

pub returns-else-strict : goal.returns-else-strict
returns-else-strict c = let z = c in sym (ap (shown z.args.strict) c.in-Missing.is ∙ ap (λ (b : Bool). pick b (Bad MissingVariable) Nothing) c.if-strict.false)

pub returns-in_default : goal.returns-in_default
returns-in_default c = let z = c in not_missing z.args.strict z.args.v (opened c.in_default.in_default-own.keys2)
