use Rattle.rules.specs.Picks.{yes, no}
use mathlib.Core.Path.{◌∙◌, sym, refl}
use Rattle.members.proofs.nearer.Goals as goal

pub is_above-requires : goal.is_above-requires
is_above-requires c = (c.requires.0, c.requires.1, c.requires.2, c.requires.3)

pub combine-requires : goal.combine-requires
combine-requires c = (c.requires.0, c.requires.1, c.requires.3, c.requires.4)

pub returns-then-is_above : goal.returns-then-is_above
returns-then-is_above c = yes _ _ _ _ (sym c.is_above.ensures ∙ c.if-is_above.true) c.combine.ensures

pub returns : goal.returns
returns c = no _ _ _ _ (sym c.is_above.ensures ∙ c.if-is_above.false) refl
