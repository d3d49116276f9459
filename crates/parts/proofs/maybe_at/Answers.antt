use mathlib.Core.Path.{ap, sym, ◌∙◌}
use Prim.Native.Nat.{◌+◌}
use Rattle.parts.specs.Views.{maybe_of}
use Rattle.parts.specs.Parts.{one_more}
use Rattle.parts.proofs.maybe_at.Goals as goal

pub returns-then-field-eq0 : goal.returns-then-field-eq0
returns-then-field-eq0 c = ap (maybe_of (c.args.p + 1)) (sym c.if-field-eq0.true ∙ c.field.ensures)

pub returns : goal.returns
returns c = ap (maybe_of (c.args.p + 1)) (one_more _ c.if-field-eq0.false ∙ c.field.ensures)
