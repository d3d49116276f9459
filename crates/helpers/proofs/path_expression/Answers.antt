use mathlib.Core.Path.{sym, ap, ◌∙◌}
use Rattle.rules.specs.Bits.{bits}
use Rattle.rules.specs.Layout.{field}
use Rattle.helpers.proofs.Pathing.{path_called}
use borrow.Author.Rules.{rules}
use Rattle.helpers.proofs.path_expression.Goals as goal

pub returns-then-field-ne0 : goal.returns-then-field-ne0
returns-then-field-ne0 c = let a = c.args in
    λ g st t d p ibw h H W. path_called a.s.now a.b.now a.ent.now t g st ibw d p a.q H W _ c.field.result c.skip_path-next.ensures c.field.ensures c.if-field-ne0.true

pub returns : goal.returns
returns c = let a = c.args in
    λ g st t d p ibw h H W. c.bare_path.ensures g st t d p ibw h H W
    (sym (ap (field (bits a.b.now) 8) c.skip_path-next.ensures) ∙ sym c.field.ensures ∙ c.if-field-ne0.false)
