use Rattle.state.specs.Setters.{finished}
use Rattle.state.specs.Context.{whole}
use Rattle.state.specs.declared.RenderContext.{RenderContext}
use Rattle.texts.proofs.finish_partial.Goals.{then-is_none, else-is_none}
use mathlib.Core.Path.{◌∙◌, ap}
use mathlib.Core.Bool.{not}
use borrow.Author.Rules.{rules}
use Rattle.texts.proofs.finish_partial.Goals as goal

pub returns : goal.returns
returns c = λ l.
    let a = c.args in
    c.finish.ensures l
    ∙ elim c.if-is_none.branch [
      | then-is_none t ↦ ap (λ (q : RenderContext). finished a.before.writer (whole q l)) t.q-is ∙ rw (c.is_none.ensures ∙ ap not t.if-is_none.true)
      | else-is_none t ↦ ap (λ (q : RenderContext). finished a.before.writer (whole q l)) t.q-is ∙ rw (c.is_none.ensures ∙ ap not t.if-is_none.false)
    ]
