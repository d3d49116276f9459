use Rattle.output.specs.Writer.{all_put}
use Rattle.support.specs.Feed.{wants_indent}
use mathlib.Core.Bool.{false}
use mathlib.Core.Path.{◌≡◌, sym, ◌∙◌}
use Rattle.support.proofs.indent_before.Goals as goal

pub returns : goal.returns
unfolding all_put
returns c = let a = c.args in
    let e : wants_indent a.c a.w ≡ false = sym c.wants_indent.ensures ∙ c.if-wants_indent.false in
    rw e
