use Rattle.strings.proofs.Quick.{plain_string}
use borrow.Author.Rules.{rules}
use mathlib.Core.Path.{◌∙◌}
use Rattle.strings.proofs.string_end.Goals as goal

pub returns-then-e-ne0 : goal.returns-then-e-ne0
returns-then-e-ne0 c = let e = c.plain_string_end-e in
    e.ensures ∙ plain_string c.args.s.now c.args.i c.requires.0 (λ z. c.if-e-ne0.true (e.ensures ∙ z))
