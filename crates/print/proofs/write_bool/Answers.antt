use Rattle.output.specs.Writer.{output}
use Rattle.print.specs.Printed.{printed}
use Rattle.rules.specs.Json.{jbool}
use Rattle.rules.specs.Value.{render}
use borrow.Author.Rules.{rules}
use mathlib.Core.Bool.{Bool}
use mathlib.Core.Path.{◌∙◌, ap, sym}
use Rattle.print.proofs.write_bool.Goals as goal

pub returns-then-x : goal.returns-then-x
returns-then-x c = let a = c.args in c.feed_bytes.ensures ∙ ap (λ (x : Bool). printed a.indent.now a.escape (render (jbool x)) (output a.w a.out.now)) (sym c.if-x.true)

pub returns : goal.returns
returns c = let a = c.args in c.feed_bytes-2.ensures ∙ ap (λ (x : Bool). printed a.indent.now a.escape (render (jbool x)) (output a.w a.out.now)) (sym c.if-x.false)
