use mathlib.Core.Path.{◌≡◌}
use Rattle.rules.specs.Value.{render}
use Rattle.output.specs.Writer.{output}
use Rattle.output.specs.Outputs.{outputs, on}
use Rattle.output.proofs.Outputs.{on_texts, on_page}
use Rattle.meaning.specs.Means.{means_so}
use Rattle.print.specs.Printed.{printed}
use borrow.Author.Rules.{rules}
use Rattle.writing.proofs.feed_value.Goals as goal

pub returns-then-w : goal.returns-then-w
returns-then-w c = let a = c.args in
    let p = c.write_value in
    means_so a.s.now a.b.now a.v
    (λ j. output p.result p.new.out ≡ printed a.indent.now a.escape (render j) (output a.w a.texts.now))
    (λ j. outputs p.result a.page.now p.new.out ≡ on (printed a.indent.now a.escape (render j)) (outputs a.w a.page.now a.texts.now))
    (λ j. on_texts (printed a.indent.now a.escape (render j)) a.w p.result a.page.now a.texts.now p.new.out c.if-w.true)
    p.ensures

pub returns : goal.returns
returns c = let a = c.args in
    let p = c.write_value-2 in
    means_so a.s.now a.b.now a.v
    (λ j. output p.result p.new.out ≡ printed a.indent.now a.escape (render j) (output a.w a.page.now))
    (λ j. outputs p.result p.new.out a.texts.now ≡ on (printed a.indent.now a.escape (render j)) (outputs a.w a.page.now a.texts.now))
    (λ j. on_page (printed a.indent.now a.escape (render j)) a.w p.result a.page.now a.texts.now p.new.out c.if-w.false)
    p.ensures
