use Rattle.writing.specs.Laws.{index_means}
use Rattle.print.specs.Printed.{printed}
use Rattle.meaning.specs.Means.{means_so}
use Rattle.support.specs.Feed.{finished, escaped, fed}
use Rattle.output.specs.Outputs.{outputs, on, with_writer}
use Rattle.output.specs.declared.Writer.{Writer}
use Rattle.rules.specs.Value.{render}
use mathlib.Core.Path.{◌≡◌, ap, ◌∙◌}
use borrow.Author.Rules.{rules}
use Rattle.writing.proofs.other_value.Goals as goal

pub returns-in-Index : goal.returns-in-Index
returns-in-Index c = let a = c.args in
    let f = c.write_number in
    index_means a.s.now a.b.now a.v c.in-Index.n c.in-Index.is (λ j. outputs f.result f.new.page f.new.texts ≡ fed a.indent.now (escaped a.escape (render j)) (outputs a.w a.page.now a.texts.now)) f.ensures

pub returns : goal.returns
returns c = let a = c.args in
    let f = c.feed_value in
    let i = a.indent.now in
    means_so a.s.now a.b.now a.v
    (λ j. outputs f.result f.new.page f.new.texts ≡ on (printed i a.escape (render j)) (outputs c.begin-q.result a.page.now a.texts.now))
    (λ j. outputs c.finish.result f.new.page f.new.texts ≡ fed i (escaped a.escape (render j)) (outputs a.w a.page.now a.texts.now))
    (λ j e. ap (λ (x : Writer). outputs x f.new.page f.new.texts) c.finish.ensures
    ∙ ap (with_writer finished) (e ∙ ap (λ (x : Writer). on (printed i a.escape (render j)) (outputs x a.page.now a.texts.now)) c.begin-q.ensures))
    f.ensures
