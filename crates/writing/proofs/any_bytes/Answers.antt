use Rattle.direct.specs.Direct.{written_text}
use Rattle.support.specs.Feed.{escaped}
use Rattle.output.proofs.Outputs.{on_texts, on_page}
use borrow.Author.Rules.{rules}
use Rattle.writing.proofs.any_bytes.Goals as goal

pub returns-then-w : goal.returns-then-w
returns-then-w c = let a = c.args in
    let p = c.write_bytes in
    on_texts (written_text a.indent.now (escaped a.escape a.v.now)) a.w p.result a.page.now a.texts.now p.new.out c.if-w.true p.ensures

pub returns : goal.returns
returns c = let a = c.args in
    let p = c.write_bytes-2 in
    on_page (written_text a.indent.now (escaped a.escape a.v.now)) a.w p.result a.page.now a.texts.now p.new.out c.if-w.false p.ensures
