use Rattle.direct.specs.Direct.{written_text}
use Rattle.output.proofs.Outputs.{on_texts, on_page}
use Rattle.bits.specs.Packed.{bytes_at}
use Rattle.rules.specs.Bits.{bits}
use borrow.Author.Rules.{rules}
use Rattle.writing.proofs.write_packed.Goals as goal

pub returns-then-w : goal.returns-then-w
returns-then-w c = let a = c.args in
    let p = c.write_packed in
    on_texts (written_text a.indent.now (bytes_at (bits a.b.now) a.p a.n)) a.w p.result a.page.now a.texts.now p.new.out c.if-w.true p.ensures

pub returns : goal.returns
returns c = let a = c.args in
    let p = c.write_packed-2 in
    on_page (written_text a.indent.now (bytes_at (bits a.b.now) a.p a.n)) a.w p.result a.page.now a.texts.now p.new.out c.if-w.false p.ensures
