use Rattle.direct.specs.Direct.{written_text}
use Rattle.support.specs.Feed.{fed}
use Rattle.output.proofs.Outputs.{on_page}
use Rattle.output.specs.Outputs.{outputs}
use Rattle.rules.specs.Bytes.{Bytes}
use mathlib.Core.Path.{◌≡◌, sym, ap, ◌∙◌}
use borrow.Author.Rules.{rules}
use Rattle.writing.proofs.write_bytes.Goals as goal

pub put_bytes-requires : goal.put_bytes-requires
put_bytes-requires c = let d = c.is_plain.ensures c.if-is_plain.true in (d.1, d.2)

pub returns-then-is_plain : goal.returns-then-is_plain
returns-then-is_plain c = let a = c.args in
    let i = a.indent.now in
    let p = c.put_bytes in
    let d = c.is_plain.ensures c.if-is_plain.true in
    on_page (written_text i a.v.now) a.w p.result a.page.now a.texts.now p.new.out d.0 (p.ensures i)
    ∙ ap (λ (v : Bytes). fed i v (outputs a.w a.page.now a.texts.now)) (sym d.3)

pub returns : goal.returns
returns c = c.any_bytes.ensures
