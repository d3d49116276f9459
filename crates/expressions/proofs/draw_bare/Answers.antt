use Rattle.state.specs.Context.{whole}
use Rattle.expressions.specs.Laws.{bare_refused, bare_written, bare_nothing}
use borrow.Author.Rules.{rules}
use borrow.Enum.Refused.{opened}
use Rattle.expressions.proofs.draw_bare.Goals as goal

pub value-requires : goal.value-requires
value-requires c = (c.requires.0, c.requires.1, c.requires.2 c.in-Write.v c.in-Write.is)

pub returns-in-Bad : goal.returns-in-Bad
returns-in-Bad c = λ l.
    let a = c.args in
    bare_refused a.s.now a.b.now (whole a.rc l) a.page.now a.texts.now a.indent.now a.does c.in-Bad.n c.in-Bad.is (whole c.failed.result l) (c.failed.ensures l)

pub returns-in-Write : goal.returns-in-Write
returns-in-Write c = λ l.
    let a = c.args in
    bare_written a.s.now a.b.now (whole a.rc l) a.page.now a.texts.now a.indent.now a.does c.in-Write.v c.in-Write.is (whole c.value.result l) c.value.new.page c.value.new.texts (c.value.ensures.writes l)

pub returns-in_default : goal.returns-in_default
returns-in_default c = λ l.
    let a = c.args in
    bare_nothing a.s.now a.b.now (whole a.rc l) a.page.now a.texts.now a.indent.now a.does (opened c.in_default.in_default-own.keys3)
