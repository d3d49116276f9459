use Rattle.expressions.specs.Laws.{expression_refused, expression_helper, expression_known, expression_written, expression_nothing}
use Rattle.drawing.specs.Arrays.{array_scopes, array_near}
use Rattle.state.specs.Context.{whole}
use Rattle.state.specs.World.{World, world}
use borrow.Author.Rules.{rules}
use Rattle.expressions.proofs.render_expression.Goals as goal

pub expression-shows-requires : goal.expression-shows-requires
expression-shows-requires c = let z = c in
    let a = z.args in
    let w : World = world (whole a.rc a.scopes) a.page.now a.texts.now a.indent.now a.ent.now in
    let r = z.requires.2 in
    (z.requires.0, z.requires.1, r.one, r.most, array_near a.s.now a.b.now a.rc a.scopes a.page.now a.texts.now a.indent.now a.ent.now r z.requires.4, z.requires.3)

pub render_bare-requires : goal.render_bare-requires
render_bare-requires c = c.requires

pub value-requires : goal.value-requires
value-requires c = let z = c in
    let a = z.args in
    let w : World = world (whole a.rc a.scopes) a.page.now a.texts.now a.indent.now a.ent.now in
    let r = z.requires.2 in
    (z.requires.0, z.requires.1, expression_known a.s.now a.b.now a.options w r a.d a.p a.before c.expression-shows.result a.scopes (array_scopes a.s.now a.b.now a.rc a.scopes a.page.now a.texts.now a.indent.now a.ent.now r z.requires.4) c.expression-shows.ensures c.in-Value.v c.in-Value.is)

pub returns-in-Bad : goal.returns-in-Bad
returns-in-Bad c = let z = c in
    let a = z.args in
    let w : World = world (whole a.rc a.scopes) a.page.now a.texts.now a.indent.now a.ent.now in
    let r = z.requires.2 in
    expression_refused a.s.now a.b.now a.options w r a.d a.p a.before c.expression-shows.result a.scopes (array_scopes a.s.now a.b.now a.rc a.scopes a.page.now a.texts.now a.indent.now a.ent.now r z.requires.4) c.expression-shows.ensures c.in-Bad.n c.in-Bad.is (whole c.failed.result a.scopes) (c.failed.ensures a.scopes)

pub returns-in-Helper : goal.returns-in-Helper
returns-in-Helper c = let z = c in
    let a = z.args in
    let w : World = world (whole a.rc a.scopes) a.page.now a.texts.now a.indent.now a.ent.now in
    let r = z.requires.2 in
    let u = c.render_bare in
    expression_helper a.s.now a.b.now a.options w r a.d a.p a.before c.expression-shows.result a.scopes (array_scopes a.s.now a.b.now a.rc a.scopes a.page.now a.texts.now a.indent.now a.ent.now r z.requires.4) c.expression-shows.ensures c.in-Helper.is (world (whole u.result a.scopes) u.new.page u.new.texts a.indent.now a.ent.now) u.ensures

pub returns-in-Value : goal.returns-in-Value
returns-in-Value c = let z = c in
    let a = z.args in
    let w : World = world (whole a.rc a.scopes) a.page.now a.texts.now a.indent.now a.ent.now in
    let r = z.requires.2 in
    let u = c.value in
    expression_written a.s.now a.b.now a.options w r a.d a.p a.before c.expression-shows.result a.scopes (array_scopes a.s.now a.b.now a.rc a.scopes a.page.now a.texts.now a.indent.now a.ent.now r z.requires.4) c.expression-shows.ensures c.in-Value.v c.in-Value.is (whole u.result a.scopes) u.new.page u.new.texts (u.ensures.writes a.scopes)

pub returns-in-Nothing : goal.returns-in-Nothing
returns-in-Nothing c = let z = c in
    let a = z.args in
    let w : World = world (whole a.rc a.scopes) a.page.now a.texts.now a.indent.now a.ent.now in
    let r = z.requires.2 in
    expression_nothing a.s.now a.b.now a.options w r a.d a.p a.before c.expression-shows.result a.scopes (array_scopes a.s.now a.b.now a.rc a.scopes a.page.now a.texts.now a.indent.now a.ent.now r z.requires.4) c.expression-shows.ensures c.in-Nothing.is
