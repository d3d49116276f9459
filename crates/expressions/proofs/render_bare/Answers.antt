use Rattle.std.specs.Prelude.{None}
use Rattle.state.specs.Context.{whole}
use Rattle.state.specs.World.{World, world}
use Rattle.drawing.specs.Arrays.{array_near}
use Rattle.helping.specs.Laws.{decided_whole, call_held}
use Rattle.expressions.specs.Laws.{bare_printable, bare_rendered}
use borrow.Author.Rules.{rules}
use Rattle.expressions.proofs.render_bare.Goals as goal

pub try_from_template-w-requires : goal.try_from_template-w-requires
try_from_template-w-requires c = let z = c in
    let a = z.args in
    let r = z.requires.2 in
    (z.requires.0, z.requires.1, r.one, r.most, array_near a.s.now a.b.now a.rc a.scopes a.page.now a.texts.now a.indent.now a.ent.now r z.requires.4, z.requires.3)

pub decide-does-requires : goal.decide-does-requires
decide-does-requires c = let z = c in
    let a = z.args in
    let r = z.requires.2 in
    let x = c.try_from_template-w in
    (z.requires.0, z.requires.1, call_held a.s.now a.b.now a.ent.now a.rc a.scopes a.page.now a.texts.now a.indent.now r a.options a.d a.p x.result z.requires.4 x.ensures)

pub draw_bare-u-requires : goal.draw_bare-u-requires
draw_bare-u-requires c = let z = c in
    let a = z.args in
    let w : World = world (whole a.rc a.scopes) a.page.now a.texts.now a.indent.now a.ent.now in
    let r = z.requires.2 in
    let v = c.decide-does in
    (z.requires.0, z.requires.1, bare_printable a.s.now a.b.now a.options w r a.d a.p a.before v.result (decided_whole a.s.now a.b.now a.ent.now a.rc a.scopes a.page.now a.texts.now a.indent.now r a.options a.d a.p None None v.result z.requires.4 (v.ensures a.scopes a.d a.p c.try_from_template-w.ensures)))

pub returns : goal.returns
returns c = let z = c in
    let a = z.args in
    let w : World = world (whole a.rc a.scopes) a.page.now a.texts.now a.indent.now a.ent.now in
    let r = z.requires.2 in
    let v = c.decide-does in
    let m = c.begin_helper-q in
    let u = c.draw_bare-u in
    bare_rendered a.s.now a.b.now a.options w r a.d a.p a.before v.result (decided_whole a.s.now a.b.now a.ent.now a.rc a.scopes a.page.now a.texts.now a.indent.now r a.options a.d a.p None None v.result z.requires.4 (v.ensures a.scopes a.d a.p c.try_from_template-w.ensures)) (whole m.result a.scopes) (whole u.result a.scopes) (whole c.finish.result a.scopes)
    u.new.page u.new.texts (m.ensures a.scopes) (u.ensures a.scopes) (c.finish.ensures a.scopes)
