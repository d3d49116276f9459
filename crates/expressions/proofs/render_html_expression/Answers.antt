use Rattle.error.specs.Reasons.{some_of, none_of}
use mathlib.Core.Bool.{true}
use mathlib.Core.Path.{refl, sym, ◌∙◌}
use Rattle.rules.specs.Bits.{bits}
use Rattle.calls.specs.Calls.{call_at}
use Rattle.state.specs.Context.{whole}
use Rattle.state.specs.Setters.{with_escape}
use Rattle.state.specs.World.{World, world}
use Rattle.drawing.specs.Arrays.{array_sized, current_kept}
use Rattle.expressions.specs.Laws.{html_ready, html_refused, html_drawn}
use borrow.Author.Rules.{rules}
use Rattle.expressions.proofs.render_html_expression.Goals as goal

pub render_expression-u-requires : goal.render_expression-u-requires
render_expression-u-requires c = let z = c in
    let a = z.args in
    let w : World = world (whole a.rc a.scopes) a.page.now a.texts.now a.indent.now a.ent.now in
    let r = z.requires.2 in
    (z.requires.0, z.requires.1, html_ready a.s.now a.b.now a.options w r (call_at a.d (bits a.b.now) a.p) a.before (whole c.set_disable_escape-q.result a.scopes) (c.set_disable_escape-q.ensures a.scopes), z.requires.3, current_kept a.rc a.scopes (array_sized a.s.now a.b.now a.rc a.scopes a.page.now a.texts.now a.indent.now a.ent.now r) r.one r.most c.set_disable_escape-q.result (with_escape (whole a.rc a.scopes) true) (c.set_disable_escape-q.ensures a.scopes) refl refl z.requires.4)

pub returns-then-is_some : goal.returns-then-is_some
returns-then-is_some c = let z = c in
    let a = z.args in
    let w : World = world (whole a.rc a.scopes) a.page.now a.texts.now a.indent.now a.ent.now in
    let r = z.requires.2 in
    let u = c.render_expression-u in
    html_refused a.s.now a.b.now a.options w r (call_at a.d (bits a.b.now) a.p) a.before (whole c.set_disable_escape-q.result a.scopes) (c.set_disable_escape-q.ensures a.scopes) (world (whole u.result a.scopes) u.new.page u.new.texts a.indent.now a.ent.now) u.ensures (some_of u.result.bad (sym c.is_some.ensures ∙ c.if-is_some.true))

pub returns : goal.returns
returns c = let z = c in
    let a = z.args in
    let w : World = world (whole a.rc a.scopes) a.page.now a.texts.now a.indent.now a.ent.now in
    let r = z.requires.2 in
    let u = c.render_expression-u in
    html_drawn a.s.now a.b.now a.options w r (call_at a.d (bits a.b.now) a.p) a.before (whole c.set_disable_escape-q.result a.scopes) (c.set_disable_escape-q.ensures a.scopes) (world (whole u.result a.scopes) u.new.page u.new.texts a.indent.now a.ent.now) u.ensures (none_of u.result.bad (sym c.is_some.ensures ∙ c.if-is_some.false)) (whole c.set_disable_escape.result a.scopes) (c.set_disable_escape.ensures a.scopes)
