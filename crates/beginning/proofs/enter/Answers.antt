use Rattle.std.specs.Prelude.{Option as RustOption, ℕ}
use mathlib.Core.Path.{sym, ap, ◌∙◌, subst}
use borrow.Author.Rules.{rules}
use Rattle.opening.specs.Opens.{Opens}
use Rattle.state.specs.Context.{RenderContext}
use Rattle.state.specs.Setters.{with_template}
use Rattle.beginning.specs.declared.Next.TheVariants.{Body, Text}
use Rattle.beginning.specs.Entering.{Enters, enter_open, enter_bad, enter_fits, enter_body, enter_text}
use Rattle.beginning.proofs.enter.Goals as goal

pub open_scope-opened-requires : goal.open_scope-opened-requires
open_scope-opened-requires c = let z = c in
    let a = z.args in
    enter_open a.s.now a.tab.now a.b.now a.ent.now a.indent.now a.rc a.front a.base a.d a.r a.n a.values.now a.at z.requires

pub names_of-requires : goal.names_of-requires
names_of-requires c = let z = c in
    let a = z.args in
    let O = subst (Opens a.s.now a.b.now a.ent.now c.open_scope-opened.new.ent a.front a.base a.d a.r a.n a.values.now a.rc.used a.rc.total) c.in-Ok.is c.open_scope-opened.ensures in
    (z.requires.small, O.well.readable)

pub deeper-requires : goal.deeper-requires
deeper-requires c = let z = c in
    let a = z.args in
    let O = subst (Opens a.s.now a.b.now a.ent.now c.open_scope-opened.new.ent a.front a.base a.d a.r a.n a.values.now a.rc.used a.rc.total) c.in-Ok.is c.open_scope-opened.ensures in
    O.well.room

pub begin_body-requires : goal.begin_body-requires
begin_body-requires c = let z = c in
    let a = z.args in
    let O = subst (Opens a.s.now a.b.now a.ent.now c.open_scope-opened.new.ent a.front a.base a.d a.r a.n a.values.now a.rc.used a.rc.total) c.in-Ok.is c.open_scope-opened.ensures in
    (z.requires.small, enter_fits a.s.now a.tab.now a.b.now a.ent.now a.indent.now a.rc a.front a.base a.d a.r a.n a.values.now a.at z.requires c.open_scope-opened.new.ent a.q a.e a.name c.in-Ok.c c.in-Ok.total O c.names_of.result c.names_of.ensures c.deeper.result c.set_total-u.result c.deeper.ensures c.set_total-u.ensures)

pub returns-in-Err : goal.returns-in-Err
returns-in-Err c = let z = c in
    let a = z.args in
    let O = subst (Opens a.s.now a.b.now a.ent.now c.open_scope-opened.new.ent a.front a.base a.d a.r a.n a.values.now a.rc.used a.rc.total) c.in-Err.is c.open_scope-opened.ensures in
    subst (Enters a.s.now a.b.now a.ent.now c.open_scope-opened.new.ent a.indent.now a.indent.now a.rc a.front a.base a.d a.r a.n a.values.now a.q a.e a.name a.own a.at) (sym c.done.ensures)
    (enter_bad a.s.now a.tab.now a.b.now a.ent.now a.indent.now a.rc a.front a.base a.d a.r a.n a.values.now
    a.at z.requires c.open_scope-opened.new.ent a.q a.e a.name a.own c.in-Err.e (λ v o p x T G. O.at v o p x 0 T G tt)
    c.failed.result c.failed.ensures)

pub shape_of-ent-in-Some : goal.shape_of-ent-in-Some
shape_of-ent-in-Some c = let y = c.open_scope-opened in let z = c.ent-1 in let x = c.slice_known-1 in search rules

pub returns-in-Some : goal.returns-in-Some
returns-in-Some c = let z = c in
    let a = z.args in
    let O = subst (Opens a.s.now a.b.now a.ent.now c.open_scope-opened.new.ent a.front a.base a.d a.r a.n a.values.now a.rc.used a.rc.total) c.in-Ok.is c.open_scope-opened.ensures in
    subst (λ (m : RustOption ℕ). Enters a.s.now a.b.now a.ent.now c.open_scope-opened.new.ent a.indent.now a.indent.now a.rc a.front a.base a.d a.r a.n a.values.now a.q a.e a.name m a.at (record { rc = c.set_current_template_name.result; top = c.in-Ok.c; next = Text c.in-Some.t a.q a.e a.name })) (sym c.in-Some.is)
    (enter_text a.s.now a.tab.now a.b.now a.ent.now a.indent.now a.rc a.front a.base a.d a.r a.n a.values.now a.at z.requires c.open_scope-opened.new.ent a.q a.e a.name c.in-Ok.c c.in-Ok.total O c.names_of.result c.names_of.ensures c.deeper.result c.set_total-u.result c.deeper.ensures c.set_total-u.ensures c.in-Some.t c.set_current_template_name.result (λ l. c.set_current_template_name.ensures l ∙ ap (λ (x : RenderContext). with_template x 0) (c.open_text.ensures l)))

pub shape_of-ent-in-None : goal.shape_of-ent-in-None
shape_of-ent-in-None c = let y = c.open_scope-opened in let z = c.ent-1 in let x = c.slice_known-1 in search rules

pub returns-in-None : goal.returns-in-None
returns-in-None c = let z = c in
    let a = z.args in
    let O = subst (Opens a.s.now a.b.now a.ent.now c.open_scope-opened.new.ent a.front a.base a.d a.r a.n a.values.now a.rc.used a.rc.total) c.in-Ok.is c.open_scope-opened.ensures in
    subst (λ (m : RustOption ℕ). Enters a.s.now a.b.now a.ent.now c.open_scope-opened.new.ent a.indent.now c.begin_body.new.indent a.rc a.front a.base a.d a.r a.n a.values.now a.q a.e a.name m a.at (record { rc = c.begin_body.result; top = c.no_text.result; next = Body a.q a.e a.name })) (sym c.in-None.is)
    (enter_body a.s.now a.tab.now a.b.now a.ent.now a.indent.now a.rc a.front a.base a.d a.r a.n a.values.now a.at z.requires c.open_scope-opened.new.ent a.q a.e a.name c.in-Ok.c c.in-Ok.total O c.names_of.result c.names_of.ensures c.deeper.result c.set_total-u.result c.deeper.ensures c.set_total-u.ensures c.begin_body.result c.begin_body.ensures.0 c.begin_body.new.indent c.begin_body.ensures.1 c.no_text.result c.no_text.ensures)
