use mathlib.Core.Path.{subst}
use Rattle.meaning.specs.Means.{stands_known}
use Rattle.state.specs.World.{world}
use Rattle.state.specs.Context.{whole}
use Rattle.drawing.specs.Renders.{Possible}
use Rattle.helping.proofs.Beginning.{begins_bad, begins_nothing, begins_template, begins_inverse, begins_turns, begins_write, fits, near, readable, room_behind, begins_within}
use borrow.Author.Rules.{rules}
use Rattle.helping.proofs.begin.Goals as goal

pub within_next-requires : goal.within_next-requires
within_next-requires c = let z = c in
    let a = z.args in
    let v = c.in-Within.v in
    let e = c.in-Within.is in (
      z.requires.1,
      z.requires.3,
      fits a.s.now a.tab.now a.b.now a.page.now a.texts.now a.indent.now a.ent.now a.front a.does a.at a.template a.inverse a.before a.rc z.requires.0 z.requires.1 z.requires.2 z.requires.3 c.begin_helper-q.result c.begin_helper-q.ensures v e,
      near a.s.now a.tab.now a.b.now a.page.now a.texts.now a.indent.now a.ent.now a.front a.does a.at a.template a.inverse a.before a.rc z.requires.0 z.requires.1 z.requires.2 z.requires.3 c.begin_helper-q.result c.begin_helper-q.ensures v e,
      readable a.s.now a.tab.now a.b.now a.page.now a.texts.now a.indent.now a.ent.now a.front a.does a.at a.template a.inverse a.before a.rc z.requires.0 z.requires.1 z.requires.2 z.requires.3 c.begin_helper-q.result c.begin_helper-q.ensures v e,
      room_behind a.s.now a.tab.now a.b.now a.page.now a.texts.now a.indent.now a.ent.now a.front a.does a.at a.template a.inverse a.before a.rc z.requires.0 z.requires.1 z.requires.2 z.requires.3 c.begin_helper-q.result c.begin_helper-q.ensures v e,
    )

pub value-requires : goal.value-requires
value-requires c = let z = c in
    let a = z.args in
    let Q = z.requires.2 in
    (z.requires.0, z.requires.1, stands_known a.s.now a.b.now a.ent.now _ _ (subst (Possible a.s.now a.b.now (world (whole a.rc Q.stack) Q.ready.page Q.ready.texts Q.ready.indent a.ent.now)) c.in-Write.is Q.possible))

pub returns-in-Bad : goal.returns-in-Bad
returns-in-Bad c = let z = c in
    let a = z.args in
    let r = begins_bad a.s.now a.tab.now a.b.now a.page.now a.texts.now a.indent.now a.ent.now a.front a.does a.at a.template a.inverse a.before a.rc z.requires.0 z.requires.1 z.requires.2 z.requires.3 c.begin_helper-q.result c.begin_helper-q.ensures
    c.in-Bad.n c.in-Bad.is c.done.result c.failed.result c.done.ensures c.failed.ensures in
    record { top_is = r.0; helper_begun = r.1 }

pub returns-in-Nothing : goal.returns-in-Nothing
returns-in-Nothing c = let z = c in
    let a = z.args in
    let r = begins_nothing a.s.now a.tab.now a.b.now a.page.now a.texts.now a.indent.now a.ent.now a.front a.does a.at a.template a.inverse a.before a.rc z.requires.0 z.requires.1 z.requires.2 z.requires.3 c.begin_helper-q.result c.begin_helper-q.ensures
    c.in-Nothing.is c.done-in-Nothing.result c.settle.result c.done-in-Nothing.ensures c.settle.ensures in
    record { top_is = r.0; helper_begun = r.1 }

pub returns-in-Template : goal.returns-in-Template
returns-in-Template c = let z = c in
    let a = z.args in
    let r = begins_template a.s.now a.tab.now a.b.now a.page.now a.texts.now a.indent.now a.ent.now a.front a.does a.at a.template a.inverse a.before a.rc z.requires.0 z.requires.1 z.requires.2 z.requires.3 c.begin_helper-q.result c.begin_helper-q.ensures
    c.in-Template.is c.body_next.result c.body_next.ensures in
    record { top_is = r.0; helper_begun = r.1 }

pub returns-in-Inverse : goal.returns-in-Inverse
returns-in-Inverse c = let z = c in
    let a = z.args in
    let r = begins_inverse a.s.now a.tab.now a.b.now a.page.now a.texts.now a.indent.now a.ent.now a.front a.does a.at a.template a.inverse a.before a.rc z.requires.0 z.requires.1 z.requires.2 z.requires.3 c.begin_helper-q.result c.begin_helper-q.ensures
    c.in-Inverse.is c.body_next-in-Inverse.result c.body_next-in-Inverse.ensures in
    record { top_is = r.0; helper_begun = r.1 }

pub returns-in-Within : goal.returns-in-Within
returns-in-Within c = let z = c in
    let a = z.args in
    let r = begins_within a.s.now a.tab.now a.b.now a.page.now a.texts.now a.indent.now a.ent.now a.front a.does a.at a.template a.inverse a.before a.rc z.requires.0 z.requires.1 z.requires.2 z.requires.3 c.begin_helper-q.result c.begin_helper-q.ensures
    c.in-Within.v c.in-Within.is c.within_next.result c.within_next.ensures in
    record { top_is = r.0; helper_begun = r.1 }

pub returns-in-Turns : goal.returns-in-Turns
returns-in-Turns c = let z = c in
    let a = z.args in
    let r = begins_turns a.s.now a.tab.now a.b.now a.page.now a.texts.now a.indent.now a.ent.now a.front a.does a.at a.template a.inverse a.before a.rc z.requires.0 z.requires.1 z.requires.2 z.requires.3 c.begin_helper-q.result c.begin_helper-q.ensures
    c.in-Turns.v c.in-Turns.is c.turns_next.result c.turns_next.ensures in
    record { top_is = r.0; helper_begun = r.1 }

pub returns-in-Write : goal.returns-in-Write
returns-in-Write c = let z = c in
    let a = z.args in
    let Q = z.requires.2 in
    let v = c.in-Write.v in
    let st = subst (Possible a.s.now a.b.now (world (whole a.rc Q.stack) Q.ready.page Q.ready.texts Q.ready.indent a.ent.now)) c.in-Write.is Q.possible in
    let r = begins_write a.s.now a.tab.now a.b.now a.page.now a.texts.now a.indent.now a.ent.now a.front a.does a.at a.template a.inverse a.before a.rc z.requires.0 z.requires.1 z.requires.2 z.requires.3 c.begin_helper-q.result c.begin_helper-q.ensures
    v c.in-Write.is c.done-in-Write.result c.value.result c.finish.result c.value.new.page c.value.new.texts _ c.done-in-Write.ensures c.finish.ensures
    (λ l. c.value.ensures.means.at a.ent.now _ st l) (λ l t h. c.value.ensures.writes l a.ent.now t h) in
    record { top_is = r.0; helper_begun = r.1 }
