use mathlib.Core.Path.{◌≡◌, sym, ap, ◌∙◌, subst}
use Rattle.drawing.specs.Arrays.{front_current, array_near, array_near_front, array_newest}
use Rattle.helping.specs.Decided.{DecidedNear}
use Rattle.inlining.specs.Decorated.{is_at}
use Rattle.helping.specs.Laws.{decided_whole, call_held, doable}
use borrow.Author.Rules.{rules}
use Rattle.render.proofs.begin_helper.Goals as goal

pub decide_near-near-requires : goal.decide_near-near-requires
decide_near-near-requires c = let a = c.args in
    let h = c.requires in
    let cur = front_current a.scopes a.rc a.front h.7 in
    (h.0, h.1, array_near_front a.s.now a.b.now a.rc a.scopes a.page.now a.texts.now a.indent.now a.ent.now h.2 a.front h.7, h.3)

pub try_from_template-w-requires : goal.try_from_template-w-requires
try_from_template-w-requires c = let a = c.args in
    let h = c.requires in
    let cur = front_current a.scopes a.rc a.front h.7 in
    (h.0, h.1, h.2.one, h.2.most, array_near a.s.now a.b.now a.rc a.scopes a.page.now a.texts.now a.indent.now a.ent.now h.2 cur, h.3)

pub decide-far-requires : goal.decide-far-requires
decide-far-requires c = let a = c.args in
    let h = c.requires in
    let cur = front_current a.scopes a.rc a.front h.7 in
    (h.0, h.1, call_held a.s.now a.b.now a.ent.now a.rc a.scopes a.page.now a.texts.now a.indent.now h.2 a.options a.d a.p c.try_from_template-w.result cur c.try_from_template-w.ensures)

pub begin-requires : goal.begin-requires
begin-requires c = let a = c.args in
    let h = c.requires in
    let cur = front_current a.scopes a.rc a.front h.7 in
    let does = c.decide-far.result in
    let D = decided_whole a.s.now a.b.now a.ent.now a.rc a.scopes a.page.now a.texts.now a.indent.now h.2 a.options a.d a.p a.template a.inverse does cur (c.decide-far.ensures a.scopes a.d a.p c.try_from_template-w.ensures) in
    (h.0, h.1, doable a.s.now a.b.now a.ent.now a.rc a.scopes a.page.now a.texts.now a.indent.now h.2 a.front a.options a.d a.p a.template a.inverse does h.7 D, h.4)

pub returns-in_default : goal.returns-in_default
returns-in_default c = let a = c.args in
    let h = c.requires in
    let cur = front_current a.scopes a.rc a.front h.7 in
    let does = c.decide-far.result in
    let D = decided_whole a.s.now a.b.now a.ent.now a.rc a.scopes a.page.now a.texts.now a.indent.now h.2 a.options a.d a.p a.template a.inverse does cur (c.decide-far.ensures a.scopes a.d a.p c.try_from_template-w.ensures) in
    (c.begin.ensures.helper_begun a.scopes a.options a.d a.p h.7 h.2 D h.5 h.6, c.begin.ensures.top_is.count, c.begin.ensures.top_is)

pub begin-requires-2 : goal.begin-requires-2
begin-requires-2 c = let a = c.args in
    let h = c.requires in
    let cur = front_current a.scopes a.rc a.front h.7 in
    let does = c.in-Some.does in
    let D = decided_whole a.s.now a.b.now a.ent.now a.rc a.scopes a.page.now a.texts.now a.indent.now h.2 a.options a.d a.p a.template a.inverse does cur (subst (DecidedNear a.s.now a.b.now a.ent.now a.front a.rc.names a.rc.used a.options a.d a.p (is_at a.template) (is_at a.inverse)) c.in-Some.is c.decide_near-near.ensures a.scopes (array_newest a.s.now a.b.now a.rc a.scopes a.page.now a.texts.now a.indent.now a.ent.now h.2 a.front h.7)) in
    (h.0, h.1, doable a.s.now a.b.now a.ent.now a.rc a.scopes a.page.now a.texts.now a.indent.now h.2 a.front a.options a.d a.p a.template a.inverse does h.7 D, h.4)

pub returns : goal.returns
returns c = let a = c.args in
    let h = c.requires in
    let cur = front_current a.scopes a.rc a.front h.7 in
    let does = c.in-Some.does in
    let D = decided_whole a.s.now a.b.now a.ent.now a.rc a.scopes a.page.now a.texts.now a.indent.now h.2 a.options a.d a.p a.template a.inverse does cur (subst (DecidedNear a.s.now a.b.now a.ent.now a.front a.rc.names a.rc.used a.options a.d a.p (is_at a.template) (is_at a.inverse)) c.in-Some.is c.decide_near-near.ensures a.scopes (array_newest a.s.now a.b.now a.rc a.scopes a.page.now a.texts.now a.indent.now a.ent.now h.2 a.front h.7)) in
    (c.begin-2.ensures.helper_begun a.scopes a.options a.d a.p h.7 h.2 D h.5 h.6, c.begin-2.ensures.top_is.count, c.begin-2.ensures.top_is)
