use Rattle.turns.proofs.Stepping.{object_past, object_latest, object_is}
use borrow.Author.Rules.{rules}
use Rattle.turns.proofs.object_turn.Goals as goal

pub next_member-at-requires : goal.next_member-at-requires
next_member-at-requires c = (c.requires.0, c.requires.1, c.requires.4.within)

pub returns-in_default : goal.returns-in_default
returns-in_default c = let a = c.args in
    let p = c.requires in
    object_past a.s.now a.tab.now p.0 a.i p.1 a.v p.2 a.k p.3 a.after p.4 c.next_member-at.result c.next_member-at.ensures c.in_default.is

pub next_member-requires : goal.next_member-requires
next_member-requires c = let a = c.args in
    let p = c.requires in
    (p.0, p.1, (object_latest a.s.now a.tab.now p.0 a.i p.1 a.v p.2 a.k p.3 a.after p.4 c.next_member-at.result c.next_member-at.ensures c.in-Some.c c.in-Some.is).child.within)

pub name-requires : goal.name-requires
name-requires c = let a = c.args in
    let p = c.requires in
    (p.0, (object_latest a.s.now a.tab.now p.0 a.i p.1 a.v p.2 a.k p.3 a.after p.4 c.next_member-at.result c.next_member-at.ensures c.in-Some.c c.in-Some.is).child.within)

pub returns : goal.returns
returns c = let a = c.args in
    let p = c.requires in
    object_is a.s.now a.tab.now p.0 a.i p.1 a.v p.2 a.k p.3 a.after p.4 c.next_member-at.result c.next_member-at.ensures c.in-Some.c c.in-Some.is c.next_member.result c.next_member.ensures c.is_end-last.result c.is_end-last.ensures c.inner.result c.inner.ensures c.name.result c.name.ensures.0 c.name.ensures.1
