use Rattle.turns.proofs.Stepping.{list_past, list_child, list_is}
use borrow.Author.Rules.{rules}
use Rattle.turns.proofs.list_turn.Goals as goal

pub returns-in_default : goal.returns-in_default
returns-in_default c = let a = c.args in
    let p = c.requires in
    list_past a.s.now a.tab.now p.0 a.i p.1 a.v p.2 a.k p.3 a.at p.4 c.in_default.is

pub next-requires : goal.next-requires
next-requires c = let a = c.args in
    let p = c.requires in
    (p.0, p.1, (list_child a.s.now a.tab.now p.0 a.i p.1 a.v p.2 a.k p.3 a.at p.4 c.in-Some.c c.in-Some.is).within)

pub returns : goal.returns
returns c = let a = c.args in
    let p = c.requires in
    list_is a.s.now a.tab.now p.0 a.i p.1 a.v p.2 a.k p.3 a.at p.4 c.in-Some.c c.in-Some.is c.next.result c.next.ensures.0 c.is_end-last.result c.is_end-last.ensures c.inner.result c.inner.ensures
