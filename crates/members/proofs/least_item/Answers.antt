use Rattle.members.proofs.Nearing.{has_keyed}
use Rattle.members.proofs.Stepping.{Listing, listing_start, listing_end, listing_child, listing_few, listing_key, listing_on}
use Rattle.members.specs.Next.{after_name, PlainItem}
use Rattle.lookup.proofs.Scanning.{ahead, walks_less}
use native.Mathlib.Omega.{arith}
use Rattle.places.specs.Accepted.{Accepted}
use Rattle.places.specs.Places.{places, json_at}
use Rattle.places.specs.Kinds.{items_of}
use Rattle.rules.specs.Json.{jarr}
use Prim.Native.Nat.{◌<◌}
use mathlib.Core.Path.{◌≡◌}
use borrow.Author.Rules.{rules}
use Rattle.members.proofs.least_item.Goals as goal

pub first-at-requires : goal.first-at-requires
first-at-requires c = (c.requires.0, c.requires.2)

pub loop-at-init : goal.loop-at-init
loop-at-init c = λ a lt e. listing_start c.args.s.now c.args.b.now c.args.tab.now a c.args.i lt (after_name c.args.s.now c.args.b.now c.args.after) e c.first-at.result c.first-at.ensures

pub returns : goal.returns
returns c = let a = c.args in
    let p = c.requires in
    let l = c.loop-at in
    listing_end a.s.now a.b.now a.tab.now p.0 a.i p.2 (after_name a.s.now a.b.now a.after) p.3 l.n l.best l.at (l.invariant p.0 p.2 p.3) c.in_default.is

pub nearer-best-requires : goal.nearer-best-requires
nearer-best-requires c = let a = c.args in
    let p = c.requires in
    let l = c.loop-at in
    let w = l.invariant p.0 p.2 p.3 in
    (p.0, p.1, p.4, listing_key a.s.now a.b.now a.tab.now p.0 a.i p.2 (after_name a.s.now a.b.now a.after) p.3 l.n l.best l.at w c.in-Some.c c.in-Some.is, has_keyed a.s.now a.b.now (PlainItem a.s.now a.b.now) l.best w.holds)

pub next-at-requires : goal.next-at-requires
next-at-requires c = let a = c.args in
    let p = c.requires in
    let l = c.loop-at in
    (p.0, p.2, (listing_child a.s.now a.b.now a.tab.now p.0 a.i p.2 (after_name a.s.now a.b.now a.after) p.3 l.n l.best l.at (l.invariant p.0 p.2 p.3) c.in-Some.c c.in-Some.is).within)

pub overflow_add-n : goal.overflow_add-n
overflow_add-n c = let a = c.args in
    let p = c.requires in
    let l = c.loop-at in
    omega (arith, listing_few a.s.now a.b.now a.tab.now p.0 a.i p.2 (after_name a.s.now a.b.now a.after) p.3 l.n l.best l.at (l.invariant p.0 p.2 p.3) c.in-Some.c c.in-Some.is)

pub loop-at-smaller : goal.loop-at-smaller
loop-at-smaller c = let a = c.args in
    let p = c.requires in
    let l = c.loop-at in
    walks_less a.s.now a.tab.now p.0 a.i p.2 l.at (record { number = l.n; is = (l.invariant p.0 p.2 p.3).walks }) c.next-at.result c.in-Some.c c.in-Some.is c.next-at.ensures.0

pub loop-at-preserved : goal.loop-at-preserved
loop-at-preserved c = λ h lt e.
    let a = c.args in
    let l = c.loop-at in
    listing_on a.s.now a.b.now a.tab.now h a.i lt (after_name a.s.now a.b.now a.after) e l.n l.best l.at (l.invariant h lt e) c.in-Some.c c.in-Some.is c.nearer-best.result c.nearer-best.ensures c.next-at.result c.next-at.ensures.0
