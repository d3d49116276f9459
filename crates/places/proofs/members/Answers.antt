use Rattle.places.proofs.Counting.{no_members_of, new_by, new_small, Counting, count_start, count_walk, count_on, count_end}
use Rattle.places.proofs.Fields.{index}
use Rattle.places.specs.Children.{end_at, walk_child}
use Rattle.places.specs.Places.{children}
use Rattle.rules.specs.Bytes.{byte_at}
use Rattle.rules.specs.Scan.{saying}
use Prim.Native.Nat.{◌-◌, ◌<◌}
use lib.ListN.{take}
use mathlib.Core.Path.{◌∙◌, ap, sym}
use native.Mathlib.Omega.{arith}
use borrow.Author.Rules.{rules}
use Rattle.places.proofs.members.Goals as goal

pub returns-then-byte-ne123 : goal.returns-then-byte-ne123
returns-then-byte-ne123 c = no_members_of c.args.s.now c.args.i c.byte.result (c.byte.ensures ∙ ap (byte_at c.args.s.now) c.start.ensures.0) c.if-byte-ne123.true

pub overflow_add-c : goal.overflow_add-c
overflow_add-c c = omega (arith, (index c.args.s.now c.args.tab.now c.requires.0 c.args.i c.requires.1).small)

pub loop-c-init : goal.loop-c-init
loop-c-init c = let o = sym (c.byte.ensures ∙ ap (byte_at c.args.s.now) c.start.ensures.0) ∙ c.if-byte-ne123.false in
    count_start c.args.s.now c.requires.0.answers c.args.i c.requires.1 o

pub name-requires : goal.name-requires
name-requires c = let z = c in
    let l = c.loop-c in
    let lt : l.c < end_at z.args.s.now z.args.i = omega (arith, c.end-e.ensures, c.loop-c-test.true) in
    let x = walk_child z.args.s.now z.args.i l.met l.c (count_walk z.args.s.now z.requires.0.answers z.args.i z.requires.1 l.met l.n l.c l.invariant) lt in
    (z.requires.0, x.within)

pub is_new-n-requires : goal.is_new-n-requires
is_new-n-requires c = let z = c in
    let x = index z.args.s.now z.args.tab.now z.requires.0 z.args.i z.requires.1 in
    (z.requires.0, z.requires.1, c.loop-c.invariant.within, omega (arith, c.name.ensures.1, x.text))

pub overflow_add-n : goal.overflow_add-n
overflow_add-n c = let z = c in
    let l = c.loop-c in
    let lt : l.c < end_at z.args.s.now z.args.i = omega (arith, c.end-e.ensures, c.loop-c-test.true) in
    let x = walk_child z.args.s.now z.args.i l.met l.c (count_walk z.args.s.now z.requires.0.answers z.args.i z.requires.1 l.met l.n l.c l.invariant) lt in
    omega (arith, l.invariant.few, x.behind, c.is_new-n.ensures, new_small z.args.s.now (saying z.args.s.now c.name.result) (take l.met (children z.args.s.now z.args.i)), (index z.args.s.now z.args.tab.now z.requires.0 l.c x.within).small)

pub end-c-requires : goal.end-c-requires
end-c-requires c = let z = c in
    let l = c.loop-c in
    let lt : l.c < end_at z.args.s.now z.args.i = omega (arith, c.end-e.ensures, c.loop-c-test.true) in
    let x = walk_child z.args.s.now z.args.i l.met l.c (count_walk z.args.s.now z.requires.0.answers z.args.i z.requires.1 l.met l.n l.c l.invariant) lt in
    (z.requires.0, x.within)

pub overflow_add-met : goal.overflow_add-met
overflow_add-met c = let z = c in
    let l = c.loop-c in
    let lt : l.c < end_at z.args.s.now z.args.i = omega (arith, c.end-e.ensures, c.loop-c-test.true) in
    let x = walk_child z.args.s.now z.args.i l.met l.c (count_walk z.args.s.now z.requires.0.answers z.args.i z.requires.1 l.met l.n l.c l.invariant) lt in
    omega (arith, x.behind, (index z.args.s.now z.args.tab.now z.requires.0 l.c x.within).small)

pub loop-c-smaller : goal.loop-c-smaller
loop-c-smaller c = let z = c in
    let l = c.loop-c in
    let lt : l.c < end_at z.args.s.now z.args.i = omega (arith, c.end-e.ensures, c.loop-c-test.true) in
    let x = walk_child z.args.s.now z.args.i l.met l.c (count_walk z.args.s.now z.requires.0.answers z.args.i z.requires.1 l.met l.n l.c l.invariant) lt in
    omega (arith, c.end-c.ensures, c.loop-c-test.true, (index z.args.s.now z.args.tab.now z.requires.0 l.c x.within).some)

pub loop-c-preserved : goal.loop-c-preserved
loop-c-preserved c = let z = c in
    let l = c.loop-c in
    let lt : l.c < end_at z.args.s.now z.args.i = omega (arith, c.end-e.ensures, c.loop-c-test.true) in
    let r = new_by z.args.s.now l.c c.name.result (take l.met (children z.args.s.now z.args.i)) c.is_new-n.result c.is_new-n.ensures c.name.ensures.0 in
    count_on z.args.s.now z.requires.0.answers z.args.i z.requires.1 l.met l.n l.c l.invariant c.is_new-n.result c.end-c.result lt r c.end-c.ensures

pub returns : goal.returns
returns c = let z = c in
    let l = c.loop-c in
    count_end z.args.s.now z.requires.0.answers z.args.i z.requires.1 l.met l.n l.c l.invariant (omega (arith, c.end-e.ensures, c.loop-c-test.false))
