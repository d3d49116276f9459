use Rattle.places.proofs.Counting.{meet_start, meet_end, meet_in, meet_found, meet_on}
use Rattle.places.proofs.Fields.{index}
use Rattle.places.proofs.Walking.{walk_within, says_by}
use Rattle.rules.specs.Scan.{saying}
use mathlib.Core.Path.{◌∙◌, sym}
use native.Mathlib.Omega.{arith}
use Rattle.places.proofs.is_new.Goals as goal

pub overflow_add-c : goal.overflow_add-c
overflow_add-c c = omega (arith, (index c.args.s.now c.args.tab.now c.requires.0 c.args.i c.requires.1).small)

pub loop-init : goal.loop-init
loop-init c = meet_start c.args.s.now c.args.i c.requires.0.answers c.requires.1 (saying c.args.s.now c.args.q) c.args.n

pub name-requires : goal.name-requires
name-requires c = let z = c in
    let l = c.loop in
    let lt = meet_in z.args.s.now z.args.i (saying z.args.s.now z.args.q) z.args.n l.c l.counter l.invariant c.loop-test.true z.requires.2 in
    (z.requires.0, walk_within z.args.s.now z.args.i l.counter l.c l.invariant.walk lt)

pub is_same-requires : goal.is_same-requires
is_same-requires c = let z = c in
    let x = index z.args.s.now z.args.tab.now z.requires.0 z.args.i z.requires.1 in
    (x.text, omega (arith, c.name.ensures.1, x.text), z.requires.3)

pub returns-then-is_same : goal.returns-then-is_same
returns-then-is_same c = let z = c in
    let l = c.loop in
    let w = saying z.args.s.now z.args.q in
    let e = sym c.if-is_same.true ∙ says_by z.args.s.now l.c c.name.result w c.is_same.result c.is_same.ensures c.name.ensures.0 in
    meet_found z.args.s.now z.args.i w z.args.n l.c l.counter l.invariant c.loop-test.true z.requires.2 e

pub end-c-requires : goal.end-c-requires
end-c-requires c = let z = c in
    let l = c.loop in
    let lt = meet_in z.args.s.now z.args.i (saying z.args.s.now z.args.q) z.args.n l.c l.counter l.invariant c.loop-test.true z.requires.2 in
    (z.requires.0, walk_within z.args.s.now z.args.i l.counter l.c l.invariant.walk lt)

pub loop-preserved : goal.loop-preserved
loop-preserved c = let z = c in
    let l = c.loop in
    let w = saying z.args.s.now z.args.q in
    let e = sym c.if-is_same.false ∙ says_by z.args.s.now l.c c.name.result w c.is_same.result c.is_same.ensures c.name.ensures.0 in
    meet_on z.args.s.now z.args.i w z.args.n l.c l.counter l.invariant c.loop-test.true z.requires.2 c.end-c.result c.end-c.ensures e

pub returns : goal.returns
returns c = let z = c in
    let l = c.loop in
    meet_end z.args.s.now z.args.i (saying z.args.s.now z.args.q) z.args.n l.c l.counter l.invariant c.loop-test.false
