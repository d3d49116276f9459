use Rattle.places.proofs.Walking.{walk_within, count_end, count_more}
use Rattle.places.specs.Children.{end_at, Walk, walk_start, walk_on, walk_child}
use Rattle.places.specs.Places.{children}
use lib.ListN.{length}
use native.Mathlib.Numerals.{add-one}
use mathlib.Core.Path.{◌≡◌, subst, sym}
use Prim.Native.Nat.{◌+◌, suc, ◌-◌, ◌≤◌, ◌<◌}
use Rattle.places.proofs.Fields.{index}
use native.Mathlib.Omega.{arith}
use borrow.Author.Rules.{rules}
use Rattle.places.proofs.len.Goals as goal

pub overflow_add-c : goal.overflow_add-c
overflow_add-c c = omega (arith, (index c.args.s.now c.args.tab.now c.requires.0 c.args.i c.requires.1).small)

pub loop-c-init : goal.loop-c-init
loop-c-init c = (walk_start c.args.s.now c.args.i c.requires.0.answers c.requires.1, omega arith)

pub end-c-requires : goal.end-c-requires
end-c-requires c = let lt : c.loop-c.c < end_at c.args.s.now c.args.i = omega (arith, c.end-e.ensures, c.loop-c-test.true) in
    (c.requires.0, walk_within c.args.s.now c.args.i c.loop-c.met c.loop-c.c c.loop-c.invariant.0 lt)

pub overflow_add-met : goal.overflow_add-met
overflow_add-met c = let lt : c.loop-c.c < end_at c.args.s.now c.args.i = omega (arith, c.end-e.ensures, c.loop-c-test.true) in
    let w = walk_child c.args.s.now c.args.i c.loop-c.met c.loop-c.c c.loop-c.invariant.0 lt in
    omega (arith, w.behind, (index c.args.s.now c.args.tab.now c.requires.0 c.loop-c.c w.within).small)

pub loop-c-smaller : goal.loop-c-smaller
loop-c-smaller c = let lt : c.loop-c.c < end_at c.args.s.now c.args.i = omega (arith, c.end-e.ensures, c.loop-c-test.true) in
    let w = walk_within c.args.s.now c.args.i c.loop-c.met c.loop-c.c c.loop-c.invariant.0 lt in
    omega (arith, c.end-c.ensures, c.loop-c-test.true, (index c.args.s.now c.args.tab.now c.requires.0 c.loop-c.c w).some)

pub loop-c-preserved : goal.loop-c-preserved
loop-c-preserved c = let lt : c.loop-c.c < end_at c.args.s.now c.args.i = omega (arith, c.end-e.ensures, c.loop-c-test.true) in
    let m = count_more c.args.s.now c.args.i c.loop-c.met c.loop-c.c c.loop-c.invariant.0 c.loop-c.invariant.1 lt in
    (rw (add-one c.loop-c.met, c.end-c.ensures) (walk_on c.args.s.now c.args.i c.loop-c.met c.loop-c.c c.loop-c.invariant.0 lt), omega arith)

pub returns : goal.returns
returns c = count_end c.args.s.now c.args.i c.loop-c.met c.loop-c.c c.loop-c.invariant.0 c.loop-c.invariant.1 (omega (arith, c.end-e.ensures, c.loop-c-test.false))
