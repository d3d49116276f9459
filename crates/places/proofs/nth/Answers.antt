use Rattle.places.proofs.Walking.{walk_within, Passing, pass_found, pass_on, pass_none}
use Rattle.places.specs.Children.{end_at, walk_start}
use mathlib.Core.Path.{◌≡◌}
use Prim.Native.Nat.{◌-◌, ◌≤◌, ◌<◌}
use Rattle.places.proofs.Fields.{index}
use native.Mathlib.Omega.{arith}
use borrow.Author.Rules.{rules}
use Rattle.places.proofs.nth.Goals as goal

pub overflow_add-c : goal.overflow_add-c
overflow_add-c c = omega (arith, (index c.args.s.now c.args.tab.now c.requires.0 c.args.i c.requires.1).small)

pub loop-c-init : goal.loop-c-init
loop-c-init c = record { number = 0; walk = walk_start c.args.s.now c.args.i c.requires.0.answers c.requires.1; sum = omega arith }

pub returns-then-left-eq0 : goal.returns-then-left-eq0
returns-then-left-eq0 c = let lt : c.loop-c.c < end_at c.args.s.now c.args.i = omega (arith, c.end-e.ensures, c.loop-c-test.true) in
    pass_found c.args.s.now c.args.i c.args.k c.loop-c.left c.loop-c.c c.loop-c.invariant lt c.if-left-eq0.true

pub end-c-requires : goal.end-c-requires
end-c-requires c = let lt : c.loop-c.c < end_at c.args.s.now c.args.i = omega (arith, c.end-e.ensures, c.loop-c-test.true) in
    (c.requires.0, walk_within c.args.s.now c.args.i c.loop-c.invariant.number c.loop-c.c c.loop-c.invariant.walk lt)

pub overflow_sub-left : goal.overflow_sub-left
overflow_sub-left c = omega (arith, c.if-left-eq0.false)

pub loop-c-smaller : goal.loop-c-smaller
loop-c-smaller c = let lt : c.loop-c.c < end_at c.args.s.now c.args.i = omega (arith, c.end-e.ensures, c.loop-c-test.true) in
    let w = walk_within c.args.s.now c.args.i c.loop-c.invariant.number c.loop-c.c c.loop-c.invariant.walk lt in
    omega (arith, c.end-c.ensures, c.loop-c-test.true, (index c.args.s.now c.args.tab.now c.requires.0 c.loop-c.c w).some)

pub loop-c-preserved : goal.loop-c-preserved
loop-c-preserved c = let lt : c.loop-c.c < end_at c.args.s.now c.args.i = omega (arith, c.end-e.ensures, c.loop-c-test.true) in
    pass_on c.args.s.now c.args.i c.args.k c.loop-c.left c.loop-c.c c.loop-c.invariant c.end-c.result lt c.if-left-eq0.false c.end-c.ensures

pub returns : goal.returns
returns c = pass_none c.args.s.now c.args.i c.args.k c.loop-c.left c.loop-c.c c.loop-c.invariant (omega (arith, c.end-e.ensures, c.loop-c-test.false))
