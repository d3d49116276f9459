use Rattle.places.proofs.Walking.{walk_within, Choosing, choose_start, choose_on, choose_end, in_pick}
use Rattle.places.specs.Children.{end_at}
use Rattle.places.specs.Kinds.{found, found_name, FoundIn}
use mathlib.Core.Path.{◌≡◌, ◌∙◌, refl}
use Prim.Native.Nat.{◌+◌, suc, ◌-◌, ◌≤◌, ◌<◌}
use Rattle.places.proofs.Fields.{index}
use native.Mathlib.Omega.{arith}
use borrow.Author.Rules.{rules}
use Rattle.places.proofs.next_member.Goals as goal

pub overflow_add-c : goal.overflow_add-c
overflow_add-c c = omega (arith, (index c.args.s.now c.args.tab.now c.requires.0 c.args.i c.requires.1).small)

pub loop-c-init : goal.loop-c-init
loop-c-init c = (choose_start c.args.s.now c.args.i c.requires.0.answers c.requires.1 _, tt)

pub is_better-requires : goal.is_better-requires
is_better-requires c = let lt : c.loop-c.c < end_at c.args.s.now c.args.i = omega (arith, c.end-e.ensures, c.loop-c-test.true) in
    (c.requires.0, c.requires.2, c.loop-c.invariant.1, walk_within c.args.s.now c.args.i c.loop-c.invariant.0.number c.loop-c.c c.loop-c.invariant.0.walk lt)

pub end-c-requires : goal.end-c-requires
end-c-requires c = let lt : c.loop-c.c < end_at c.args.s.now c.args.i = omega (arith, c.end-e.ensures, c.loop-c-test.true) in
    (c.requires.0, walk_within c.args.s.now c.args.i c.loop-c.invariant.0.number c.loop-c.c c.loop-c.invariant.0.walk lt)

pub loop-c-smaller : goal.loop-c-smaller
loop-c-smaller c = let lt : c.loop-c.c < end_at c.args.s.now c.args.i = omega (arith, c.end-e.ensures, c.loop-c-test.true) in
    let w = walk_within c.args.s.now c.args.i c.loop-c.invariant.0.number c.loop-c.c c.loop-c.invariant.0.walk lt in
    omega (arith, c.end-c.ensures, c.loop-c-test.true, (index c.args.s.now c.args.tab.now c.requires.0 c.loop-c.c w).some)

pub loop-c-preserved : goal.loop-c-preserved
loop-c-preserved c = let lt : c.loop-c.c < end_at c.args.s.now c.args.i = omega (arith, c.end-e.ensures, c.loop-c-test.true) in
    let w = walk_within c.args.s.now c.args.i c.loop-c.invariant.0.number c.loop-c.c c.loop-c.invariant.0.walk lt in (
      choose_on c.args.s.now c.args.i _ c.loop-c.c (found c.loop-c.best) c.loop-c.invariant.0 c.end-c.result c.is_better.result (found c.or-best.result) lt c.end-c.ensures c.is_better.ensures c.or-best.ensures,
      in_pick c.args.s.now c.or-best.result c.loop-c.best c.is_better.result c.loop-c.c c.or-best.ensures w c.loop-c.invariant.1,
    )

pub returns : goal.returns
returns c = choose_end c.args.s.now c.args.i _ c.loop-c.c (found c.loop-c.best) c.loop-c.invariant.0 (omega (arith, c.end-e.ensures, c.loop-c-test.false))
