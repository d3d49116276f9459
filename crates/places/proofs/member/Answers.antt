use Rattle.places.proofs.Walking.{walk_within, Seeking, seek_start, seek_on, seek_end, says_by}
use Rattle.places.specs.Children.{end_at}
use Rattle.places.specs.Kinds.{found}
use Rattle.saying.specs.Compared.{name_bytes}
use mathlib.Core.Option.{none}
use mathlib.Core.Path.{◌≡◌, ◌∙◌, refl}
use Prim.Native.Nat.{◌+◌, suc, ◌-◌, ◌≤◌, ◌<◌}
use Rattle.places.proofs.Fields.{index}
use native.Mathlib.Omega.{arith}
use borrow.Author.Rules.{rules}
use Rattle.places.proofs.member.Goals as goal

pub overflow_add-c : goal.overflow_add-c
overflow_add-c c = omega (arith, (index c.args.s.now c.args.tab.now c.requires.0 c.args.i c.requires.1).small)

pub loop-c-init : goal.loop-c-init
loop-c-init c = seek_start c.args.s.now c.args.i c.requires.0.answers c.requires.1 _

pub name-n-requires : goal.name-n-requires
name-n-requires c = let lt : c.loop-c.c < end_at c.args.s.now c.args.i = omega (arith, c.end-e.ensures, c.loop-c-test.true) in
    (c.requires.0, walk_within c.args.s.now c.args.i c.loop-c.invariant.number c.loop-c.c c.loop-c.invariant.walk lt)

pub says-requires : goal.says-requires
says-requires c = let x = index c.args.s.now c.args.tab.now c.requires.0 c.args.i c.requires.1 in
    (x.text, omega (arith, c.name-n.ensures.1, x.text), c.requires.2)

pub end-c-requires : goal.end-c-requires
end-c-requires c = let lt : c.loop-c.c < end_at c.args.s.now c.args.i = omega (arith, c.end-e.ensures, c.loop-c-test.true) in
    (c.requires.0, walk_within c.args.s.now c.args.i c.loop-c.invariant.number c.loop-c.c c.loop-c.invariant.walk lt)

pub loop-c-smaller : goal.loop-c-smaller
loop-c-smaller c = let lt : c.loop-c.c < end_at c.args.s.now c.args.i = omega (arith, c.end-e.ensures, c.loop-c-test.true) in
    let w = walk_within c.args.s.now c.args.i c.loop-c.invariant.number c.loop-c.c c.loop-c.invariant.walk lt in
    omega (arith, c.end-c.ensures, c.loop-c-test.true, (index c.args.s.now c.args.tab.now c.requires.0 c.loop-c.c w).some)

pub loop-c-preserved : goal.loop-c-preserved
loop-c-preserved c = let lt : c.loop-c.c < end_at c.args.s.now c.args.i = omega (arith, c.end-e.ensures, c.loop-c-test.true) in
    let b = says_by c.args.s.now c.loop-c.c c.name-n.result (name_bytes c.args.s.now c.args.w.now c.args.named) c.says.result c.says.ensures c.name-n.ensures.0 in
    seek_on c.args.s.now c.args.i _ c.loop-c.c (found c.loop-c.best) c.loop-c.invariant c.end-c.result c.says.result (found c.or-best.result) lt c.end-c.ensures b c.or-best.ensures

pub returns : goal.returns
returns c = seek_end c.args.s.now c.args.i _ c.loop-c.c (found c.loop-c.best) c.loop-c.invariant (omega (arith, c.end-e.ensures, c.loop-c-test.false))
