use Rattle.places.proofs.Walking.{Rising, rise_start, rise_child, rise_on, rise_up}
use Rattle.places.specs.Children.{child_around}
use lib.Dec.{ltb}
use mathlib.Core.Path.{◌≡◌, ◌∙◌, refl}
use Prim.Native.Nat.{◌+◌, suc, ◌-◌, ◌≤◌, ◌<◌}
use Rattle.places.proofs.Fields.{index}
use native.Mathlib.Omega.{arith}
use borrow.Author.Rules.{rules}
use Rattle.places.proofs.parent.Goals as goal

pub loop-d-init : goal.loop-d-init
loop-d-init c = rise_start c.args.s.now c.args.c c.requires.0.answers c.requires.1 c.requires.2

pub end-n-requires : goal.end-n-requires
end-n-requires c = (c.requires.0, (rise_child c.args.s.now c.requires.0.answers c.args.c c.loop-d.i c.loop-d.d c.loop-d.invariant).within)

pub overflow_add-d : goal.overflow_add-d
overflow_add-d c = omega (arith, c.loop-d.invariant.low, (index c.args.s.now c.args.tab.now c.requires.0 c.args.c c.requires.2).small)

pub loop-d-smaller : goal.loop-d-smaller
loop-d-smaller c = let u = rise_up c.args.s.now c.requires.0.answers c.args.c c.loop-d.i c.loop-d.d c.loop-d.invariant c.end-n.result c.choose-d.result (ltb c.args.c c.end-n.result) refl c.end-n.ensures c.choose-d.ensures in
    let n = c.loop-d-test.true in
    omega (arith, u, n, c.loop-d.invariant.low)

pub loop-d-preserved : goal.loop-d-preserved
loop-d-preserved c = rise_on c.args.s.now c.requires.0.answers c.args.c c.loop-d.i c.loop-d.d c.loop-d.invariant c.end-n.result c.choose-i.result c.choose-d.result (ltb c.args.c c.end-n.result) refl c.end-n.ensures c.choose-i.ensures c.choose-d.ensures c.loop-d-test.true

pub returns : goal.returns
returns c = let q = rw c.loop-d-test.false at (rise_child c.args.s.now c.requires.0.answers c.args.c c.loop-d.i c.loop-d.d c.loop-d.invariant) in
    child_around c.args.s.now c.loop-d.i c.loop-d.invariant.number c.args.c q
