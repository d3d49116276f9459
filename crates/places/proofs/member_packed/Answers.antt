use Prim.Native.Nat.{◌-◌, ◌<◌}
use Rattle.bits.specs.Packed.{bytes_at}
use Rattle.places.proofs.Fields.{index}
use Rattle.places.proofs.Walking.{walk_within, Seeking, seek_start, seek_on, seek_end, says_by}
use Rattle.places.specs.Children.{end_at}
use Rattle.places.specs.Kinds.{found}
use Rattle.rules.specs.Bits.{bits}
use borrow.Author.Rules.{rules}
use native.Mathlib.Omega.{arith}
use Rattle.places.proofs.member_packed.Goals as goal

pub overflow_add-c : goal.overflow_add-c
overflow_add-c c = let z = c in
    omega (arith, (index z.args.s.now z.args.tab.now z.requires.0 z.args.i z.requires.1).small)

pub loop-c-init : goal.loop-c-init
loop-c-init c = let z = c in
    seek_start z.args.s.now z.args.i z.requires.0.answers z.requires.1 _

pub name-n-requires : goal.name-n-requires
name-n-requires c = let z = c in
    let l = c.loop-c in
    let lt : l.c < end_at z.args.s.now z.args.i = omega (arith, c.end-e.ensures, c.loop-c-test.true) in
    (z.requires.0, walk_within z.args.s.now z.args.i l.invariant.number l.c l.invariant.walk lt)

pub says_headed-requires : goal.says_headed-requires
says_headed-requires c = let z = c in
    let x = index z.args.s.now z.args.tab.now z.requires.0 z.args.i z.requires.1 in
    (x.text, omega (arith, c.name-n.ensures.1, x.text), z.requires.2, c.field-head.ensures)

pub end-c-requires : goal.end-c-requires
end-c-requires c = let z = c in
    let l = c.loop-c in
    let lt : l.c < end_at z.args.s.now z.args.i = omega (arith, c.end-e.ensures, c.loop-c-test.true) in
    (z.requires.0, walk_within z.args.s.now z.args.i l.invariant.number l.c l.invariant.walk lt)

pub loop-c-smaller : goal.loop-c-smaller
loop-c-smaller c = let z = c in
    let l = c.loop-c in
    let lt : l.c < end_at z.args.s.now z.args.i = omega (arith, c.end-e.ensures, c.loop-c-test.true) in
    let w = walk_within z.args.s.now z.args.i l.invariant.number l.c l.invariant.walk lt in
    omega (arith, c.end-c.ensures, c.loop-c-test.true, (index z.args.s.now z.args.tab.now z.requires.0 l.c w).some)

pub loop-c-preserved : goal.loop-c-preserved
loop-c-preserved c = let z = c in
    let l = c.loop-c in
    let n = c.name-n in
    let y = c.says_headed in
    let lt : l.c < end_at z.args.s.now z.args.i = omega (arith, c.end-e.ensures, c.loop-c-test.true) in
    seek_on z.args.s.now z.args.i _ l.c (found l.best) l.invariant c.end-c.result y.result (found c.or-best.result) lt c.end-c.ensures
    (says_by z.args.s.now l.c n.result (bytes_at (bits z.args.w.now) z.args.p z.args.m) y.result y.ensures n.ensures.0)
    c.or-best.ensures

pub returns : goal.returns
returns c = let z = c in
    let l = c.loop-c in
    seek_end z.args.s.now z.args.i _ l.c (found l.best) l.invariant (omega (arith, c.end-e.ensures, c.loop-c-test.false))
