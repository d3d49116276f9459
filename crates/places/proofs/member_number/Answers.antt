use Prim.Native.Nat.{◌-◌, ◌<◌}
use Rattle.bits.specs.Packed.{bytes_at}
use Rattle.places.proofs.Fields.{index}
use Rattle.places.proofs.Walking.{walk_within, Seeking, seek_start, seek_on, seek_end, says_by, number_pick}
use Rattle.places.specs.Children.{end_at}
use Rattle.places.specs.Kinds.{numbered}
use Rattle.rules.specs.Bits.{bits}
use Rattle.rules.specs.BundleLaws.{bits_binary}
use Rattle.rules.specs.LayoutLaws.{field_lt}
use borrow.Author.Rules.{rules}
use native.Mathlib.Omega.{arith}
use Rattle.places.proofs.member_number.Goals as goal

pub short_word-v-requires : goal.short_word-v-requires
short_word-v-requires c = let a = c.args in omega (arith, c.field-x.ensures, field_lt (bits a.w.now) (bits_binary a.w.now) 56 a.p)

pub overflow_add-c : goal.overflow_add-c
overflow_add-c c = let z = c in
    omega (arith, (index z.args.s.now z.args.tab.now z.requires.0 z.args.i z.requires.1).small)

pub loop-c-init : goal.loop-c-init
loop-c-init c = let z = c in
    (seek_start z.args.s.now z.args.i z.requires.0.answers z.requires.1 _, omega arith)

pub name-n-requires : goal.name-n-requires
name-n-requires c = let z = c in
    let l = c.loop-c in
    let lt : l.c < end_at z.args.s.now z.args.i = omega (arith, c.end-e.ensures, c.loop-c-test.true) in
    (z.requires.0, walk_within z.args.s.now z.args.i l.invariant.0.number l.c l.invariant.0.walk lt)

pub says_short-requires : goal.says_short-requires
says_short-requires c = let z = c in
    let x = index z.args.s.now z.args.tab.now z.requires.0 z.args.i z.requires.1 in
    (x.text, omega (arith, c.name-n.ensures.1, x.text), z.requires.2, c.field-x.ensures, c.short_word-v.ensures)

pub end-c-requires : goal.end-c-requires
end-c-requires c = let z = c in
    let l = c.loop-c in
    let lt : l.c < end_at z.args.s.now z.args.i = omega (arith, c.end-e.ensures, c.loop-c-test.true) in
    (z.requires.0, walk_within z.args.s.now z.args.i l.invariant.0.number l.c l.invariant.0.walk lt)

pub loop-c-smaller : goal.loop-c-smaller
loop-c-smaller c = let z = c in
    let l = c.loop-c in
    let lt : l.c < end_at z.args.s.now z.args.i = omega (arith, c.end-e.ensures, c.loop-c-test.true) in
    let w = walk_within z.args.s.now z.args.i l.invariant.0.number l.c l.invariant.0.walk lt in
    omega (arith, c.end-c.ensures, c.loop-c-test.true, (index z.args.s.now z.args.tab.now z.requires.0 l.c w).some)

pub loop-c-preserved : goal.loop-c-preserved
loop-c-preserved c = let z = c in
    let l = c.loop-c in
    let n = c.name-n in
    let y = c.says_short in
    let lt : l.c < end_at z.args.s.now z.args.i = omega (arith, c.end-e.ensures, c.loop-c-test.true) in
    let w = walk_within z.args.s.now z.args.i l.invariant.0.number l.c l.invariant.0.walk lt in (
      seek_on z.args.s.now z.args.i _ l.c (numbered l.best) l.invariant.0 c.end-c.result y.result (numbered c.choose-best.result) lt c.end-c.ensures
          (says_by z.args.s.now l.c n.result (bytes_at (bits z.args.w.now) z.args.p z.args.m) y.result y.ensures n.ensures.0)
          (number_pick y.result l.c l.best c.choose-best.result l.invariant.1 c.choose-best.ensures),
      omega (arith, c.end-c.ensures, (index z.args.s.now z.args.tab.now z.requires.0 l.c w).some),
    )

pub returns : goal.returns
returns c = let z = c in
    let l = c.loop-c in
    seek_end z.args.s.now z.args.i _ l.c (numbered l.best) l.invariant.0 (omega (arith, c.end-e.ensures, c.loop-c-test.false))
