use Rattle.members.proofs.Counting.{Counted, counted_start, counted_plain, counted_end, counted_merged, counted_room, counted_held, counted_less, counted_on}
use Rattle.lookup.proofs.Told.{no_merged}
use Rattle.meaning.specs.Meaning.{rank}
use Rattle.places.specs.Accepted.{Accepted}
use Rattle.value.specs.Numbers.{decoded}
use native.Mathlib.Omega.{arith}
use mathlib.Core.Path.{◌∙◌, ap}
use borrow.Author.Rules.{rules}
use borrow.Enum.Refused.{opened}
use Rattle.members.proofs.member_count.Goals as goal

pub loop-u-init : goal.loop-u-init
loop-u-init c = λ a. counted_start c.args.s.now c.args.b.now c.args.tab.now a c.args.ent.now c.args.v c.requires.2

pub plain_count-requires : goal.plain_count-requires
plain_count-requires c = (c.requires.0, c.requires.1, counted_plain c.args.s.now c.args.b.now c.args.tab.now c.requires.0 c.args.ent.now c.args.v c.loop-u.n c.loop-u.u (c.loop-u.invariant c.requires.0) (no_merged c.loop-u.u (opened c.in_default.in_default-own.keys2)))

pub overflow_add-result : goal.overflow_add-result
overflow_add-result c = let w = c.loop-u.invariant c.requires.0 in omega (arith, w.few, c.plain_count.ensures.1)

pub returns : goal.returns
returns c = counted_end c.args.s.now c.args.b.now c.args.tab.now c.requires.0 c.args.ent.now c.args.v c.loop-u.n c.loop-u.u (c.loop-u.invariant c.requires.0) (no_merged c.loop-u.u (opened c.in_default.in_default-own.keys2)) c.plain_count.result c.plain_count.ensures.0 c.plain_count.ensures.1

pub high-requires : goal.high-requires
high-requires c = let r = counted_room c.args.s.now c.args.b.now c.args.tab.now c.requires.0 c.args.ent.now c.args.v c.loop-u.n c.loop-u.u (c.loop-u.invariant c.requires.0) c.in-Merged.h c.in-Merged.m c.in-Merged.is in
    let m = counted_merged c.args.s.now c.args.b.now c.args.tab.now c.requires.0 c.args.ent.now c.args.v c.loop-u.n c.loop-u.u (c.loop-u.invariant c.requires.0) c.in-Merged.h c.in-Merged.m c.in-Merged.is in
    omega (arith, m.keys.some)

pub lacking-n-requires : goal.lacking-n-requires
lacking-n-requires c = let r = counted_room c.args.s.now c.args.b.now c.args.tab.now c.requires.0 c.args.ent.now c.args.v c.loop-u.n c.loop-u.u (c.loop-u.invariant c.requires.0) c.in-Merged.h c.in-Merged.m c.in-Merged.is in
    let m = counted_merged c.args.s.now c.args.b.now c.args.tab.now c.requires.0 c.args.ent.now c.args.v c.loop-u.n c.loop-u.u (c.loop-u.invariant c.requires.0) c.in-Merged.h c.in-Merged.m c.in-Merged.is in
    (c.requires.0, c.requires.1, counted_held c.args.s.now c.args.b.now c.args.tab.now c.requires.0 c.args.ent.now c.args.v c.loop-u.n c.loop-u.u (c.loop-u.invariant c.requires.0) c.in-Merged.h c.in-Merged.m c.in-Merged.is c.decode-u.result (c.decode-u.ensures ∙ ap decoded c.high.ensures), omega arith, m.keys)

pub overflow_add-n : goal.overflow_add-n
overflow_add-n c = let r = counted_room c.args.s.now c.args.b.now c.args.tab.now c.requires.0 c.args.ent.now c.args.v c.loop-u.n c.loop-u.u (c.loop-u.invariant c.requires.0) c.in-Merged.h c.in-Merged.m c.in-Merged.is in
    omega (arith, c.lacking-n.ensures.1)

pub loop-u-smaller : goal.loop-u-smaller
loop-u-smaller c = counted_less c.args.s.now c.args.b.now c.args.tab.now c.requires.0 c.args.ent.now c.args.v c.loop-u.n c.loop-u.u (c.loop-u.invariant c.requires.0) c.in-Merged.h c.in-Merged.m c.in-Merged.is c.decode-u.result (c.decode-u.ensures ∙ ap decoded c.high.ensures)

pub loop-u-preserved : goal.loop-u-preserved
loop-u-preserved c = λ a.
    counted_on c.args.s.now c.args.b.now c.args.tab.now a c.args.ent.now c.args.v c.loop-u.n c.loop-u.u (c.loop-u.invariant a) c.in-Merged.h c.in-Merged.m c.in-Merged.is c.decode-u.result (c.decode-u.ensures ∙ ap decoded c.high.ensures) c.lacking-n.result c.lacking-n.ensures.0 c.lacking-n.ensures.1
