use Rattle.members.proofs.Nearing.{has_keyed}
use Rattle.members.proofs.Stepping.{Inwards, inwards_start, inwards_plain, inwards_end, inwards_merged, inwards_room, inwards_less, inwards_on}
use Rattle.members.specs.Next.{after_name, PlainItem, PairItem, ItemHeld}
use Rattle.lookup.proofs.Told.{no_merged}
use Rattle.meaning.specs.Meaning.{rank}
use Rattle.value.specs.Numbers.{decoded}
use native.Mathlib.Omega.{arith}
use mathlib.Core.Path.{◌∙◌, ap}
use borrow.Author.Rules.{rules}
use borrow.Enum.Refused.{opened}
use Rattle.members.proofs.next_member.Goals as goal

pub loop-u-init : goal.loop-u-init
loop-u-init c = let a = c.args in
    inwards_start a.s.now a.b.now a.ent.now a.v (after_name a.s.now a.b.now a.after) c.requires.2

pub plain_next-requires : goal.plain_next-requires
plain_next-requires c = let a = c.args in
    let p = c.requires in
    let l = c.loop-u in
    let o = after_name a.s.now a.b.now a.after in
    (p.0, p.1, inwards_plain a.s.now a.b.now a.ent.now a.v o l.best l.u l.invariant (no_merged l.u (opened c.in_default.in_default-own.keys2)), p.3)

pub combine-requires : goal.combine-requires
combine-requires c = let a = c.args in
    let p = c.requires in
    let l = c.loop-u in
    (p.0, p.1, has_keyed a.s.now a.b.now (ItemHeld a.s.now a.b.now a.ent.now a.v) l.best l.invariant.holds, has_keyed a.s.now a.b.now (PlainItem a.s.now a.b.now) c.plain_next.result c.plain_next.ensures.holds)

pub returns : goal.returns
returns c = let a = c.args in
    let l = c.loop-u in
    let o = after_name a.s.now a.b.now a.after in
    inwards_end a.s.now a.b.now a.ent.now a.v o l.best l.u l.invariant (no_merged l.u (opened c.in_default.in_default-own.keys2)) c.plain_next.result c.plain_next.ensures c.combine.result c.combine.ensures

pub least_pair-requires : goal.least_pair-requires
least_pair-requires c = let a = c.args in
    let l = c.loop-u in
    let o = after_name a.s.now a.b.now a.after in
    (c.requires.0, c.requires.1, inwards_room a.s.now a.b.now a.ent.now a.v o l.best l.u l.invariant c.in-Merged.h c.in-Merged.n c.in-Merged.is, (inwards_merged a.s.now a.b.now a.ent.now a.v o l.best l.u l.invariant c.in-Merged.h c.in-Merged.n c.in-Merged.is).keys, c.requires.3)

pub combine-best-requires : goal.combine-best-requires
combine-best-requires c = let a = c.args in
    let p = c.requires in
    let l = c.loop-u in
    (p.0, p.1, has_keyed a.s.now a.b.now (ItemHeld a.s.now a.b.now a.ent.now a.v) l.best l.invariant.holds, has_keyed a.s.now a.b.now (PairItem a.ent.now c.in-Merged.h c.in-Merged.n) c.least_pair.result c.least_pair.ensures.1)

pub high-requires : goal.high-requires
high-requires c = let a = c.args in
    let l = c.loop-u in
    let o = after_name a.s.now a.b.now a.after in
    let m = inwards_merged a.s.now a.b.now a.ent.now a.v o l.best l.u l.invariant c.in-Merged.h c.in-Merged.n c.in-Merged.is in
    let r = inwards_room a.s.now a.b.now a.ent.now a.v o l.best l.u l.invariant c.in-Merged.h c.in-Merged.n c.in-Merged.is in
    omega (arith, m.keys.some)

pub loop-u-smaller : goal.loop-u-smaller
loop-u-smaller c = let a = c.args in
    let l = c.loop-u in
    let o = after_name a.s.now a.b.now a.after in
    inwards_less a.s.now a.b.now a.ent.now a.v o l.best l.u l.invariant c.in-Merged.h c.in-Merged.n c.in-Merged.is c.decode-u.result (c.decode-u.ensures ∙ ap decoded c.high.ensures)

pub loop-u-preserved : goal.loop-u-preserved
loop-u-preserved c = let a = c.args in
    let l = c.loop-u in
    let o = after_name a.s.now a.b.now a.after in
    inwards_on a.s.now a.b.now a.ent.now a.v o l.best l.u l.invariant c.in-Merged.h c.in-Merged.n c.in-Merged.is c.decode-u.result (c.decode-u.ensures ∙ ap decoded c.high.ensures) c.least_pair.result c.least_pair.ensures.0 c.least_pair.ensures.1 c.combine-best.result c.combine-best.ensures
