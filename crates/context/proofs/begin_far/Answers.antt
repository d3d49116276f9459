use mathlib.Core.Bool.{true, false}
use mathlib.Core.Path.{◌≡◌, sym, ap, subst}
use native.Mathlib.Omega.{arith}
use Prim.Native.Nat.{ℕ}
use Rattle.rules.specs.Bundle.{seg}
use Rattle.parts.specs.HoldsLaws.{passed_first}
use Rattle.parts.specs.Says.{segment_read, SegmentStands}
use Rattle.value.specs.Numbers.{decoded}
use Rattle.context.specs.declared.Start.{Start}
use Rattle.context.specs.Start.{Based}
use Rattle.context.proofs.Starting.{peek_again, first_name, starts_end, starts_root, starts_named}
use Rattle.rules.specs.Bits.{bits}
use Rattle.context.proofs.begin_far.Goals as goal

pub segment_at-segment-requires : goal.segment_at-segment-requires
segment_at-segment-requires c = (c.requires.0, passed_first seg (bits c.args.b.now) _ _ _ _ c.loop-ups.invariant.passed (omega arith))

pub from_name-requires : goal.from_name-requires
from_name-requires c =
    let read : SegmentStands (bits c.args.b.now) c.loop-ups.at c.segment_at-segment.result = segment_read (bits c.args.b.now) c.loop-ups.at (passed_first seg (bits c.args.b.now) _ _ _ _ c.loop-ups.invariant.passed (omega arith)) c.segment_at-segment.result c.segment_at-segment.ensures in
    let z = c in
    let h = c.loop-ups in
    let x = subst (SegmentStands (bits z.args.b.now) h.at) c.in-Named.is (read) in
    (z.requires.0, z.requires.1, z.requires.2, z.requires.3, first_name (bits z.args.b.now) z.args.p z.args.n h.ups h.at h.invariant (omega arith) c.in-Named.q c.in-Named.next x, z.requires.5)

pub returns-in-Named : goal.returns-in-Named
returns-in-Named c =
    let read : SegmentStands (bits c.args.b.now) c.loop-ups.at c.segment_at-segment.result = segment_read (bits c.args.b.now) c.loop-ups.at (passed_first seg (bits c.args.b.now) _ _ _ _ c.loop-ups.invariant.passed (omega arith)) c.segment_at-segment.result c.segment_at-segment.ensures in
    let a = c.args in
    let h = c.loop-ups in
    let x = subst (SegmentStands (bits a.b.now) h.at) c.in-Named.is (read) in
    starts_named a.b.now a.ent.now a.scopes a.used a.p a.n h.ups h.at h.invariant c.from_name.result (omega arith) c.in-Named.q c.in-Named.next x c.from_name.ensures

pub returns-in-Root : goal.returns-in-Root
returns-in-Root c =
    let read : SegmentStands (bits c.args.b.now) c.loop-ups.at c.segment_at-segment.result = segment_read (bits c.args.b.now) c.loop-ups.at (passed_first seg (bits c.args.b.now) _ _ _ _ c.loop-ups.invariant.passed (omega arith)) c.segment_at-segment.result c.segment_at-segment.ensures in
    let a = c.args in
    let h = c.loop-ups in
    let x = subst (SegmentStands (bits a.b.now) h.at) c.in-Root.is (read) in
    let e = c.start_at.ensures in
    starts_root a.b.now a.ent.now a.scopes a.used a.p a.n h.ups h.at h.invariant c.start_at.result (omega arith) c.in-Root.next x
    (ap (λ (y : Start). y.place) e) (ap (λ (y : Start). y.left) e)
    (subst (λ (v : ℕ). Based a.scopes a.used h.ups true (decoded v)) (sym (ap (λ (y : Start). y.value) e)) c.without_block_param.ensures)

pub loop-ups-preserved : goal.loop-ups-preserved
loop-ups-preserved c =
    let read : SegmentStands (bits c.args.b.now) c.loop-ups.at c.segment_at-segment.result = segment_read (bits c.args.b.now) c.loop-ups.at (passed_first seg (bits c.args.b.now) _ _ _ _ c.loop-ups.invariant.passed (omega arith)) c.segment_at-segment.result c.segment_at-segment.ensures in
    let a = c.args in
    let h = c.loop-ups in
    let x = subst (SegmentStands (bits a.b.now) h.at) c.in-Up.is (read) in
    peek_again (bits a.b.now) a.p a.n h.ups h.at h.invariant c.in-Up.next (omega arith) x.is x.next

pub returns : goal.returns
returns c = let a = c.args in
    let h = c.loop-ups in
    let e = c.start_at-2.ensures in
    let all : a.n ≡ h.ups = omega arith in
    starts_end a.b.now a.ent.now a.scopes a.used a.p a.n h.ups h.at h.invariant c.start_at-2.result (omega arith)
    (ap (λ (y : Start). y.place) e) (ap (λ (y : Start). y.left) e)
    (subst (λ (v : ℕ). Based a.scopes a.used h.ups false (decoded v)) (sym (ap (λ (y : Start). y.value) e))
    (subst (λ (k : ℕ). Based a.scopes a.used k false (decoded c.without_block_param-2.result)) all c.without_block_param-2.ensures))
