use mathlib.Core.Path.{◌≡◌, sym, ap, ◌∙◌, subst}
use native.Mathlib.Omega.{arith}
use Rattle.rules.specs.Bits.{bits}
use Rattle.parts.specs.Says.{SegmentStands, segment_stands}
use Rattle.rules.specs.Bundle.{seg}
use Rattle.rules.specs.Context.{is_lone_name}
use Rattle.parts.specs.declared.Segment.TheVariants.{Named, Root, Up}
use Rattle.parts.specs.HoldsLaws.{row_length}
use Rattle.parts.specs.Says.{segments_at}
use Rattle.context.proofs.Walking.{first_holds}
use Rattle.context.proofs.Starting.{not_lone, lone_is}
use Rattle.context.proofs.is_lone_name.Goals as goal

pub returns-then-n-ne1 : goal.returns-then-n-ne1
returns-then-n-ne1 c = let b = c.args.b.now in
    let p = c.args.p in
    let n = c.args.n in
    not_lone (segments_at n (bits b) p) (λ e. let f : n ≡ 1 = sym (row_length seg n (bits b) p c.requires.1) ∙ e in omega arith)

pub segment_at-segment-requires : goal.segment_at-segment-requires
segment_at-segment-requires c = (c.requires.0, first_holds (bits c.args.b.now) c.args.p c.args.n (omega arith) c.requires.1)

pub returns-in-Named : goal.returns-in-Named
returns-in-Named c = let b = c.args.b.now in
    let p = c.args.p in
    let n = c.args.n in
    let H = first_holds (bits b) p n (omega arith) c.requires.1 in
    let x = subst (SegmentStands (bits b) p) (sym c.segment_at-segment.ensures ∙ c.in-Named.is) (segment_stands (bits b) p (H)) in
    sym (ap is_lone_name (lone_is (bits b) p n (omega arith) c.requires.1 (Named c.in-Named.field-0 c.in-Named.field-1) x.is))

pub returns-in-Root : goal.returns-in-Root
returns-in-Root c = let b = c.args.b.now in
    let p = c.args.p in
    let n = c.args.n in
    let H = first_holds (bits b) p n (omega arith) c.requires.1 in
    let x = subst (SegmentStands (bits b) p) (sym c.segment_at-segment.ensures ∙ c.in-Root.is) (segment_stands (bits b) p (H)) in
    sym (ap is_lone_name (lone_is (bits b) p n (omega arith) c.requires.1 (Root c.in-Root.field-0) x.is))

pub returns-in-Up : goal.returns-in-Up
returns-in-Up c = let b = c.args.b.now in
    let p = c.args.p in
    let n = c.args.n in
    let H = first_holds (bits b) p n (omega arith) c.requires.1 in
    let x = subst (SegmentStands (bits b) p) (sym c.segment_at-segment.ensures ∙ c.in-Up.is) (segment_stands (bits b) p (H)) in
    sym (ap is_lone_name (lone_is (bits b) p n (omega arith) c.requires.1 (Up c.in-Up.field-0) x.is))
