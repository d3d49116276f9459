use mathlib.Core.Path.{◌≡◌, refl, sym, ap, ◌∙◌, subst}
use native.Mathlib.Omega.{arith}
use Rattle.rules.specs.Bits.{bits}
use Rattle.parts.specs.Says.{SegmentStands, segment_stands}
use Rattle.parts.specs.declared.Segment.{Segment}
use Rattle.parts.specs.Says.{segment_at, segment_says}
use Rattle.meaning.specs.Standing.{plain}
use Rattle.value.specs.declared.Value.TheVariants.{Context}
use Rattle.places.specs.Children.{inner}
use Rattle.rules.specs.Error.{got}
use Rattle.context.proofs.Walking.{first_holds}
use Rattle.context.proofs.Climbing.{alone_named, alone_other, alone_root, alone_place}
use borrow.Enum.Refused.{opened}
use Rattle.context.proofs.alone.Goals as goal

pub segment_at-segment-requires : goal.segment_at-segment-requires
segment_at-segment-requires c = (c.requires.1, first_holds (bits c.args.b.now) c.args.p c.args.n (omega arith) c.requires.4)

pub returns-in_default : goal.returns-in_default
returns-in_default c = let s = c.args.s.now in
    let tab = c.args.tab.now in
    let b = c.args.b.now in
    let ent = c.args.ent.now in
    let i = c.args.i in
    let p = c.args.p in
    let n = c.args.n in
    let H = first_holds (bits b) p n (omega arith) c.requires.4 in
    absurd (alone_other s b ent tab c.requires.0 i p n (omega arith) c.requires.4 (c.requires.5 (omega arith)) c.segment_at-segment.result (subst (λ (v : Segment). segment_at (bits b) p ≡ segment_says (bits b) v) (sym c.segment_at-segment.ensures) (segment_stands (bits b) p H).is) (opened c.in_default.in_default-own.keys2))

pub climb-requires : goal.climb-requires
climb-requires c = let b = c.args.b.now in
    let p = c.args.p in
    let n = c.args.n in
    let H = first_holds (bits b) p n (omega arith) c.requires.4 in
    let x = subst (SegmentStands (bits b) p) (sym c.segment_at-segment.ensures ∙ c.in-Named.is) (segment_stands (bits b) p (H)) in
    (c.requires.0, c.requires.1, c.requires.2, c.requires.3, x.parts)

pub returns-then-n-gt0 : goal.returns-then-n-gt0
returns-then-n-gt0 c = let s = c.args.s.now in
    let tab = c.args.tab.now in
    let b = c.args.b.now in
    let ent = c.args.ent.now in
    let i = c.args.i in
    let p = c.args.p in
    let n = c.args.n in
    let H = first_holds (bits b) p n (omega arith) c.requires.4 in
    let e = subst (λ (v : Segment). segment_at (bits b) p ≡ segment_says (bits b) v) (sym c.segment_at-segment.ensures) (segment_stands (bits b) p H).is in
    (alone_named s b ent tab c.requires.0 i p n (omega arith) c.requires.4 (c.requires.5 (omega arith)) c.segment_at-segment.result e c.in-Named.q c.in-Named.field-1 c.in-Named.is ∙ ap got c.climb.ensures.0, c.climb.ensures.1)

pub returns-then-i-eq0 : goal.returns-then-i-eq0
returns-then-i-eq0 c = let s = c.args.s.now in
    let tab = c.args.tab.now in
    let b = c.args.b.now in
    let ent = c.args.ent.now in
    let i = c.args.i in
    let p = c.args.p in
    let n = c.args.n in
    (alone_root s b ent tab c.requires.0 i p n (omega arith) (omega arith), λ t. plain refl tt)

pub returns : goal.returns
returns c = let s = c.args.s.now in
    let tab = c.args.tab.now in
    let b = c.args.b.now in
    let ent = c.args.ent.now in
    let i = c.args.i in
    let p = c.args.p in
    let n = c.args.n in
    let u = inner s c.requires.0.answers i (omega arith) c.requires.2 in
    (alone_place s b ent tab c.requires.0 i p n (omega arith) u.up u.number c.requires.2 c.requires.3 u.child, λ t. plain {v = Context i} refl (c.requires.2, c.requires.3))
