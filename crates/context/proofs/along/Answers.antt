use mathlib.Core.Path.{sym, ◌∙◌, subst}
use Rattle.rules.specs.Bits.{bits}
use Rattle.parts.specs.Says.{SegmentStands, segment_stands}
use Rattle.context.proofs.Walking.{stepped_named, stepped_root, stepped_up}
use Rattle.context.proofs.along.Goals as goal

pub segment_at-segment-requires : goal.segment_at-segment-requires
segment_at-segment-requires c = (c.requires.1, c.requires.3)

pub named-requires : goal.named-requires
named-requires c = let b = c.args.b.now in
    let p = c.args.p in
    let x = subst (SegmentStands (bits b) p) (sym c.segment_at-segment.ensures ∙ c.in-Named.is) (segment_stands (bits b) p c.requires.3) in
    (c.requires.0, c.requires.1, c.requires.2, x.parts)

pub returns-in-Named : goal.returns-in-Named
returns-in-Named c = let s = c.args.s.now in
    let tab = c.args.tab.now in
    let b = c.args.b.now in
    let ent = c.args.ent.now in
    let v = c.args.v in
    let p = c.args.p in
    let x = subst (SegmentStands (bits b) p) (sym c.segment_at-segment.ensures ∙ c.in-Named.is) (segment_stands (bits b) p c.requires.3) in
    stepped_named s b ent tab c.requires.0 v c.requires.2 p c.in-Named.q c.in-Named.next c.named.result x.is x.next c.named.ensures

pub returns-in-Root : goal.returns-in-Root
returns-in-Root c = let s = c.args.s.now in
    let b = c.args.b.now in
    let ent = c.args.ent.now in
    let v = c.args.v in
    let p = c.args.p in
    let x = subst (SegmentStands (bits b) p) (sym c.segment_at-segment.ensures ∙ c.in-Root.is) (segment_stands (bits b) p c.requires.3) in
    stepped_root s b ent v p c.in-Root.next x.is x.next

pub returns-in-Up : goal.returns-in-Up
returns-in-Up c = let s = c.args.s.now in
    let b = c.args.b.now in
    let ent = c.args.ent.now in
    let v = c.args.v in
    let p = c.args.p in
    let x = subst (SegmentStands (bits b) p) (sym c.segment_at-segment.ensures ∙ c.in-Up.is) (segment_stands (bits b) p c.requires.3) in
    stepped_up s b ent v p c.in-Up.next x.is x.next
