use Prim.Native.Nat.{ℕ, ◌-◌}
use mathlib.Core.Bool.{true, false}
use mathlib.Core.Path.{◌≡◌, refl, sym, ap, ◌∙◌, subst}
use native.Mathlib.Omega.{arith}
use Rattle.rules.specs.Bits.{bits}
use Rattle.value.specs.Numbers.{decoded}
use Rattle.context.specs.Start.{Based}
use Rattle.rules.specs.Bundle.{seg}
use Rattle.rules.specs.Order.{differ}
use Rattle.parts.specs.HoldsLaws.{passed_first}
use Rattle.parts.specs.Says.{segment_read, SegmentStands}
use Rattle.context.specs.declared.Start.{Start}
use Rattle.context.specs.Start.{NameStarts}
use Rattle.context.proofs.Starting.{peek_start, starts_end, starts_root, starts_named, based_first, whole_plan}
use Rattle.context.proofs.Nearing.{based_front, no_segments, first_needs}
use Rattle.context.proofs.begin_near.Goals as goal

pub returns-then-n-eq0 : goal.returns-then-n-eq0
returns-then-n-eq0 c = (
  λ far l u w.
      let z = c in
      let a = z.args in
      let e = c.start_at.ensures in
      starts_end a.b.now a.ent.now l u a.p a.n 0 a.p (peek_start (bits a.b.now) a.p a.n z.requires.2) c.start_at.result (omega (arith, c.if-n-eq0.true))
      (ap (λ (y : Start). y.place) e) (ap (λ (y : Start). y.left) e)
      (subst (λ (v : ℕ). Based l u 0 false (decoded v)) (sym (ap (λ (y : Start). y.value) e)) (based_front a.b.now a.ent.now a.front a.names l u w)),
  ap (λ (y : Start). y.far) c.start_at.ensures ∙ no_segments c.args.b.now c.args.ent.now c.args.front c.args.names c.args.p c.args.n c.requires.2 (omega (arith, c.if-n-eq0.true)),
)

pub segment_at-segment-requires : goal.segment_at-segment-requires
segment_at-segment-requires c = let z = c in (z.requires.0, passed_first seg (bits z.args.b.now) _ _ _ _ (peek_start (bits z.args.b.now) z.args.p z.args.n z.requires.2).passed (omega (arith, c.if-n-eq0.false)))

pub name_near-requires : goal.name_near-requires
name_near-requires c =
    let read : SegmentStands (bits c.args.b.now) c.args.p c.segment_at-segment.result = let z = c in
    segment_read (bits z.args.b.now) z.args.p (passed_first seg (bits z.args.b.now) _ _ _ _ (peek_start (bits z.args.b.now) z.args.p z.args.n z.requires.2).passed (omega (arith, c.if-n-eq0.false))) c.segment_at-segment.result c.segment_at-segment.ensures in
    let z = c in
    let x = subst (SegmentStands (bits z.args.b.now) z.args.p) c.in-Named.is (read) in
    (z.requires.0, z.requires.1, record { all = z.requires.2; some = omega (arith, c.if-n-eq0.false); text = x.parts; is = x.is; behind = x.next })

pub returns-in-Named : goal.returns-in-Named
returns-in-Named c =
    let read : SegmentStands (bits c.args.b.now) c.args.p c.segment_at-segment.result = let z = c in
    segment_read (bits z.args.b.now) z.args.p (passed_first seg (bits z.args.b.now) _ _ _ _ (peek_start (bits z.args.b.now) z.args.p z.args.n z.requires.2).passed (omega (arith, c.if-n-eq0.false))) c.segment_at-segment.result c.segment_at-segment.ensures in (
      λ far l u w.
          let z = c in
          let a = z.args in
          let x = subst (SegmentStands (bits a.b.now) a.p) c.in-Named.is (read) in
          let e : a.n ≡ a.n - 0 = omega arith in
          starts_named a.b.now a.ent.now l u a.p a.n 0 a.p (peek_start (bits a.b.now) a.p a.n z.requires.2) c.name_near.result (omega (arith, c.if-n-eq0.false)) c.in-Named.q c.in-Named.next x
          (subst (λ (m : ℕ). NameStarts a.b.now a.ent.now l u a.p m 0 c.name_near.result) e (c.name_near.ensures.0 far l u w)),
      first_needs c.args.b.now c.args.ent.now c.args.front c.args.names c.args.p c.args.n c.requires.2 (omega (arith, c.if-n-eq0.false)) _ (subst (SegmentStands (bits c.args.b.now) c.args.p) c.in-Named.is (read)).is c.name_near.result.far c.name_near.ensures.1,
    )

pub returns-in-Root : goal.returns-in-Root
returns-in-Root c =
    let read : SegmentStands (bits c.args.b.now) c.args.p c.segment_at-segment.result = let z = c in
    segment_read (bits z.args.b.now) z.args.p (passed_first seg (bits z.args.b.now) _ _ _ _ (peek_start (bits z.args.b.now) z.args.p z.args.n z.requires.2).passed (omega (arith, c.if-n-eq0.false))) c.segment_at-segment.result c.segment_at-segment.ensures in (
      λ far l u w.
          let z = c in
          let a = z.args in
          let x = subst (SegmentStands (bits a.b.now) a.p) c.in-Root.is (read) in
          let e = c.start_at-in-Root.ensures in
          let n : a.n - 1 ≡ a.n - 0 - 1 = omega arith in
          starts_root a.b.now a.ent.now l u a.p a.n 0 a.p (peek_start (bits a.b.now) a.p a.n z.requires.2) c.start_at-in-Root.result (omega (arith, c.if-n-eq0.false)) c.in-Root.next x
          (ap (λ (y : Start). y.place) e) (ap (λ (y : Start). y.left) e ∙ n)
          (subst (λ (v : ℕ). Based l u 0 true (decoded v)) (sym (ap (λ (y : Start). y.value) e)) (subst (Based l u 0 true) (sym whole_plan) (based_first l u 0 true refl))),
      first_needs c.args.b.now c.args.ent.now c.args.front c.args.names c.args.p c.args.n c.requires.2 (omega (arith, c.if-n-eq0.false)) _ (subst (SegmentStands (bits c.args.b.now) c.args.p) c.in-Root.is (read)).is c.start_at-in-Root.result.far (ap (λ (y : Start). y.far) c.start_at-in-Root.ensures),
    )

pub returns-in-Up : goal.returns-in-Up
returns-in-Up c =
    let read : SegmentStands (bits c.args.b.now) c.args.p c.segment_at-segment.result = let z = c in
    segment_read (bits z.args.b.now) z.args.p (passed_first seg (bits z.args.b.now) _ _ _ _ (peek_start (bits z.args.b.now) z.args.p z.args.n z.requires.2).passed (omega (arith, c.if-n-eq0.false))) c.segment_at-segment.result c.segment_at-segment.ensures in (
      λ far l u w. differ (sym c.far_start.ensures ∙ far),
      first_needs c.args.b.now c.args.ent.now c.args.front c.args.names c.args.p c.args.n c.requires.2 (omega (arith, c.if-n-eq0.false)) _ (subst (SegmentStands (bits c.args.b.now) c.args.p) c.in-Up.is (read)).is c.far_start.result.far c.far_start.ensures,
    )
