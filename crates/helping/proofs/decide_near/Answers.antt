use Prim.Native.Nat.{◌-◌}
use mathlib.Core.Bool.{Bool}
use mathlib.Core.Path.{refl, sym, ap, ◌∙◌, subst}
use native.Mathlib.Omega.{arith}
use borrow.Author.Tests.{eq-eqb}
use Rattle.rules.specs.Bits.{bits}
use Rattle.rules.specs.BundleLaws.{bits_binary}
use Rattle.meaning.specs.Means.{stands_known}
use Rattle.value.specs.Numbers.{decoded}
use Rattle.inlining.specs.Decorated.{is_at}
use Rattle.helping.specs.declared.Few.TheVariants.{One, Two}
use Rattle.helping.specs.Few.{few_read}
use Rattle.helping.specs.Decided.{few_needs_all, DecidedBy}
use Rattle.helping.proofs.Deciding.{gets_value, value_held, literal_held}
use borrow.Author.Rules.{rules}
use Rattle.helping.proofs.decide_near.Goals as goal

pub evaluate_near-x-requires : goal.evaluate_near-x-requires
evaluate_near-x-requires c = let z = c in
    let F = few_read z.args.d (bits z.args.b.now) (bits_binary z.args.b.now) z.args.p z.requires.3 (One c.in-One.v) (sym c.in-One.is ∙ c.few_at-few.ensures) in
    (z.requires.0, z.requires.1, z.requires.2, F.2)

pub returns-then-x-eq-FAR : goal.returns-then-x-eq-FAR
returns-then-x-eq-FAR c = let a = c.args in
    ap (few_needs_all a.b.now a.ent.now a.front a.names) (sym (sym c.in-One.is ∙ c.few_at-few.ensures)) ∙ sym c.evaluate_near-x.ensures.2 ∙ eq-eqb _ _ c.if-x-eq-FAR.true

pub decide_one-requires : goal.decide_one-requires
decide_one-requires c = let z = c in
    let a = z.args in
    let v = c.in-One.v in
    let F = few_read a.d (bits a.b.now) (bits_binary a.b.now) a.p z.requires.3 (One v) (sym c.in-One.is ∙ c.few_at-few.ensures) in
    let N = z.requires.2 in
    let n = c.evaluate_near-x.result in (
      z.requires.0,
      z.requires.1,
      F.1,
      omega (arith, c.evaluate_near-x.ensures.0, c.if-x-eq-FAR.false),
      λ ne. stands_known a.s.now a.b.now a.ent.now _ _
          (value_held a.s.now a.b.now a.ent.now N.stack N.used a.options N.newest.some N.near v (decoded (n - 1))
          (gets_value a.s.now a.b.now a.ent.now N.stack N.used a.options v n ne (decoded (n - 1)) refl (λ g st t S. c.evaluate_near-x.ensures.1 c.if-x-eq-FAR.false N.stack N.used N.newest g st t S.plan S.recursive S.open_scopes S.stand))).stands,
    )

pub evaluate_near-x-requires-in-Two : goal.evaluate_near-x-requires-in-Two
evaluate_near-x-requires-in-Two c = let z = c in
    let F = few_read z.args.d (bits z.args.b.now) (bits_binary z.args.b.now) z.args.p z.requires.3 (Two c.in-Two.v c.in-Two.l) (sym c.in-Two.is ∙ c.few_at-few.ensures) in
    (z.requires.0, z.requires.1, z.requires.2, F.2)

pub returns-then-x-eq-FAR-2 : goal.returns-then-x-eq-FAR-2
returns-then-x-eq-FAR-2 c = let a = c.args in
    ap (few_needs_all a.b.now a.ent.now a.front a.names) (sym (sym c.in-Two.is ∙ c.few_at-few.ensures)) ∙ sym c.evaluate_near-x-in-Two.ensures.2 ∙ eq-eqb _ _ c.if-x-eq-FAR-2.true

pub decide_two-requires : goal.decide_two-requires
decide_two-requires c = let z = c in
    let a = z.args in
    let v = c.in-Two.v in
    let k = c.in-Two.l in
    let F = few_read a.d (bits a.b.now) (bits_binary a.b.now) a.p z.requires.3 (Two v k) (sym c.in-Two.is ∙ c.few_at-few.ensures) in
    let N = z.requires.2 in
    let n = c.evaluate_near-x-in-Two.result in (
      z.requires.0,
      z.requires.1,
      F.1,
      omega (arith, c.evaluate_near-x-in-Two.ensures.0, c.if-x-eq-FAR-2.false),
      λ ne. value_held a.s.now a.b.now a.ent.now N.stack N.used a.options N.newest.some N.near v (decoded (n - 1))
          (gets_value a.s.now a.b.now a.ent.now N.stack N.used a.options v n ne (decoded (n - 1)) refl (λ g st t S. c.evaluate_near-x-in-Two.ensures.1 c.if-x-eq-FAR-2.false N.stack N.used N.newest g st t S.plan S.recursive S.open_scopes S.stand)),
      literal_held a.s.now a.b.now a.ent.now N.stack N.used a.options N.newest.some N.near k F.3,
    )

pub returns-else-x-eq-FAR : goal.returns-else-x-eq-FAR
returns-else-x-eq-FAR c = let z = c in
    let a = z.args in
    let v = c.in-One.v in
    let F = few_read a.d (bits a.b.now) (bits_binary a.b.now) a.p z.requires.3 (One v) (sym c.in-One.is ∙ c.few_at-few.ensures) in
    λ l w.
    subst (λ (x : Bool). DecidedBy a.s.now a.b.now a.ent.now l a.used a.options a.d a.p (is_at a.template) x c.decide_one.result) c.is_at-i.ensures
    (subst (λ (x : Bool). DecidedBy a.s.now a.b.now a.ent.now l a.used a.options a.d a.p x c.is_at-i.result c.decide_one.result) c.is_at-t.ensures
    (c.decide_one.ensures a.ent.now l a.d v F (λ g st t S. c.evaluate_near-x.ensures.1 c.if-x-eq-FAR.false l a.used w g st t S.plan S.recursive S.open_scopes S.stand)))

pub returns-else-x-eq-FAR-2 : goal.returns-else-x-eq-FAR-2
returns-else-x-eq-FAR-2 c = let z = c in
    let a = z.args in
    let v = c.in-Two.v in
    let k = c.in-Two.l in
    let F = few_read a.d (bits a.b.now) (bits_binary a.b.now) a.p z.requires.3 (Two v k) (sym c.in-Two.is ∙ c.few_at-few.ensures) in
    λ l w.
    subst (λ (x : Bool). DecidedBy a.s.now a.b.now a.ent.now l a.used a.options a.d a.p (is_at a.template) x c.decide_two.result) c.is_at-i.ensures
    (subst (λ (x : Bool). DecidedBy a.s.now a.b.now a.ent.now l a.used a.options a.d a.p x c.is_at-i.result c.decide_two.result) c.is_at-t.ensures
    (c.decide_two.ensures l a.d v F (λ g st t S. c.evaluate_near-x-in-Two.ensures.1 c.if-x-eq-FAR-2.false l a.used w g st t S.plan S.recursive S.open_scopes S.stand)))

pub returns-in-Other : goal.returns-in-Other
returns-in-Other c = let a = c.args in
    ap (few_needs_all a.b.now a.ent.now a.front a.names) (sym (sym c.in-Other.is ∙ c.few_at-few.ensures))
