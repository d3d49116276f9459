use Prim.Native.Nat.{◌-◌}
use mathlib.Core.Path.{refl, sym, ap, ◌∙◌, subst}
use native.Mathlib.Omega.{arith}
use Rattle.rules.specs.Bits.{bits}
use Rattle.layout.specs.Text.{text_at}
use Rattle.scope.proofs.NamesLaws.{string_near}
use Rattle.rules.specs.Error.{Got}
use Rattle.rules.specs.Value.{ScopedJson}
use Rattle.rules.specs.Expand as rule
use Rattle.parts.specs.Says.{segments_at, PathStands, path_stands}
use Rattle.scope.proofs.NamesLaws.{all_readable}
use Rattle.scope.specs.Names.{Readable, local_at}
use Rattle.context.specs.Evaluated.{Evaluates, evaluated_of}
use Rattle.context.specs.Start.{Starts}
use Rattle.context.proofs.Evaluating.{relative_is, local_is}
use Rattle.context.proofs.Nearing.{not_far, near_local, param_fits, local_answers}
use borrow.Author.Tests.{eq-eqb, ne_eqb}
use Rattle.rules.specs.Picks.{yes, no}
use Rattle.context.specs.Start.{needs_all}
use Rattle.context.proofs.evaluate_near.Goals as goal

pub begin_near-from-requires : goal.begin_near-from-requires
begin_near-from-requires c = let z = c in
    let a = z.args in
    let s = a.s.now in
    let b = a.b.now in
    let ent = a.ent.now in
    let x = subst (PathStands (bits b) a.p) (sym c.path_at-path.ensures ∙ c.in-Relative.is) (path_stands (bits b) a.p z.requires.3) in
    let N = z.requires.2 in
    (z.requires.1, subst (Readable b ent) (sym N.newest.is) (all_readable s b ent N.stack N.used N.near.top N.near.stand (N.used - 1) (omega (arith, N.newest.some))), x.parts)

pub returns-then-from : goal.returns-then-from
returns-then-from c = let x = subst (PathStands (bits c.args.b.now) c.args.p) (sym c.path_at-path.ensures ∙ c.in-Relative.is) (path_stands (bits c.args.b.now) c.args.p c.requires.3) in
    (omega arith, λ ne. absurd (ne refl), sym c.if-from.true ∙ c.begin_near-from.ensures.1 ∙ sym (ap (needs_all c.args.b.now c.args.ent.now c.args.front c.args.names) x.is))

pub navigate-requires : goal.navigate-requires
navigate-requires c = let z = c in
    let a = z.args in
    let s = a.s.now in
    let b = a.b.now in
    let ent = a.ent.now in
    let x = subst (PathStands (bits b) a.p) (sym c.path_at-path.ensures ∙ c.in-Relative.is) (path_stands (bits b) a.p z.requires.3) in
    let N = z.requires.2 in
    let r = c.begin_near-from.result in
    (z.requires.0, z.requires.1, record { stack = N.stack; used = N.used; near = N.near; starts = subst (Starts b ent N.stack N.used c.in-Relative.q c.in-Relative.n) (not_far r c.if-from.false) (c.begin_near-from.ensures.0 c.if-from.false N.stack N.used N.newest) }, x.parts)

pub returns-then-level-ne0 : goal.returns-then-level-ne0
returns-then-level-ne0 c = let x = subst (PathStands (bits c.args.b.now) c.args.p) (sym c.path_at-path.ensures ∙ c.in-Local.is) (path_stands (bits c.args.b.now) c.args.p c.requires.3) in
    (omega arith, λ ne. absurd (ne refl), no _ _ _ _ (ne_eqb _ 0 c.if-level-ne0.true) refl ∙ sym (ap (needs_all c.args.b.now c.args.ent.now c.args.front c.args.names) x.is))

pub local_variable-requires : goal.local_variable-requires
local_variable-requires c = let z = c in
    let a = z.args in
    let s = a.s.now in
    let b = a.b.now in
    let ent = a.ent.now in
    let x = subst (PathStands (bits b) a.p) (sym c.path_at-path.ensures ∙ c.in-Local.is) (path_stands (bits b) a.p z.requires.3) in
    string_near b _ z.requires.1 x.parts

pub local_number-requires : goal.local_number-requires
local_number-requires c = let z = c in
    let a = z.args in
    let s = a.s.now in
    let b = a.b.now in
    let ent = a.ent.now in
    let x = subst (PathStands (bits b) a.p) (sym c.path_at-path.ensures ∙ c.in-Local.is) (path_stands (bits b) a.p z.requires.3) in
    let N = z.requires.2 in
    let k = text_at (bits b) c.in-Local.q in
    param_fits s b ent N.near.top z.requires.0.answers z.requires.1 N.near.near (local_at s b ent N.stack N.used c.in-Local.level k) c.local_variable.result
    (near_local s b ent a.front a.names N.stack N.used N.newest N.near.top c.in-Local.level N.near.stand c.if-level-ne0.false k c.local_variable.result c.local_variable.ensures.0 c.local_variable.ensures.1)

pub returns-else-from : goal.returns-else-from
returns-else-from c = let z = c in
    let a = z.args in
    let s = a.s.now in
    let b = a.b.now in
    let ent = a.ent.now in
    let x = subst (PathStands (bits b) a.p) (sym c.path_at-path.ensures ∙ c.in-Relative.is) (path_stands (bits b) a.p z.requires.3) in
    let r = c.begin_near-from.result in (
      omega (arith, c.navigate.ensures.0),
      λ ne l u w g st t hp hr hb S.
          subst (λ (y : Got ScopedJson). Evaluates s b ent t y (evaluated_of c.navigate.result))
          (sym (ap (rule.evaluate2 g st) x.is ∙ relative_is s b ent l u a.recursive g st hp hr hb (text_at (bits b) a.p) (segments_at c.in-Relative.n (bits b) c.in-Relative.q)))
          (c.navigate.ensures.1 l u t (subst (Starts b ent l u c.in-Relative.q c.in-Relative.n) (not_far r c.if-from.false) (c.begin_near-from.ensures.0 c.if-from.false l u w)) S),
      ne_eqb c.navigate.result 4294967297 (λ z. absurd (omega (arith, z, c.navigate.ensures.0))) ∙ sym c.if-from.false ∙ c.begin_near-from.ensures.1 ∙ sym (ap (needs_all c.args.b.now c.args.ent.now c.args.front c.args.names) x.is),
    )

pub returns-else-level-ne0 : goal.returns-else-level-ne0
returns-else-level-ne0 c = let z = c in
    let a = z.args in
    let s = a.s.now in
    let b = a.b.now in
    let ent = a.ent.now in
    let x = subst (PathStands (bits b) a.p) (sym c.path_at-path.ensures ∙ c.in-Local.is) (path_stands (bits b) a.p z.requires.3) in
    let k = text_at (bits b) c.in-Local.q in
    let v = c.in-Local.level in (
      omega (arith, c.local_number.ensures.0),
      λ ne l u w g st t hp hr hb S.
          subst (λ (y : Got ScopedJson). Evaluates s b ent t y (evaluated_of c.local_number.result))
          (sym (ap (rule.evaluate2 g st) x.is ∙ local_is s b ent l u g st hb (text_at (bits b) a.p) v k))
          (subst (Evaluates s b ent t _) (sym c.local_number.ensures.1)
          (local_answers s b ent t (local_at s b ent l u v k) c.local_variable.result (near_local s b ent a.front a.names l u w t v S c.if-level-ne0.false k c.local_variable.result c.local_variable.ensures.0 c.local_variable.ensures.1))),
      ne_eqb c.local_number.result 4294967297 (λ z. absurd (omega (arith, z, c.local_number.ensures.0))) ∙ yes _ _ _ _ (eq-eqb _ 0 c.if-level-ne0.false) refl ∙ sym (ap (needs_all c.args.b.now c.args.ent.now c.args.front c.args.names) x.is),
    )
