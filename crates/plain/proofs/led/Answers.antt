use mathlib.Core.Path.{refl, sym, ap, ◌∙◌, subst}
use mathlib.Core.Logic.{inl, inr}
use native.Mathlib.Omega.{arith}
use borrow.Author.Tests.{eq-eqb, ne_eqb}
use Rattle.rules.specs.Order.{differ}
use Rattle.context.specs.Evaluated.{Evaluates, evaluated_of}
use borrow.Author.Rules.{rules}
use Rattle.plain.proofs.led.Goals as goal

pub returns-then-r-eq-FAR : goal.returns-then-r-eq-FAR
returns-then-r-eq-FAR c = record {
  small = omega arith;
  far = λ _. refl;
  none = λ _. inl (sym c.evaluate_near-r.ensures.2 ∙ eq-eqb _ _ c.if-r-eq-FAR.true);
  some = λ n. absurd (n refl);
}

pub returns : goal.returns
returns c = let a = c.args in
    let e = c.evaluate_near-r in
    record {
      small = omega (arith, e.ensures.0, c.if-r-eq-FAR.false);
      far = λ y. differ (sym (e.ensures.2 ∙ y) ∙ ne_eqb _ _ c.if-r-eq-FAR.false);
      none = λ z. inr (λ l used N g st t S.
          subst (Evaluates a.s.now a.b.now a.ent.now t _) (ap evaluated_of z) (e.ensures.1 c.if-r-eq-FAR.false l used N g st t S.plan S.recursive S.open_scopes S.stand));
      some = λ _ l used N g st t S. e.ensures.1 c.if-r-eq-FAR.false l used N g st t S.plan S.recursive S.open_scopes S.stand;
    }
