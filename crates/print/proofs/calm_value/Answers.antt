use Prim.Native.Nat.{◌/◌, ◌%◌}
use mathlib.Core.Bool.{false}
use mathlib.Core.Path.{sym, ◌∙◌}
use borrow.Author.Rules.{rules}
use borrow.Author.Tests.{eq-eqb, ne_eqb}
use Rattle.value.specs.Numbers.{decoded}
use Rattle.print.proofs.Spans.{plan_within}
use Rattle.print.proofs.Calm.{number_place}
use Rattle.print.specs.Span.{calm_value}
use Rattle.print.proofs.calm_value.Goals as goal

pub calm_place-requires : goal.calm_place-requires
calm_place-requires c = let z = c in
    let a = z.args in
    (z.requires.0, plan_within a.s.now z.requires.1.0 (decoded a.n) z.requires.1.1 (a.n / 16) (number_place a.n c.if-kind.true))

pub returns-then-kind : goal.returns-then-kind
unfolding calm_value
returns-then-kind c = c.calm_place.ensures ∙ sym (rw c.if-kind.true)

pub returns-then-kind-eq-NAME : goal.returns-then-kind-eq-NAME
unfolding calm_value
returns-then-kind-eq-NAME c = c.calm_string.ensures ∙ sym (rw (c.if-kind.false, eq-eqb _ 10 c.if-kind-eq-NAME.true))

pub returns : goal.returns
unfolding calm_value
returns c = sym (rw (c.if-kind.false, ne_eqb _ 10 c.if-kind-eq-NAME.false))
