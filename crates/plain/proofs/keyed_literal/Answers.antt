use mathlib.Core.Path.{refl, sym, subst}
use native.Mathlib.Omega.{arith}
use Rattle.value.specs.declared.Value.{Value}
use Rattle.lookup.specs.Keyed.{LookedNumber}
use Rattle.lookup.specs.Answers.{Held}
use Rattle.plain.specs.Finding.{led_held}
use borrow.Author.Rules.{rules}
use Rattle.plain.proofs.keyed_literal.Goals as goal

pub returns-then-found-eq0 : goal.returns-then-found-eq0
returns-then-found-eq0 c = record { value = c.led-found.result; led = c.led-found.ensures; small = omega arith; none = λ _. refl; some = λ n. absurd (n c.if-found-eq0.true) }

pub keyed_number-requires : goal.keyed_number-requires
keyed_number-requires c = let z = c in
    let a = z.args in
    (z.requires.0, z.requires.1, subst (Held a.s.now a.b.now a.ent.now) (sym c.decode.ensures) (led_held a.s.now a.b.now a.ent.now a.front a.names a.options z.requires.2 a.v c.led-found.result c.led-found.ensures c.if-found-eq0.false), z.requires.4)

pub returns : goal.returns
returns c = let a = c.args in
    record {
      value = c.led-found.result;
      led = c.led-found.ensures;
      small = c.keyed_number.ensures.small;
      none = λ e. absurd (c.if-found-eq0.false e);
      some = λ _. subst (λ (u : Value). LookedNumber a.s.now a.b.now a.ent.now u a.k c.keyed_number.result) c.decode.ensures c.keyed_number.ensures;
    }
