use Prim.Native.Nat.{◌+◌, ◌-◌}
use mathlib.Core.Path.{refl, sym, ap, ◌∙◌, subst}
use native.Mathlib.Omega.{arith}
use lib.Dec.{ltb}
use borrow.Author.Tests.{lt-ltb}
use Rattle.rules.specs.HelperLookup.{looked_up}
use Rattle.value.specs.Numbers.{Fits, decoded}
use Rattle.value.specs.declared.Value.{Value}
use Rattle.meaning.specs.Meaning.{json_of}
use Rattle.lookup.specs.Numbers.{numbered_found}
use Rattle.lookup.specs.Answers.{Held, Finds, IsFound}
use Rattle.context.specs.Near.{stands_fits}
use Rattle.plain.specs.Finding.{led_near, led_held, found_number}
use borrow.Author.Rules.{rules}
use Rattle.plain.proofs.keyed_paths.Goals as goal

pub returns-then-found-eq0 : goal.returns-then-found-eq0
returns-then-found-eq0 c = record { value = c.led-found.result; led = c.led-found.ensures; small = omega arith; none = λ _. refl; some = λ n. absurd (n c.if-found-eq0.true) }

pub returns-then-key-eq0 : goal.returns-then-key-eq0
returns-then-key-eq0 c = record {
  value = c.led-found.result;
  led = c.led-found.ensures;
  small = omega arith;
  none = λ e. absurd (c.if-found-eq0.false e);
  some = λ _. record { key = c.led-key.result; led = c.led-key.ensures; small = omega arith; known = ap (ltb 0) (sym c.if-key-eq0.true); told = λ n. absurd (n c.if-key-eq0.true) };
}

pub looked_up-requires : goal.looked_up-requires
looked_up-requires c = let z = c in
    let a = z.args in (
      z.requires.0,
      z.requires.1,
      subst (Held a.s.now a.b.now a.ent.now) (sym c.decode-of.ensures) (led_held a.s.now a.b.now a.ent.now a.front a.names a.options z.requires.2 a.v c.led-found.result c.led-found.ensures c.if-found-eq0.false),
      subst (Held a.s.now a.b.now a.ent.now) (sym c.decode-under.ensures) (led_held a.s.now a.b.now a.ent.now a.front a.names a.options z.requires.2 a.k c.led-key.result c.led-key.ensures c.if-key-eq0.false),
    )

pub encode-requires : goal.encode-requires
encode-requires c = let z = c in
    let a = z.args in
    let v = c.led-found in
    let N = led_near a.s.now a.b.now a.ent.now a.front a.names a.options z.requires.2 a.v v.result v.ensures c.if-found-eq0.false in
    let w = c.in-Some.w in
    let J : Value → Type 0 = λ u. IsFound a.s.now a.b.now a.ent.now u (looked_up (json_of a.s.now a.b.now a.ent.now u) (json_of a.s.now a.b.now a.ent.now c.decode-under.result)) w in
    let F : J (decoded (v.result - 1)) = subst J c.decode-of.ensures (subst (Finds a.s.now a.b.now a.ent.now c.decode-of.result _) c.in-Some.is c.looked_up.ensures) in
    stands_fits a.s.now a.b.now a.ent.now N.top z.requires.0.answers z.requires.1 N.near w (F.stands N.top N.stands)

pub returns-in-Some : goal.returns-in-Some
returns-in-Some c = let z = c in
    let a = z.args in
    let v = c.led-found in
    let k = c.led-key in
    let N = led_near a.s.now a.b.now a.ent.now a.front a.names a.options z.requires.2 a.v v.result v.ensures c.if-found-eq0.false in
    let w = c.in-Some.w in
    let J : Value → Value → Type 0 = λ u x. IsFound a.s.now a.b.now a.ent.now u (looked_up (json_of a.s.now a.b.now a.ent.now u) (json_of a.s.now a.b.now a.ent.now x)) w in
    let F : J (decoded (v.result - 1)) (decoded (k.result - 1)) =
    subst (λ (u : Value). J u (decoded (k.result - 1))) c.decode-of.ensures (subst (J c.decode-of.result) c.decode-under.ensures (subst (Finds a.s.now a.b.now a.ent.now c.decode-of.result _) c.in-Some.is c.looked_up.ensures)) in
    let f : Fits w = stands_fits a.s.now a.b.now a.ent.now N.top z.requires.0.answers z.requires.1 N.near w (F.stands N.top N.stands) in
    record {
      value = v.result;
      led = v.ensures;
      small = omega arith;
      none = λ e. absurd (c.if-found-eq0.false e);
      some = λ _. record {
        key = k.result;
        led = k.ensures;
        small = omega arith;
        known = lt-ltb 0 (2 + c.encode.result) (omega arith) ∙ sym (lt-ltb 0 k.result (omega (arith, c.if-key-eq0.false)));
        told = λ _. found_number a.s.now a.b.now a.ent.now (decoded (v.result - 1)) _ w f c.encode.result c.encode.ensures F _ refl;
      };
    }

pub returns-in-None : goal.returns-in-None
returns-in-None c = let z = c in
    let a = z.args in
    let v = c.led-found in
    let k = c.led-key in
    let J : Value → Value → Type 0 = λ u x. Finds a.s.now a.b.now a.ent.now u (looked_up (json_of a.s.now a.b.now a.ent.now u) (json_of a.s.now a.b.now a.ent.now x)) (numbered_found 1) in
    let F : J (decoded (v.result - 1)) (decoded (k.result - 1)) =
    subst (λ (u : Value). J u (decoded (k.result - 1))) c.decode-of.ensures (subst (J c.decode-of.result) c.decode-under.ensures (subst (Finds a.s.now a.b.now a.ent.now c.decode-of.result _) c.in-None.is c.looked_up.ensures)) in
    record {
      value = v.result;
      led = v.ensures;
      small = omega arith;
      none = λ e. absurd (c.if-found-eq0.false e);
      some = λ _. record { key = k.result; led = k.ensures; small = omega arith; known = sym (lt-ltb 0 k.result (omega (arith, c.if-key-eq0.false))); told = λ _. F };
    }
