use Rattle.std.specs.Prelude.{Some, Result, Err}
use Prim.Native.Nat.{ℕ, suc, ◌+◌, ◌-◌, ◌≤◌}
use mathlib.Core.Path.{◌≡◌, refl, sym, ap, ◌∙◌, subst}
use native.Mathlib.Omega.{arith}
use borrow.Author.Rules.{rules}
use lib.Dec.{eqb}
use lib.ListN.{length, set, length-set}
use Rattle.rules.specs.Bytes.{pick}
use Rattle.rules.specs.Bits.{bits}
use Rattle.rules.specs.Layout.{◌then◌}
use Rattle.rules.specs.Bundle.{string, param}
use Rattle.rules.specs.State.{RenderContext}
use Rattle.rules.specs.Registry.{Registry}
use Rattle.rules.specs.Expand as rules
use Rattle.parts.specs.Holds.{Holds, end}
use Rattle.calls.specs.Calls.{param_at, pair_content}
use Rattle.expand.specs.Answers.{Setting, Expands}
use Rattle.expand.proofs.Parts.{some_setting, some_used}
use Rattle.including.specs.Values.{pair_place, content_place, GotFits, Numbered, HashValuesIn}
use Rattle.including.specs.ValuesLaws.{got_fits, numbered, values_as_were, values_more}
use Rattle.including.specs.PairsLaws.{pair_holds, key_holds}
use Rattle.including.specs.Hashing.{next_place, WorkedOut, none_worked, one_worked, all_worked, one_refused, refusal_works, counted_all, counted_some}
use Rattle.including.proofs.hash_all.Goals as goal
use Rattle.error.specs.declared.RenderErrorReason.{RenderErrorReason as Reason}
use Rattle.value.specs.declared.Value.{Value}

pub loop-i-init : goal.loop-i-init
loop-i-init c = let z = c in (refl, refl, λ g st t h. (values_as_were _ _ _ _ _ _ g st z.args.values.now, none_worked z.args.b.now z.args.d z.args.p g st))

pub next_pair-at-requires : goal.next_pair-at-requires
next_pair-at-requires c = let z = c in
    let m = c.loop-i in
    let lt = c.loop-i-test.true in
    (z.requires.1, λ h. subst (Holds (string then param z.args.d) (bits z.args.b.now)) (sym m.invariant.1) (pair_holds z.args.d (bits z.args.b.now) z.args.p z.args.n (m.i - 1) (omega (arith, lt)) z.requires.7))

pub skip_string-q-requires : goal.skip_string-q-requires
skip_string-q-requires c = let z = c in
    let m = c.loop-i in
    let place : c.next_pair-at.result ≡ pair_place z.args.d (bits z.args.b.now) z.args.p m.i =
    c.next_pair-at.ensures ∙ ap (λ (q : ℕ). pick (eqb m.i 0) q (end (string then param z.args.d) (bits z.args.b.now) q)) m.invariant.1 ∙ next_place z.args.d (bits z.args.b.now) z.args.p m.i in
    (z.requires.1, subst (Holds string (bits z.args.b.now)) (sym place) (key_holds z.args.d (bits z.args.b.now) z.args.p z.args.n m.i c.loop-i-test.true z.requires.7))

pub hash_value-x-requires : goal.hash_value-x-requires
hash_value-x-requires c = let z = c in
    let m = c.loop-i in
    let place : c.next_pair-at.result ≡ pair_place z.args.d (bits z.args.b.now) z.args.p m.i =
    c.next_pair-at.ensures ∙ ap (λ (q : ℕ). pick (eqb m.i 0) q (end (string then param z.args.d) (bits z.args.b.now) q)) m.invariant.1 ∙ next_place z.args.d (bits z.args.b.now) z.args.p m.i in
    let here = subst (Holds (string then param z.args.d) (bits z.args.b.now)) (sym place) (pair_holds z.args.d (bits z.args.b.now) z.args.p z.args.n m.i c.loop-i-test.true z.requires.7) in
    (z.requires.0, z.requires.1, z.requires.2, z.requires.3, z.requires.4, z.requires.5, pair_content z.args.d (bits z.args.b.now) c.next_pair-at.result here _ c.skip_string-q.ensures)

pub shape_of-values-in-Err : goal.shape_of-values-in-Err
shape_of-values-in-Err c = c.loop-i.invariant.0

pub returns-in-Err : goal.returns-in-Err
returns-in-Err c = let z = c in
    let m = c.loop-i in
    let lt = c.loop-i-test.true in
    let place : c.next_pair-at.result ≡ pair_place z.args.d (bits z.args.b.now) z.args.p m.i =
    c.next_pair-at.ensures ∙ ap (λ (q : ℕ). pick (eqb m.i 0) q (end (string then param z.args.d) (bits z.args.b.now) q)) m.invariant.1 ∙ next_place z.args.d (bits z.args.b.now) z.args.p m.i in
    let content : c.skip_string-q.result ≡ content_place z.args.d (bits z.args.b.now) z.args.p m.i = c.skip_string-q.ensures ∙ ap (end string (bits z.args.b.now)) place in
    let k = c.in-Err.k in (
      λ g st t h.
          let known = subst (λ (q : ℕ). Expands z.args.s.now z.args.b.now z.args.ent.now t (rules.expand g st (param_at z.args.d (bits z.args.b.now) q)) (Err k)) content
          (subst (λ (r : Result Value Reason). Expands z.args.s.now z.args.b.now z.args.ent.now t (rules.expand g st (param_at z.args.d (bits z.args.b.now) c.skip_string-q.result)) r) c.in-Err.is (c.hash_value-x.ensures g st t h)) in
          refusal_works _ _ (Some k) (one_refused z.args.b.now z.args.d z.args.p g st z.args.n m.i (Some k) lt (m.invariant.2 g st t h).1 z.requires.7 known),
      λ g st t h.
          let known = subst (λ (q : ℕ). Expands z.args.s.now z.args.b.now z.args.ent.now t (rules.expand g st (param_at z.args.d (bits z.args.b.now) q)) (Err k)) content
          (subst (λ (r : Result Value Reason). Expands z.args.s.now z.args.b.now z.args.ent.now t (rules.expand g st (param_at z.args.d (bits z.args.b.now) c.skip_string-q.result)) r) c.in-Err.is (c.hash_value-x.ensures g st t h)) in
          subst (λ (j : ℕ). HashValuesIn z.args.s.now z.args.b.now z.args.ent.now t z.args.d z.args.p j g st z.args.values.now m.values)
          (sym (counted_some z.args.b.now z.args.d z.args.p g st z.args.n m.i (Some k) lt (m.invariant.2 g st t h).1 known)) (m.invariant.2 g st t h).0,
    )

pub number_of-requires : goal.number_of-requires
number_of-requires c = let z = c in
    let h = z.requires.4 in
    let w = some_setting z.args.s.now z.args.b.now z.args.ent.now z.args.scopes z.args.used z.args.options z.requires.2 h in
    got_fits z.args.s.now z.args.b.now z.args.ent.now w.t z.requires.0.answers z.requires.1 (omega (arith, z.requires.4.near, some_used z.args.s.now z.args.b.now z.args.ent.now z.args.scopes z.args.used z.args.options z.requires.2 h)) _ c.hash_value-x.result (c.hash_value-x.ensures w.g w.st w.t w.setting)

pub offset_bounds-values-i : goal.offset_bounds-values-i
offset_bounds-values-i c = let z = c in omega (arith, c.loop-i-test.true, z.requires.6)

pub bounds-values-i : goal.bounds-values-i
bounds-values-i c = let z = c in omega (arith, c.loop-i.invariant.0, c.loop-i-test.true, z.requires.8)

pub loop-i-preserved : goal.loop-i-preserved
loop-i-preserved c = let z = c in
    let m = c.loop-i in
    let lt = c.loop-i-test.true in
    let one : suc m.i ≡ m.i + 1 = omega arith in
    let back : m.i ≡ m.i + 1 - 1 = omega arith in
    let r = c.hash_value-x.result in
    let place : c.next_pair-at.result ≡ pair_place z.args.d (bits z.args.b.now) z.args.p m.i =
    c.next_pair-at.ensures ∙ ap (λ (q : ℕ). pick (eqb m.i 0) q (end (string then param z.args.d) (bits z.args.b.now) q)) m.invariant.1 ∙ next_place z.args.d (bits z.args.b.now) z.args.p m.i in
    let content : c.skip_string-q.result ≡ content_place z.args.d (bits z.args.b.now) z.args.p m.i = c.skip_string-q.ensures ∙ ap (end string (bits z.args.b.now)) place in
    let h = z.requires.4 in
    let w = some_setting z.args.s.now z.args.b.now z.args.ent.now z.args.scopes z.args.used z.args.options z.requires.2 h in
    let fits : GotFits r = got_fits z.args.s.now z.args.b.now z.args.ent.now w.t z.requires.0.answers z.requires.1 (omega (arith, z.requires.4.near, some_used z.args.s.now z.args.b.now z.args.ent.now z.args.scopes z.args.used z.args.options z.requires.2 h)) _ c.hash_value-x.result (c.hash_value-x.ensures w.g w.st w.t w.setting) in
    let v = c.in_default.field-0 in (
      length-set m.values m.i c.number_of.result ∙ m.invariant.0,
      place ∙ ap (pair_place z.args.d (bits z.args.b.now) z.args.p) back,
      λ g st t h.
          let known = subst (λ (k : ℕ). Expands z.args.s.now z.args.b.now z.args.ent.now t (rules.expand g st (param_at z.args.d (bits z.args.b.now) k)) r) content (c.hash_value-x.ensures g st t h) in
          let is = subst (Expands z.args.s.now z.args.b.now z.args.ent.now t (rules.expand g st (param_at z.args.d (bits z.args.b.now) (content_place z.args.d (bits z.args.b.now) z.args.p m.i)))) c.in_default.is known in (
            subst (λ (k : ℕ). HashValuesIn z.args.s.now z.args.b.now z.args.ent.now t z.args.d z.args.p k g st z.args.values.now (set m.values m.i c.number_of.result)) one
                (values_more z.args.s.now z.args.b.now z.args.ent.now t z.args.d z.args.p g st m.i m.values c.number_of.result (omega (arith, m.invariant.0, lt, z.requires.8)) (m.invariant.2 g st t h).0
                (subst (Numbered z.args.s.now z.args.b.now z.args.ent.now t _) (sym c.number_of.ensures) (numbered z.args.s.now z.args.b.now z.args.ent.now t _ r known fits))),
            subst (WorkedOut z.args.b.now z.args.d z.args.p g st) one (one_worked z.args.b.now z.args.d z.args.p g st m.i (m.invariant.2 g st t h).1 _ is.0),
          ),
    )

pub shape_of-values : goal.shape_of-values
shape_of-values c = c.loop-i.invariant.0

pub returns : goal.returns
returns c = let z = c in
    let m = c.loop-i in
    let e : m.i ≡ z.args.n = omega (arith, c.loop-i.auto.i-end, c.loop-i-test.false) in (
      λ g st t h.
          let all = subst (WorkedOut z.args.b.now z.args.d z.args.p g st) e (m.invariant.2 g st t h).1 in
          let values = subst (λ (k : ℕ). HashValuesIn z.args.s.now z.args.b.now z.args.ent.now t z.args.d z.args.p k g st z.args.values.now m.values) e (m.invariant.2 g st t h).0 in
          let hs = all_worked z.args.b.now z.args.d z.args.p g st z.args.n all z.requires.7 in
          record { fine = λ q. (hs.0, hs.1, values); refused = λ q. absurd (q refl) },
      λ g st t h.
          let all = subst (WorkedOut z.args.b.now z.args.d z.args.p g st) e (m.invariant.2 g st t h).1 in
          let values = subst (λ (k : ℕ). HashValuesIn z.args.s.now z.args.b.now z.args.ent.now t z.args.d z.args.p k g st z.args.values.now m.values) e (m.invariant.2 g st t h).0 in
          subst (λ (k : ℕ). HashValuesIn z.args.s.now z.args.b.now z.args.ent.now t z.args.d z.args.p k g st z.args.values.now m.values)
          (sym (counted_all z.args.b.now z.args.d z.args.p g st z.args.n all)) values,
    )
