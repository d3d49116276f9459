use Prim.Native.Nat.{ℕ, suc, ◌+◌, ◌-◌, ◌≤◌}
use mathlib.Core.Path.{◌≡◌, refl, sym, ap, ap₂, ◌∙◌, subst}
use mathlib.Core.List.{List}
use native.Mathlib.Omega.{arith}
use borrow.Author.Rules.{rules}
use lib.Dec.{eqb}
use lib.ListN.{length, get_or}
use Rattle.rules.specs.Bytes.{pick}
use Rattle.rules.specs.Bits.{bits}
use Rattle.rules.specs.Layout.{◌then◌}
use Rattle.rules.specs.Bundle.{string, param}
use Rattle.parts.specs.Holds.{Holds, end}
use Rattle.value.specs.Numbers.{encoded}
use Rattle.entries.specs.Stored.{stored}
use Rattle.including.specs.Values.{pair_place}
use Rattle.including.specs.Pairs.{with_pairs}
use Rattle.including.specs.PairsLaws.{pairs_length, pair_holds}
use Rattle.including.specs.Hashing.{next_place}
use Rattle.including.proofs.merge.Goals as goal

pub loop-i-init : goal.loop-i-init
loop-i-init c = (refl, refl)

pub next_pair-at-requires : goal.next_pair-at-requires
next_pair-at-requires c = let z = c in
    let m = c.loop-i in
    let lt = c.loop-i-test.true in
    (z.requires.0, λ h. subst (Holds (string then param z.args.d) (bits z.args.b.now)) (sym m.invariant.1) (pair_holds z.args.d (bits z.args.b.now) z.args.p z.args.n (m.i - 1) (omega (arith, lt)) z.requires.5))

pub overflow_add-t : goal.overflow_add-t
overflow_add-t c = let z = c in omega (arith, z.requires.3, c.loop-i-test.true)

pub offset_bounds-values-i : goal.offset_bounds-values-i
offset_bounds-values-i c = let z = c in omega (arith, z.requires.2, c.loop-i-test.true)

pub bounds-values-i : goal.bounds-values-i
bounds-values-i c = let z = c in omega (arith, z.requires.6, c.loop-i-test.true)

pub store-requires : goal.store-requires
store-requires c = let z = c in
    let m = c.loop-i in
    omega (arith, z.requires.4, c.loop-i-test.true, ap length m.invariant.0, pairs_length z.args.ent.now (bits z.args.b.now) z.args.t c.encode-k.result z.args.values.now z.args.d z.args.p m.i)

pub loop-i-preserved : goal.loop-i-preserved
loop-i-preserved c = let z = c in
    let m = c.loop-i in
    let lt = c.loop-i-test.true in
    let one : suc m.i ≡ m.i + 1 = omega arith in
    let back : m.i ≡ m.i + 1 - 1 = omega arith in
    let place : c.next_pair-at.result ≡ pair_place z.args.d (bits z.args.b.now) z.args.p m.i =
    c.next_pair-at.ensures ∙ ap (λ (q : ℕ). pick (eqb m.i 0) q (end (string then param z.args.d) (bits z.args.b.now) q)) m.invariant.1 ∙ next_place z.args.d (bits z.args.b.now) z.args.p m.i in (
      c.store.ensures
          ∙ ap₂ (λ (l : List ℕ) (q : ℕ). stored l (z.args.t + m.i) (get_or z.args.values.now m.i 0) c.encode-k.result q) m.invariant.0 place
          ∙ ap (with_pairs z.args.ent.now (bits z.args.b.now) z.args.t c.encode-k.result z.args.values.now z.args.d z.args.p) one,
      place ∙ ap (pair_place z.args.d (bits z.args.b.now) z.args.p) back,
    )

pub shape_of-ent : goal.shape_of-ent
shape_of-ent c = let z = c in
    let m = c.loop-i in
    ap length m.invariant.0 ∙ pairs_length z.args.ent.now (bits z.args.b.now) z.args.t c.encode-k.result z.args.values.now z.args.d z.args.p m.i

pub returns : goal.returns
returns c = let z = c in
    let m = c.loop-i in
    let e : m.i ≡ z.args.n = omega (arith, c.loop-i.auto.i-end, c.loop-i-test.false) in
    m.invariant.0
    ∙ ap (λ (k : ℕ). with_pairs z.args.ent.now (bits z.args.b.now) z.args.t k z.args.values.now z.args.d z.args.p m.i) c.encode-k.ensures
    ∙ ap (with_pairs z.args.ent.now (bits z.args.b.now) z.args.t (encoded z.args.base) z.args.values.now z.args.d z.args.p) e
