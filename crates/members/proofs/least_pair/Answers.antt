use Rattle.members.proofs.Nearing.{has_keyed}
use Rattle.members.proofs.Stepping.{Pairing, pairing_start, pairing_on, text_key}
use Rattle.members.specs.Next.{after_name, PairItem}
use Rattle.members.specs.Next as spec
use Rattle.meaning.specs.Meaning.{json_of, pairs}
use Rattle.value.specs.Numbers.{decoded}
use Rattle.merging.specs.Order.{least}
use Rattle.parts.specs.Holds.{Holds}
use Rattle.rules.specs.Bits.{bits}
use Rattle.rules.specs.Bundle.{string}
use native.Mathlib.Omega.{arith}
use Prim.Native.Nat.{ℕ, ◌-◌, ◌≤◌}
use mathlib.Core.Path.{◌≡◌, ◌∙◌, ap, sym, subst}
use borrow.Author.Rules.{rules}
use Rattle.members.proofs.least_pair.Goals as goal

pub loop-k-init : goal.loop-k-init
loop-k-init c = pairing_start c.args.s.now c.args.b.now c.args.ent.now c.args.h c.args.n (after_name c.args.s.now c.args.b.now c.args.after)

pub overflow_add-h : goal.overflow_add-h
overflow_add-h c = omega (arith, c.requires.2)

pub place-requires : goal.place-requires
place-requires c = omega (arith, c.requires.2, c.loop-k-test.true)

pub overflow_add-h-in-loop-k : goal.overflow_add-h-in-loop-k
overflow_add-h-in-loop-k c = omega (arith, c.requires.2, c.loop-k-test.true)

pub low-requires : goal.low-requires
low-requires c = omega (arith, c.requires.2, c.loop-k-test.true)

pub nearer-best-requires : goal.nearer-best-requires
nearer-best-requires c = let a = c.args in
    let p = c.requires in
    (p.0, p.1, p.4, text_key a.s.now a.b.now c.place.result (subst (Holds string (bits a.b.now)) (sym c.place.ensures) (p.3.keys c.loop-k.k c.loop-k-test.true)), has_keyed a.s.now a.b.now (PairItem a.ent.now a.h a.n) c.loop-k.best c.loop-k.invariant.holds)

pub loop-k-preserved : goal.loop-k-preserved
loop-k-preserved c = let a = c.args in
    pairing_on a.s.now a.b.now a.ent.now a.h a.n (after_name a.s.now a.b.now a.after) c.loop-k.k c.loop-k.best c.loop-k.invariant c.loop-k-test.true c.requires.3 c.place.result c.place.ensures c.by_value-item.result (c.by_value-item.ensures ∙ ap spec.by_value (c.decode.ensures ∙ ap decoded c.low.ensures)) c.nearer-best.result c.nearer-best.ensures

pub returns : goal.returns
returns c = let a = c.args in
    let e : c.loop-k.k ≡ a.n = omega (arith, c.loop-k-test.false) in
    (c.loop-k.invariant.is ∙ ap (λ (k : ℕ). least (after_name a.s.now a.b.now a.after) (pairs a.b.now a.ent.now (json_of a.s.now a.b.now a.ent.now) a.h k)) e, c.loop-k.invariant.holds)
