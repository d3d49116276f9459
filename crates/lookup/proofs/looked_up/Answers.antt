use Rattle.std.specs.Prelude.{Some}
use Prim.Native.Nat.{◌+◌, ◌-◌}
use native.Mathlib.Omega.{arith}
use mathlib.Core.Path.{◌≡◌, ap, sym, ◌∙◌, subst}
use Rattle.rules.specs.HelperLookup.{looked_up}
use Rattle.value.specs.declared.Value.{Value}
use Rattle.meaning.specs.Meaning.{json_of}
use Rattle.lookup.specs.Answers.{Held, Finds}
use Rattle.lookup.specs.Numbers.{numbered_found}
use Rattle.lookup.proofs.Keyed.{literal_held, looked_literal}
use Rattle.lookup.proofs.Numbers.{number_found}
use borrow.Author.Rules.{rules}
use Rattle.lookup.proofs.looked_up.Goals as goal

pub returns-in_default : goal.returns-in_default
returns-in_default c = c.looked_any.ensures

pub keyed_number-r-requires : goal.keyed_number-r-requires
keyed_number-r-requires c = let z = c in
    let a = z.args in
    (z.requires.0, z.requires.1, z.requires.2, literal_held a.s.now a.b.now a.ent.now a.i c.in-Literal.l c.in-Literal.is z.requires.3)

pub looked_any-requires-then-r-eq-NOT_TOLD : goal.looked_any-requires-then-r-eq-NOT_TOLD
looked_any-requires-then-r-eq-NOT_TOLD c = let z = c in
    let a = z.args in
    (z.requires.0, z.requires.1, z.requires.2, subst (Held a.s.now a.b.now a.ent.now) c.in-Literal.is z.requires.3)

pub returns-then-r-eq-NOT_TOLD : goal.returns-then-r-eq-NOT_TOLD
returns-then-r-eq-NOT_TOLD c = let a = c.args in
    subst (λ (j : Value). Finds a.s.now a.b.now a.ent.now a.v (looked_up (json_of a.s.now a.b.now a.ent.now a.v) (json_of a.s.now a.b.now a.ent.now j)) c.looked_any-then-r-eq-NOT_TOLD.result) (sym c.in-Literal.is) c.looked_any-then-r-eq-NOT_TOLD.ensures

pub returns-then-r-eq-NOTHING : goal.returns-then-r-eq-NOTHING
returns-then-r-eq-NOTHING c = let a = c.args in
    looked_literal a.s.now a.b.now a.ent.now a.v a.i c.in-Literal.l c.in-Literal.is c.keyed_number-r.result c.keyed_number-r.ensures c.if-r-eq-NOT_TOLD.false _ (ap numbered_found (sym c.if-r-eq-NOTHING.true))

pub overflow_sub-r : goal.overflow_sub-r
overflow_sub-r c = omega (arith, c.if-r-eq-NOT_TOLD.false, c.if-r-eq-NOTHING.false)

pub overflow_cast-r : goal.overflow_cast-r
overflow_cast-r c = omega (arith, c.keyed_number-r.ensures.small)

pub returns : goal.returns
returns c = let a = c.args in
    let r = c.keyed_number-r.result in
    let e : r ≡ 2 + (r - 2) = omega (arith, c.if-r-eq-NOT_TOLD.false, c.if-r-eq-NOTHING.false) in
    looked_literal a.s.now a.b.now a.ent.now a.v a.i c.in-Literal.l c.in-Literal.is r c.keyed_number-r.ensures c.if-r-eq-NOT_TOLD.false _ (ap Some c.decode.ensures ∙ number_found r (r - 2) e)
