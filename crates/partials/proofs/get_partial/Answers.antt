use Rattle.std.specs.Prelude.{Some}
use Rattle.partials.proofs.Searches.{turn_found, turn_outer, turn_none, turn_ready, turn_is}
use Rattle.partials.specs.Finding.{EntryIs}
use Rattle.expand.specs.Answers.{name_of}
use Rattle.scope.specs.declared.Scope.{Scope}
use Rattle.scope.specs.Scopes.{blocks_of}
use Rattle.scope.proofs.NamesLaws.{in_stack}
use Rattle.meaning.specs.Standing.{Stands}
use Rattle.rules.specs.Partial.{get_partial}
use Rattle.rules.specs.Template.{Template}
use Prim.Native.Nat.{ℕ, ◌-◌, ◌≤◌}
use mathlib.Core.Path.{◌≡◌, refl, sym, ap, ◌∙◌, subst}
use mathlib.Core.Option.{Option}
use native.Mathlib.Omega.{arith}
use borrow.Author.Rules.{rules}
use Rattle.partials.proofs.get_partial.Goals as goal

pub loop-i-init : goal.loop-i-init
loop-i-init c = λ t st. refl

pub offset_bounds-scopes-i : goal.offset_bounds-scopes-i
offset_bounds-scopes-i c = omega (arith, c.requires.2)

pub bounds-scopes-i : goal.bounds-scopes-i
bounds-scopes-i c = omega (arith, c.requires.2)

pub get_local_partial-found-requires : goal.get_local_partial-found-requires
get_local_partial-found-requires c = let z = c in
    let a = z.args in
    let h = c.loop-i in
    let here = in_stack a.scopes (h.i - 1) z.well_formed.1.1.1.1.0.1.0.1 (omega (arith, z.requires.2, c.loop-i-test.true)) in
    let f = turn_ready a.s.now a.b.now a.ent.now a.scopes a.used z.requires.3.0 z.requires.3.1 h.i c.loop-i-test.true (omega arith) _ (sym here) in
    (z.requires.0, z.requires.1, z.requires.4, f.0, f.1)

pub returns-in-Some : goal.returns-in-Some
returns-in-Some c = let z = c in
    let a = z.args in
    let h = c.loop-i in
    let n = name_of a.s.now a.b.now a.ent.now a.v in
    let here = in_stack a.scopes (h.i - 1) z.well_formed.1.1.1.1.0.1.0.1 (omega (arith, z.requires.2, c.loop-i-test.true)) in
    λ t st. subst (λ (o : Option Template). EntryIs a.s.now a.b.now a.ent.now o (Some c.in-Some.k)) (h.invariant t st)
    (turn_found a.s.now a.b.now a.ent.now a.scopes a.used z.requires.3.0 z.requires.3.1 h.i c.loop-i-test.true (omega arith) n _
    (turn_is a.s.now a.b.now a.ent.now a.scopes a.used z.requires.3.0 z.requires.3.1 h.i c.loop-i-test.true (omega arith) _ (sym here) n _ _ c.in-Some.is
    (c.get_local_partial-found.ensures t st)))

pub loop-i-preserved-in_default : goal.loop-i-preserved-in_default
loop-i-preserved-in_default c = let z = c in
    let a = z.args in
    let h = c.loop-i in
    let n = name_of a.s.now a.b.now a.ent.now a.v in
    let here = in_stack a.scopes (h.i - 1) z.well_formed.1.1.1.1.0.1.0.1 (omega (arith, z.requires.2, c.loop-i-test.true)) in
    λ t st.
    turn_outer a.s.now a.b.now a.ent.now a.scopes a.used z.requires.3.0 z.requires.3.1 h.i c.loop-i-test.true (omega arith) n
    (turn_is a.s.now a.b.now a.ent.now a.scopes a.used z.requires.3.0 z.requires.3.1 h.i c.loop-i-test.true (omega arith) _ (sym here) n _ _ c.in_default.is
    (c.get_local_partial-found.ensures t st))
    ∙ h.invariant t st

pub loop-i-preserved : goal.loop-i-preserved
loop-i-preserved c = let z = c in
    let a = z.args in
    let h = c.loop-i in
    let n = name_of a.s.now a.b.now a.ent.now a.v in
    let here = in_stack a.scopes (h.i - 1) z.well_formed.1.1.1.1.0.1.0.1 (omega (arith, z.requires.2, c.loop-i-test.true)) in
    λ t st.
    turn_none a.s.now a.b.now a.ent.now a.scopes a.used z.requires.3.0 z.requires.3.1 h.i c.loop-i-test.true (omega arith) n
    (ap (λ (d : Scope). d.count) here ∙ c.if-c-ne0.false)
    ∙ h.invariant t st

pub returns : goal.returns
returns c = let a = c.args in
    let e : c.loop-i.i ≡ 0 = omega (arith, c.loop-i-test.false) in
    λ t st. sym (c.loop-i.invariant t st) ∙ ap (λ (j : ℕ). get_partial (blocks_of a.s.now a.b.now a.ent.now a.scopes j) (name_of a.s.now a.b.now a.ent.now a.v)) e
