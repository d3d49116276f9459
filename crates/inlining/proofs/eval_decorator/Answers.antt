use Rattle.std.specs.Prelude.{Some}
use Prim.Native.Nat.{◌+◌, ◌*◌, ◌-◌, ◌≤◌}
use mathlib.Core.Bool.{Bool}
use mathlib.Core.List.{List}
use mathlib.Core.Path.{sym, ap, ◌∙◌, subst}
use native.Mathlib.Omega.{arith}
use lib.ListN.{length}
use borrow.Author.Tests.{not-true, not-false}
use Rattle.rules.specs.Bits.{bits}
use Rattle.calls.specs.Calls.{call_at}
use Rattle.meaning.specs.Means.{stands_known}
use Rattle.scope.specs.declared.Scope.{Scope}
use Rattle.scope.specs.Standing.{ScopeStands, ScopesStand}
use Rattle.state.specs.Context.{whole}
use Rattle.state.specs.World.{world, top}
use Rattle.inlining.specs.Decorated.{with_body, entries_after, Keepable}
use Rattle.inlining.specs.Rule.{own_stands, at_call, at_indent, at_name, at_none, at_end, some_held, some_keepable, refused_so, kept_so}
use Rattle.inlining.proofs.Fronts.{scopes_same, front_same, worked_so, inlines_so}
use borrow.Author.Rules.{rules}
use Rattle.inlining.proofs.eval_decorator.Goals as goal
use Rattle.error.specs.declared.RenderErrorReason.TheVariants.{DecoratorNotFound, IndentLimit, ParamNotFoundForIndex}

pub try_from_template-w-requires : goal.try_from_template-w-requires
try_from_template-w-requires c = let z = c in
    let a = z.args in
    let w = whole a.rc a.scopes in
    let sized = z.well_formed.1.1.1.1.0.1.0.1 in
    let r = z.requires.3.ready in
    let v = world w z.requires.3.page z.requires.3.texts z.requires.3.indent a.ent.now in (
      z.requires.0,
      z.requires.1,
      omega (arith, r.one),
      r.most,
      record {
        top = top v;
        near = omega (arith, r.enough, r.few);
        stand = subst (λ (k : List Scope). ScopesStand a.s.now a.b.now a.ent.now k a.rc.used (top v)) (scopes_same a.scopes a.rc a.front sized r.most z.requires.2) r.scopes;
      },
      z.requires.5,
    )

pub returns-in-Some : goal.returns-in-Some
returns-in-Some c = let z = c in
    let a = z.args in
    let w = whole a.rc a.scopes in
    let sized = z.well_formed.1.1.1.1.0.1.0.1 in
    let r = z.requires.3.ready in
    let x = c.try_from_template-w in
    let E = worked_so a.scopes a.rc a.front sized r.most z.requires.2 a.s.now a.b.now a.ent.now a.options (call_at a.d (bits a.b.now) a.p) x.result x.ensures in
    refused_so a.s.now a.b.now a.options w _ a.ent.now a.p a.d a.body a.at r.fine _ (c.failed.ensures a.scopes)
    (at_call a.s.now a.b.now a.options w a.ent.now a.p a.d a.body a.at x.result E c.in-Some.e c.in-Some.is)

pub indent_fits-requires : goal.indent_fits-requires
indent_fits-requires c = let z = c in (z.requires.1, own_stands (bits z.args.b.now) z.args.at z.requires.7)

pub returns-then-not-indent_fits : goal.returns-then-not-indent_fits
returns-then-not-indent_fits c = let z = c in
    let a = z.args in
    let w = whole a.rc a.scopes in
    let sized = z.well_formed.1.1.1.1.0.1.0.1 in
    let r = z.requires.3.ready in
    let x = c.try_from_template-w in
    let E = worked_so a.scopes a.rc a.front sized r.most z.requires.2 a.s.now a.b.now a.ent.now a.options (call_at a.d (bits a.b.now) a.p) x.result x.ensures in
    refused_so a.s.now a.b.now a.options w _ a.ent.now a.p a.d a.body a.at r.fine IndentLimit (c.failed-then-not-indent_fits.ensures a.scopes)
    (at_indent a.s.now a.b.now a.options w a.ent.now a.p a.d a.body a.at x.result E c.in_default.is
    (λ g v e h. sym (c.if-not-indent_fits.true) ∙ c.indent_fits.ensures g v e h))

pub is_inline-requires : goal.is_inline-requires
is_inline-requires c = let z = c in
    let a = z.args in
    let w = whole a.rc a.scopes in
    let sized = z.well_formed.1.1.1.1.0.1.0.1 in
    let r = z.requires.3.ready in
    let x = c.try_from_template-w in
    let E = worked_so a.scopes a.rc a.front sized r.most z.requires.2 a.s.now a.b.now a.ent.now a.options (call_at a.d (bits a.b.now) a.p) x.result x.ensures in
    (z.requires.0, z.requires.1, stands_known a.s.now a.b.now a.ent.now _ _ (some_held a.s.now a.b.now a.options w a.ent.now a.p a.d a.body a.at x.result E c.in_default.is z.requires.3).name)

pub returns-then-not-is_inline : goal.returns-then-not-is_inline
returns-then-not-is_inline c = let z = c in
    let a = z.args in
    let w = whole a.rc a.scopes in
    let sized = z.well_formed.1.1.1.1.0.1.0.1 in
    let r = z.requires.3.ready in
    let x = c.try_from_template-w in
    let E = worked_so a.scopes a.rc a.front sized r.most z.requires.2 a.s.now a.b.now a.ent.now a.options (call_at a.d (bits a.b.now) a.p) x.result x.ensures in
    refused_so a.s.now a.b.now a.options w _ a.ent.now a.p a.d a.body a.at r.fine DecoratorNotFound (c.failed-then-not-is_inline.ensures a.scopes)
    (at_name a.s.now a.b.now a.options w a.ent.now a.p a.d a.body a.at x.result E c.in_default.is
    (λ g v e h. sym (c.if-not-indent_fits.false) ∙ c.indent_fits.ensures g v e h)
    (record { at = λ ent t st. sym (c.if-not-is_inline.true) ∙ c.is_inline.ensures.at ent t st }))

pub returns-then-w-eq0 : goal.returns-then-w-eq0
returns-then-w-eq0 c = let z = c in
    let a = z.args in
    let w = whole a.rc a.scopes in
    let sized = z.well_formed.1.1.1.1.0.1.0.1 in
    let r = z.requires.3.ready in
    let x = c.try_from_template-w in
    let E = worked_so a.scopes a.rc a.front sized r.most z.requires.2 a.s.now a.b.now a.ent.now a.options (call_at a.d (bits a.b.now) a.p) x.result x.ensures in
    refused_so a.s.now a.b.now a.options w _ a.ent.now a.p a.d a.body a.at r.fine ParamNotFoundForIndex (c.failed-then-w-eq0.ensures a.scopes)
    (at_none a.s.now a.b.now a.options w a.ent.now a.p a.d a.body a.at x.result E c.in_default.is
    (λ g v e h. sym (c.if-not-indent_fits.false) ∙ c.indent_fits.ensures g v e h)
    (record { at = λ ent t st. sym (c.if-not-is_inline.false) ∙ c.is_inline.ensures.at ent t st }) c.if-w-eq0.true)

pub inline-x-requires : goal.inline-x-requires
inline-x-requires c = let z = c in
    let a = z.args in
    let w = whole a.rc a.scopes in
    let sized = z.well_formed.1.1.1.1.0.1.0.1 in
    let r = z.requires.3.ready in
    let x = c.try_from_template-w in
    let E = worked_so a.scopes a.rc a.front sized r.most z.requires.2 a.s.now a.b.now a.ent.now a.options (call_at a.d (bits a.b.now) a.p) x.result x.ensures in
    let same = front_same a.scopes a.rc a.front sized r.most z.requires.2 in (
      z.requires.0,
      z.requires.1,
      subst (ScopeStands a.s.now a.b.now a.ent.now) same (r.scopes.each (a.rc.used - 1) (omega (arith, r.one))),
      subst (λ (f : Scope). 2 * (f.inline + f.count) ≤ length a.ent.now) same r.scopes.entries,
      some_held a.s.now a.b.now a.options w a.ent.now a.p a.d a.body a.at x.result E c.in_default.is z.requires.3,
    )

pub keep_partial-requires : goal.keep_partial-requires
keep_partial-requires c = let z = c in
    let a = z.args in
    let w = whole a.rc a.scopes in
    let sized = z.well_formed.1.1.1.1.0.1.0.1 in
    let r = z.requires.3.ready in
    let x = c.try_from_template-w in
    let E = worked_so a.scopes a.rc a.front sized r.most z.requires.2 a.s.now a.b.now a.ent.now a.options (call_at a.d (bits a.b.now) a.p) x.result x.ensures in
    let same = front_same a.scopes a.rc a.front sized r.most z.requires.2 in (
      subst (λ (f : Scope). Keepable a.ent.now f a.rc.used a.rc.total c.with_body-y.result) same
          (subst (Keepable a.ent.now _ a.rc.used a.rc.total) (sym (c.with_body-y.ensures ∙ ap (λ (k : Bool). with_body k c.inline-x.result) c.is_at-has.ensures))
          (some_keepable a.s.now a.b.now a.options w a.ent.now a.p a.d a.body a.at x.result E c.in_default.is z.requires.3 z.requires.0.answers z.requires.1 z.requires.4 c.inline-x.result
          (inlines_so a.scopes a.rc a.front sized r.most z.requires.2 a.s.now a.b.now a.ent.now x.result c.inline-x.result _ _ c.is_at-has.ensures c.inline-x.ensures))),
      z.requires.4,
    )

pub returns : goal.returns
returns c = let z = c in
    let a = z.args in
    let w = whole a.rc a.scopes in
    let sized = z.well_formed.1.1.1.1.0.1.0.1 in
    let r = z.requires.3.ready in
    let x = c.try_from_template-w in
    let E = worked_so a.scopes a.rc a.front sized r.most z.requires.2 a.s.now a.b.now a.ent.now a.options (call_at a.d (bits a.b.now) a.p) x.result x.ensures in
    let same = front_same a.scopes a.rc a.front sized r.most z.requires.2 in
    let k = c.keep_partial in
    kept_so a.s.now a.b.now a.options w _ a.ent.now a.p a.d a.body a.at r.fine _ c.place_of.result c.with_body-y.result _
    (c.with_body-y.ensures ∙ ap (λ (k : Bool). with_body k c.inline-x.result) c.is_at-has.ensures) c.place_of.ensures (k.ensures.0 a.scopes sized z.requires.2)
    (k.ensures.1 ∙ ap (λ (f : Scope). entries_after f a.ent.now a.d c.place_of.result c.with_body-y.result) (sym same))
    (at_end a.s.now a.b.now a.options w a.ent.now a.p a.d a.body a.at x.result E c.in_default.is
    (λ g v e h. sym (c.if-not-indent_fits.false) ∙ c.indent_fits.ensures g v e h)
    (record { at = λ ent t st. sym (c.if-not-is_inline.false) ∙ c.is_inline.ensures.at ent t st }) c.if-w-eq0.false z.requires.0.answers z.requires.1 z.requires.4 c.inline-x.result
    (inlines_so a.scopes a.rc a.front sized r.most z.requires.2 a.s.now a.b.now a.ent.now x.result c.inline-x.result _ _ c.is_at-has.ensures c.inline-x.ensures) z.requires.6)
