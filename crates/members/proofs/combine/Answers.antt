use Rattle.members.proofs.Nearing.{combined_only, combined_inner, combined_outer}
use Rattle.members.specs.Next.{combined, Keyed}
use mathlib.Core.Path.{◌∙◌, ap, sym, subst}
use borrow.Author.Rules.{rules}
use Rattle.members.proofs.combine.Goals as goal

pub returns-in_default : goal.returns-in_default
returns-in_default c = sym (ap (λ m. combined c.args.s.now c.args.b.now m c.args.inner) c.in_default.is)

pub returns-in_default-inner : goal.returns-in_default-inner
returns-in_default-inner c = c.in-Some.is ∙ combined_only c.args.s.now c.args.b.now c.args.outer c.args.inner _ _ c.in-Some.is c.in_default-inner.is

pub is_before-requires : goal.is_before-requires
is_before-requires c = let a = c.args in
    let p = c.requires in
    (p.0, p.1, subst (Keyed a.s.now a.b.now) c.in-Some-inner.is p.3, subst (Keyed a.s.now a.b.now) c.in-Some.is p.2)

pub returns-then-is_before : goal.returns-then-is_before
returns-then-is_before c = c.in-Some-inner.is ∙ combined_inner c.args.s.now c.args.b.now c.args.outer c.args.inner _ _ _ _ c.in-Some.is c.in-Some-inner.is (sym c.is_before.ensures ∙ c.if-is_before.true)

pub returns : goal.returns
returns c = c.in-Some.is ∙ combined_outer c.args.s.now c.args.b.now c.args.outer c.args.inner _ _ _ _ c.in-Some.is c.in-Some-inner.is (sym c.is_before.ensures ∙ c.if-is_before.false)
