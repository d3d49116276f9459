use Rattle.std.specs.Prelude.{Option as RustOption}
use Rattle.rules.specs.Bytes.{Bytes}
use borrow.Author.Rules.{rules}
use mathlib.Core.Option.{some}
use mathlib.Core.Path.{◌∙◌, ap, subst, sym}
use Rattle.print.specs.Target as target
use Rattle.print.proofs.all_met.Goals as goal
use Rattle.print.specs.declared.Target.{Target}

pub returns-in_default : goal.returns-in_default
returns-in_default c = let a = c.args in sym (ap (λ (x : RustOption Target). target.met (target.left a.s.now a.b.now a.w.now x)) c.in_default.is)

pub front-requires : goal.front-requires
front-requires c = let a = c.args in (c.requires.0, subst (target.LeftStands a.s.now a.b.now a.w.now) c.in-Some.is c.requires.1)

pub returns-in-Some-front : goal.returns-in-Some-front
returns-in-Some-front c = let a = c.args in
    let e = subst (target.Stepped a.s.now a.b.now a.w.now c.in-Some.g) c.in-Some-front.is c.front.ensures in
    sym (ap (λ (x : RustOption Target). target.met (target.left a.s.now a.b.now a.w.now x)) c.in-Some.is ∙ ap (λ (y : Bytes). target.met (some y)) e.0)

pub returns-in-None : goal.returns-in-None
returns-in-None c = let a = c.args in
    let e = subst (target.Stepped a.s.now a.b.now a.w.now c.in-Some.g) c.in-None.is c.front.ensures in
    sym (ap (λ (x : RustOption Target). target.met (target.left a.s.now a.b.now a.w.now x)) c.in-Some.is ∙ ap (λ (y : Bytes). target.met (some y)) e)
