use Rattle.rules.specs.Bytes.{Bytes}
use Rattle.text.specs.Laws.{strip_none, strip_on, strip_other, strip_short}
use Rattle.text.specs.Strip.{stripped}
use borrow.Author.Rules.{rules}
use lib.ListN.{length}
use mathlib.Core.List.{[]}
use mathlib.Core.Path.{◌∙◌, ◌≡◌, ap, ap₂, refl, subst, sym}
use native.Mathlib.Omega.{arith}
use Rattle.print.specs.Target as target
use Rattle.text.specs.Rest as text
use Rattle.print.proofs.strip_text.Goals as goal

pub loop-d-init : goal.loop-d-init
loop-d-init c = (c.requires.1, c.requires.2, refl)

pub next-requires : goal.next-requires
next-requires c = (c.requires.0, c.loop-d.invariant.1)

pub front-requires : goal.front-requires
front-requires c = (c.requires.0, c.loop-d.invariant.0)

pub returns-in_err-c : goal.returns-in_err-c
returns-in_err-c c = let a = c.args in
    let l = c.loop-d in
    let y = subst (text.Stepped a.s.now a.b.now l.y) c.in-Some.is c.next.ensures in
    let x : target.rest a.s.now a.b.now a.w.now l.u ≡ [] = c.in_err-c.ensures in
    rw c.from_residual.ensures (record { is = sym (l.invariant.2 ∙ ap₂ stripped y.0 x ∙ strip_short c.in-Some.d (text.rest a.s.now a.b.now c.in-Some.z)); stands = tt })

pub returns-then-c-d : goal.returns-then-c-d
returns-then-c-d c = let a = c.args in
    let l = c.loop-d in
    let y = subst (text.Stepped a.s.now a.b.now l.y) c.in-Some.is c.next.ensures in
    let o = c.in_ok-c in
    let x = o.ensures in
    record {
      is = sym (l.invariant.2 ∙ ap₂ stripped y.0 x.0 ∙ strip_other c.in-Some.d o.c (text.rest a.s.now a.b.now c.in-Some.z) (target.rest a.s.now a.b.now a.w.now o.x) c.if-c-d.true);
      stands = tt;
    }

pub loop-d-smaller : goal.loop-d-smaller
loop-d-smaller c = let a = c.args in
    let y = subst (text.Stepped a.s.now a.b.now c.loop-d.y) c.in-Some.is c.next.ensures in
    omega (arith, ap length y.0)

pub loop-d-preserved : goal.loop-d-preserved
loop-d-preserved c = let a = c.args in
    let l = c.loop-d in
    let y = subst (text.Stepped a.s.now a.b.now l.y) c.in-Some.is c.next.ensures in
    let o = c.in_ok-c in
    let x = o.ensures in (
      x.1,
      y.1,
      l.invariant.2 ∙ ap₂ stripped y.0 x.0 ∙ strip_on c.in-Some.d o.c (text.rest a.s.now a.b.now c.in-Some.z) (target.rest a.s.now a.b.now a.w.now o.x) c.if-c-d.false,
    )

pub returns : goal.returns
returns c = let a = c.args in
    let l = c.loop-d in
    let y = subst (text.Stepped a.s.now a.b.now l.y) c.in_default.is c.next.ensures in
    let r = target.rest a.s.now a.b.now a.w.now l.u in
    record { is = sym (l.invariant.2 ∙ ap (λ (z : Bytes). stripped z r) y ∙ strip_none r); stands = l.invariant.0 }
