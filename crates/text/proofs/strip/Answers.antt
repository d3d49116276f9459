use Rattle.rules.specs.Bytes.{Bytes}
use Rattle.text.specs.Laws.{strip_none, strip_on, strip_other, strip_short}
use Rattle.text.specs.Rest.{Stepped, rest}
use Rattle.text.specs.Strip.{stripped}
use mathlib.Core.List.{[]}
use mathlib.Core.Path.{◌∙◌, ◌≡◌, ap, ap₂, subst}
use Rattle.text.proofs.strip.Goals as goal

pub returns-in_err-c : goal.returns-in_err-c
returns-in_err-c c = let a = c.args in
    let l = c.loop-d in
    let y = subst (λ z. Stepped a.s.now a.b.now l.y z) c.in-Some.is c.next.ensures in
    let x : rest a.s.now a.b.now l.u ≡ [] = c.in_err-c.ensures in
    rw c.from_residual.ensures (l.invariant.2 ∙ ap₂ stripped y.0 x ∙ strip_short c.in-Some.d (rest a.s.now a.b.now c.in-Some.z))

pub returns-then-c-d : goal.returns-then-c-d
returns-then-c-d c = let a = c.args in
    let l = c.loop-d in
    let y = subst (λ z. Stepped a.s.now a.b.now l.y z) c.in-Some.is c.next.ensures in
    let o = c.in_ok-c in
    let x = o.ensures in
    l.invariant.2 ∙ ap₂ stripped y.0 x.0
    ∙ strip_other c.in-Some.d o.c (rest a.s.now a.b.now c.in-Some.z) (rest a.s.now a.b.now o.v) c.if-c-d.true

pub loop-d-preserved : goal.loop-d-preserved
loop-d-preserved c = let a = c.args in
    let l = c.loop-d in
    let y = subst (λ z. Stepped a.s.now a.b.now l.y z) c.in-Some.is c.next.ensures in
    let o = c.in_ok-c in
    let x = o.ensures in (
      x.1,
      y.1,
      l.invariant.2 ∙ ap₂ stripped y.0 x.0
          ∙ strip_on c.in-Some.d o.c (rest a.s.now a.b.now c.in-Some.z) (rest a.s.now a.b.now o.v) c.if-c-d.false,
    )

pub returns : goal.returns
returns c = let a = c.args in
    let l = c.loop-d in
    let y = subst (λ z. Stepped a.s.now a.b.now l.y z) c.in_default.is c.next.ensures in
    let r = rest a.s.now a.b.now l.u in
    (l.invariant.2 ∙ ap (λ (z : Bytes). stripped z r) y ∙ strip_none r, l.invariant.0)
