use Rattle.output.specs.Writer.{output}
use Rattle.print.specs.Printed.{printed, printed_cons, printed_none}
use Rattle.rules.specs.Bytes.{Bytes}
use Rattle.text.specs.Rest.{Stands, Stepped, rest}
use borrow.Author.Rules.{rules}
use lib.ListN.{length}
use mathlib.Core.Path.{◌∙◌, ◌≡◌, ap, refl, subst, sym}
use native.Mathlib.Omega.{arith}
use Rattle.print.proofs.write_steps.Goals as goal

pub loop-c-init : goal.loop-c-init
loop-c-init c = (c.requires.1, refl, refl)

pub next-requires : goal.next-requires
next-requires c = (c.requires.0, c.loop-c.invariant.0)

pub shape_of-out : goal.shape_of-out
shape_of-out c = c.loop-c.invariant.1

pub returns : goal.returns
returns c = let a = c.args in
    let l = c.loop-c in
    let e = subst (Stepped a.s.now a.b.now l.u) c.in_default.is c.next.ensures in
    sym (printed_none a.indent.now a.escape (output l.q l.out)) ∙ ap (λ (x : Bytes). printed a.indent.now a.escape x (output l.q l.out)) (sym e) ∙ l.invariant.2

pub loop-c-smaller : goal.loop-c-smaller
loop-c-smaller c = let a = c.args in
    let e = subst (Stepped a.s.now a.b.now c.loop-c.u) c.in-Some.is c.next.ensures in
    omega (arith, ap length e.0)

pub loop-c-preserved : goal.loop-c-preserved
loop-c-preserved c = let a = c.args in
    let l = c.loop-c in
    let f = c.feed_escaped-q in
    let o = output l.q l.out in
    let r = rest a.s.now a.b.now c.in-Some.v in
    let e = subst (Stepped a.s.now a.b.now l.u) c.in-Some.is c.next.ensures in (
      e.1,
      f.auto.out ∙ l.invariant.1,
      ap (printed a.indent.now a.escape r) f.ensures ∙ sym (printed_cons a.indent.now a.escape c.in-Some.c r o)
          ∙ ap (λ (x : Bytes). printed a.indent.now a.escape x o) (sym e.0) ∙ l.invariant.2,
    )
