use mathlib.Core.Path.{◌∙◌, ◌≡◌, ap, refl, subst, sym}
use lib.ListN.{length}
use Rattle.rules.specs.Bytes.{Bytes}
use Rattle.saying.specs.Said.{remaining, Inside, Stepped}
use Rattle.output.specs.Writer.{output}
use Rattle.print.specs.Printed.{printed, printed_cons, printed_none}
use Rattle.print.proofs.Said.{part_in, part_inside, part_less, part_printed}
use borrow.Author.Rules.{rules}
use Rattle.print.proofs.write_said.Goals as goal

pub loop-c-init : goal.loop-c-init
loop-c-init c = (c.requires.1, refl, refl)

pub write_part-q-requires : goal.write_part-q-requires
write_part-q-requires c = let a = c.args in
    let l = c.loop-c in
    let e = c.own_end-e in
    part_in a.s.now l.i e.result e.ensures

pub next_byte-requires : goal.next_byte-requires
next_byte-requires c = let a = c.args in
    let l = c.loop-c in
    let e = c.own_end-e in
    (c.requires.0, part_inside a.s.now l.i e.result e.ensures l.j c.requires.0 l.invariant.0)

pub shape_of-out-in_default : goal.shape_of-out-in_default
shape_of-out-in_default c = let a = c.args in
    let l = c.loop-c in
    let e = c.own_end-e in
    let w = c.write_part-q in
    w.auto.out ∙ l.invariant.1

pub returns-in_default : goal.returns-in_default
returns-in_default c = let a = c.args in
    let l = c.loop-c in
    let e = c.own_end-e in
    let w = c.write_part-q in
    let o = output w.result w.new.out in
    let z = subst (Stepped a.s.now (remaining a.s.now e.result l.j)) c.in_default.is c.next_byte.ensures in
    sym (printed_none a.indent.now a.escape o)
    ∙ ap (λ (x : Bytes). printed a.indent.now a.escape x o) (sym z)
    ∙ part_printed a.s.now l.i e.result e.ensures l.j c.requires.0 l.invariant.0 a.indent.now a.escape (output l.q l.out) o w.ensures
    ∙ l.invariant.2

pub loop-c-smaller : goal.loop-c-smaller
loop-c-smaller c = let a = c.args in
    let l = c.loop-c in
    let e = c.own_end-e in
    let z = subst (Stepped a.s.now (remaining a.s.now e.result l.j)) c.in-Some.is c.next_byte.ensures in
    part_less a.s.now l.i e.result e.ensures l.j c.requires.0 l.invariant.0 _ _ z.0

pub loop-c-preserved : goal.loop-c-preserved
loop-c-preserved c = let a = c.args in
    let l = c.loop-c in
    let e = c.own_end-e in
    let w = c.write_part-q in
    let z = subst (Stepped a.s.now (remaining a.s.now e.result l.j)) c.in-Some.is c.next_byte.ensures in
    let f = c.feed_escaped-q in
    let o = output w.result w.new.out in
    let r = remaining a.s.now c.in-Some.p.at c.in-Some.p.k in (
      z.1,
      f.auto.out ∙ w.auto.out ∙ l.invariant.1,
      ap (printed a.indent.now a.escape r) f.ensures ∙ sym (printed_cons a.indent.now a.escape c.in-Some.c r o)
          ∙ ap (λ (x : Bytes). printed a.indent.now a.escape x o) (sym z.0)
          ∙ part_printed a.s.now l.i e.result e.ensures l.j c.requires.0 l.invariant.0 a.indent.now a.escape (output l.q l.out) o w.ensures
          ∙ l.invariant.2,
    )
