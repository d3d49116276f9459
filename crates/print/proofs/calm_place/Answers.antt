use Prim.Native.Nat.{ℕ}
use mathlib.Core.Path.{◌∙◌, ap, sym}
use native.Mathlib.Omega.{arith}
use borrow.Author.Rules.{rules}
use borrow.Author.Tests.{eq-eqb}
use Rattle.rules.specs.Scan.{whole_end}
use Rattle.scan.proofs.Bounds.{minus_near}
use Rattle.places.specs.Nodes.{short}
use Rattle.print.specs.declared.Span.{Span}
use Rattle.print.specs.Span.{calm_at}
use Rattle.print.proofs.Calm.{calm_number}
use Rattle.print.proofs.calm_place.Goals as goal

pub returns-then-byte-eq34 : goal.returns-then-byte-eq34
unfolding calm_at
returns-then-byte-eq34 c = rw (← c.start-q.ensures.0, ← c.byte.ensures, eq-eqb c.byte.result 34 c.if-byte-eq34.true) c.calm_string.ensures

pub minus_end-requires : goal.minus_end-requires
minus_end-requires c = let z = c in omega (arith, c.start-q.ensures.1, short z.args.s.now z.requires.0.answers)

pub whole_end-e-requires : goal.whole_end-e-requires
whole_end-e-requires c = let z = c in
    let q = c.start-q in
    omega (arith, q.ensures.1, short z.args.s.now z.requires.0.answers, c.minus_end.ensures, minus_near z.args.s.now q.result)

pub returns : goal.returns
returns c = let s = c.args.s.now in
    let q = c.start-q in
    ap {B = Span} (λ (x : ℕ). record { start = q.result; end = x }) (c.whole_end-e.ensures ∙ ap (whole_end s) c.minus_end.ensures)
    ∙ sym (calm_number s q.result (λ z. c.if-byte-eq34.false (c.byte.ensures ∙ z))) ∙ ap (calm_at s) q.ensures.0
