use Rattle.plan_read.proofs.Opens.{refused_most, scalar_goes}
use Rattle.plan_read.proofs.Values.{leaf_met, leaf_none, reading}
use borrow.Author.Rules.{rules}
use lib.ListN.{set}
use mathlib.Core.Path.{◌∙◌, ap, refl, sym}
use native.Mathlib.Omega.{arith}
use Rattle.plan_read.proofs.read_leaf.Goals as goal

pub returns-then-e-eq-NOTHING : goal.returns-then-e-eq-NOTHING
returns-then-e-eq-NOTHING c = let a = c.args in
    leaf_none a.s.now a.i a.name a.n a.bad a.tab.now (reading 0 a.n a.bad) a.tab.now (sym c.scalar_end-e.ensures ∙ c.if-e-eq-NOTHING.true) refl

pub entry_of-requires : goal.entry_of-requires
entry_of-requires c = let g = scalar_goes c.args.s.now c.args.i c.requires.0 in
    let o = g.on (λ z. c.if-e-eq-NOTHING.false (c.scalar_end-e.ensures ∙ z)) in
    omega (arith, g.within)

pub overflow_add-result-2 : goal.overflow_add-result-2
overflow_add-result-2 c = omega (arith, c.refused_at-b.ensures, refused_most c.args.s.now c.args.i)

pub returns : goal.returns
returns c = let a = c.args in
    leaf_met a.s.now a.i a.name a.n a.bad a.tab.now c.scalar_end-e.result c.refused_at-b.result c.put.new.tab
    c.scalar_end-e.ensures c.if-e-eq-NOTHING.false c.refused_at-b.ensures c.requires.0 (c.put.ensures ∙ ap (set a.tab.now a.n) c.entry_of.ensures)
