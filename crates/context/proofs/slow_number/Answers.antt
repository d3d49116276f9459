use mathlib.Core.Path.{sym, subst}
use Rattle.context.specs.Evaluated.{Walked}
use Rattle.context.proofs.Evaluating.{evaluated_fits}
use Rattle.context.proofs.slow_number.Goals as goal

pub slowly-requires : goal.slowly-requires
slowly-requires c = let z = c.requires in (z.0, z.1, z.2, z.3)

pub number_of-requires : goal.number_of-requires
number_of-requires c = let a = c.args in
    let z = c.requires in
    let N = z.4 in
    evaluated_fits a.s.now a.b.now a.ent.now N.top z.0.answers z.1 N.near _ c.slowly.result (c.slowly.ensures N.top N.stands N.present)

pub returns : goal.returns
returns c = let a = c.args in
    (c.number_of.ensures.0, subst (Walked a.s.now a.b.now a.ent.now _ a.p a.n) (sym c.number_of.ensures.1) c.slowly.ensures)
