use mathlib.Core.Path.{sym, subst}
use Rattle.value.specs.declared.Value.{Value}
use Rattle.lookup.specs.Answers.{Held}
use Rattle.context.specs.Evaluated.{Walked}
use Rattle.context.proofs.slowly.Goals as goal

pub walk-requires : goal.walk-requires
walk-requires c = let z = c in
    let a = z.args in
    (z.requires.0, z.requires.1, subst (Held a.s.now a.b.now a.ent.now) (sym c.decode.ensures) z.requires.2, z.requires.3)

pub returns : goal.returns
returns c = let a = c.args in
    subst (λ (v : Value). Walked a.s.now a.b.now a.ent.now v a.p a.n c.walk.result) c.decode.ensures c.walk.ensures
