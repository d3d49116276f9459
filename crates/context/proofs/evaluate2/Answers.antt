use mathlib.Core.Path.{sym, subst}
use lib.ListN.{get_or}
use Rattle.scope.specs.Scopes.{blank}
use Rattle.scope.specs.NameBits.{covers_full}
use Rattle.context.specs.Evaluated.{Evaluates}
use Rattle.context.proofs.evaluate2.Goals as goal

pub evaluate_far-requires : goal.evaluate_far-requires
evaluate_far-requires c = let z = c in (z.requires.0, z.requires.1, z.requires.2, z.requires.3, z.requires.4, z.requires.5, λ i lt. covers_full z.args.b.now z.args.ent.now (get_or z.args.scopes i blank))

pub returns : goal.returns
returns c = let a = c.args in λ g st t hp hr hb S. subst (Evaluates a.s.now a.b.now a.ent.now t _) (sym c.answer_of.ensures) (c.evaluate_far.ensures.1 g st t hp hr hb S)
