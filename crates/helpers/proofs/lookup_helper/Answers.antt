use mathlib.Core.Path.{subst}
use Rattle.lookup.specs.Answers.{Finds}
use Rattle.helpers.proofs.Deciding.{lookup_few, lookup_found, lookup_nothing}
use Rattle.helpers.specs.Does.{given}
use borrow.Author.Rules.{rules}
use Rattle.helpers.proofs.lookup_helper.Goals as goal

pub returns-then-count-lt2 : goal.returns-then-count-lt2
returns-then-count-lt2 c = let z = c in λ used _ _ n y x g st t e ns T I G E ht hi. lookup_few z.args.s.now z.args.b.now z.args.ent.now t used z.args.options (given n z.args.count z.args.v z.args.i y x) g st e ns T I G E c.if-count-lt2.true

pub returns-in_default : goal.returns-in_default
returns-in_default c = let z = c in λ used _ _ n y x g st t e ns T I G E ht hi. lookup_nothing z.args.s.now z.args.b.now z.args.ent.now t used z.args.options (given n z.args.count z.args.v z.args.i y x) g st e ns T I G E c.if-count-lt2.false (subst (Finds z.args.s.now z.args.b.now z.args.ent.now z.args.v _) c.in_default.is c.looked_up.ensures) c.unless_strict.result c.unless_strict.ensures

pub returns : goal.returns
returns c = let z = c in λ used _ _ n y x g st t e ns T I G E ht hi. lookup_found z.args.s.now z.args.b.now z.args.ent.now t used z.args.options (given n z.args.count z.args.v z.args.i y x) g st e ns T I G E c.if-count-lt2.false _ (subst (Finds z.args.s.now z.args.b.now z.args.ent.now z.args.v _) c.in-Some.is c.looked_up.ensures)
