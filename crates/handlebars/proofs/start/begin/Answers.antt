use native.Mathlib.Omega.{arith}
use mathlib.Core.Path.{sym, ◌∙◌}
use Rattle.registry.specs.Templates.{accepted_holds}
use Rattle.layout.specs.Verdict.{verdict_is}
use Rattle.handlebars.specs.Begins.{refused_at, filled}
use borrow.Author.Rules.{rules}
use Rattle.handlebars.proofs.start.begin.Goals as goal

pub check_indexed-requires : goal.check_indexed-requires
check_indexed-requires c = omega (arith, c.requires)

pub find-requires : goal.find-requires
find-requires c = accepted_holds c.args.b.now (sym (verdict_is _ _ c.check_indexed.ensures.0) ∙ c.in-Ok.is)

pub shape_of-index-in-Ok : goal.shape_of-index-in-Ok
shape_of-index-in-Ok c = c.check_indexed.ensures.1

pub returns-in-Ok : goal.returns-in-Ok
returns-in-Ok c = let z = c in (c.find.ensures, filled z.args.b.now z.args.index.now z.requires _ c.check_indexed.ensures.1 _ (verdict_is _ _ c.check_indexed.ensures.0) c.check_indexed.ensures.2 c.check_indexed.ensures.3)

pub shape_of-index-in-Err : goal.shape_of-index-in-Err
shape_of-index-in-Err c = c.check_indexed.ensures.1

pub returns-in-Err : goal.returns-in-Err
returns-in-Err c = let z = c in (refused_at z.args.b.now z.args.start.now z.args.options c.in-Err.e (sym (verdict_is _ _ c.check_indexed.ensures.0) ∙ c.in-Err.is) _ (c.from-in-Err.ensures ∙ c.from.ensures), filled z.args.b.now z.args.index.now z.requires _ c.check_indexed.ensures.1 _ (verdict_is _ _ c.check_indexed.ensures.0) c.check_indexed.ensures.2 c.check_indexed.ensures.3)
