use Rattle.std.specs.Prelude.{None}
use Rattle.std.proofs.lemmas.Option.{none-some}
use mathlib.Core.Path.{sym, ◌∙◌, subst}
use Rattle.expand.specs.Answers.{Finishes}
use Rattle.expand.proofs.Parts.{finished_bad, finished_called}
use Rattle.expand.proofs.finished.Goals as goal

pub called-requires : goal.called-requires
called-requires c = let z = c in (z.requires.0, z.requires.1, z.requires.2 c.in-None.is)

pub returns-in-None : goal.returns-in-None
returns-in-None c = let z = c in finished_called z.args.s.now z.args.b.now z.args.ent.now z.args.used z.args.options z.args.w c.in-None.is c.called.result c.called.ensures

pub returns-in-Some : goal.returns-in-Some
returns-in-Some c = let z = c in finished_bad z.args.s.now z.args.b.now z.args.ent.now z.args.used z.args.options z.args.w c.in-Some.e c.in-Some.is
