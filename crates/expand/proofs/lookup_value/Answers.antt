use native.Mathlib.Omega.{arith}
use mathlib.Core.Path.{subst}
use Rattle.lookup.specs.Answers.{Finds}
use Rattle.expand.proofs.Calling.{lookup_few, lookup_found, lookup_nothing}
use borrow.Author.Rules.{rules}
use Rattle.expand.proofs.lookup_value.Goals as goal

pub returns-then-w-lt2 : goal.returns-then-w-lt2
returns-then-w-lt2 c = let z = c in λ g st t e A E. lookup_few z.args.s.now z.args.b.now z.args.ent.now t z.args.used z.args.options z.args.w g st e A E c.if-w-lt2.true

pub looked_up-found-requires : goal.looked_up-found-requires
looked_up-found-requires c = let z = c in (z.requires.0, z.requires.1, record { used = z.requires.2.used; room = z.requires.2.room; stands = z.requires.2.first }, record { used = z.requires.2.used; room = z.requires.2.room; stands = z.requires.2.second })

pub returns-in-Some : goal.returns-in-Some
returns-in-Some c = let z = c in λ g st t e A E. lookup_found z.args.s.now z.args.b.now z.args.ent.now t z.args.used z.args.options z.args.w g st e A E (λ lt. absurd (omega (arith, lt, c.if-w-lt2.false))) _ (subst (Finds z.args.s.now z.args.b.now z.args.ent.now z.args.w.first _) c.in-Some.is c.looked_up-found.ensures) c.present.result c.present.ensures

pub returns-in-None : goal.returns-in-None
returns-in-None c = let z = c in λ g st t e A E. lookup_nothing z.args.s.now z.args.b.now z.args.ent.now t z.args.used z.args.options z.args.w g st e A E (λ lt. absurd (omega (arith, lt, c.if-w-lt2.false))) (subst (Finds z.args.s.now z.args.b.now z.args.ent.now z.args.w.first _) c.in-None.is c.looked_up-found.ensures) c.unless_strict.result c.unless_strict.ensures
