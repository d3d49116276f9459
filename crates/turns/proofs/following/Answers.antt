use Rattle.turns.proofs.Stepping.{following_next, following_first}
use Rattle.turns.specs.Turning.{ItemBefore}
use Rattle.places.specs.Kinds.{FoundIn}
use mathlib.Core.Path.{subst}
use borrow.Author.Rules.{rules}
use Rattle.turns.proofs.following.Goals as goal

pub next-requires : goal.next-requires
next-requires c = (c.requires.0, c.requires.1, subst (FoundIn c.args.s.now) c.in-Some.is c.requires.2)

pub first-requires : goal.first-requires
first-requires c = (c.requires.0, c.requires.1)

pub returns-in-Some : goal.returns-in-Some
returns-in-Some c = following_next c.args.s.now c.args.i c.args.k _ (subst (ItemBefore c.args.s.now c.args.i c.args.k) c.in-Some.is c.requires.3) c.next.result c.next.ensures.0

pub returns-in-None : goal.returns-in-None
returns-in-None c = following_first c.args.s.now c.args.i c.args.k (subst (ItemBefore c.args.s.now c.args.i c.args.k) c.in-None.is c.requires.3) c.first.result c.first.ensures
