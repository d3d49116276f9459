use Rattle.places.proofs.Walking.{above_by}
use Rattle.places.specs.Kinds.{FoundIn, found_name}
use Rattle.places.specs.Places.{name_at, above}
use mathlib.Core.Path.{◌∙◌, ap, sym, subst}
use Rattle.places.proofs.Fields.{index}
use native.Mathlib.Omega.{arith}
use borrow.Author.Rules.{rules}
use Rattle.places.proofs.is_above.Goals as goal

pub name-requires : goal.name-requires
name-requires c = (c.requires.0, subst (FoundIn c.args.s.now) c.in-Some.is c.requires.1)

pub name-requires-in-Some : goal.name-requires-in-Some
name-requires-in-Some c = (c.requires.0, c.requires.2)

pub is_before-requires : goal.is_before-requires
is_before-requires c = let x = index c.args.s.now c.args.tab.now c.requires.0 c.args.c c.requires.2 in
    (x.text, omega (arith, c.name.ensures.1, x.text), omega (arith, c.name-in-Some.ensures.1, x.text))

pub returns-in-Some : goal.returns-in-Some
returns-in-Some c = above_by c.args.s.now _ c.args.c c.name.result c.name-in-Some.result c.is_before.result c.is_before.ensures c.name.ensures.0 c.name-in-Some.ensures.0 c.args.after c.in-Some.is

pub returns-in-None : goal.returns-in-None
returns-in-None c = ap (λ x. above (found_name c.args.s.now x) (name_at c.args.s.now c.args.c)) (sym c.in-None.is)
