use Rattle.places.proofs.Walking.{not_better, better_by, alone_better}
use Rattle.places.specs.Kinds.{FoundIn, found_name}
use mathlib.Core.Path.{subst}
use Rattle.places.proofs.Fields.{index}
use native.Mathlib.Omega.{arith}
use borrow.Author.Rules.{rules}
use Rattle.places.proofs.is_better.Goals as goal

pub returns-in_default : goal.returns-in_default
returns-in_default c = let z = c in
    alone_better z.args.s.now (found_name z.args.s.now z.args.after) z.args.best z.args.c c.is_above.result c.in_default.is c.is_above.ensures

pub name-requires : goal.name-requires
name-requires c = (c.requires.0, subst (FoundIn c.args.s.now) c.in-Some.is c.requires.2)

pub is_before-requires : goal.is_before-requires
is_before-requires c = let z = c in
    let x = index z.args.s.now z.args.tab.now z.requires.0 z.args.c z.requires.3 in
    (x.text, omega (arith, c.name.ensures.1, x.text), omega (arith, c.name-2.ensures.1, x.text))

pub returns-then-is_before : goal.returns-then-is_before
returns-then-is_before c = let z = c in
    not_better z.args.s.now _ z.args.c c.name.result c.name-2.result c.is_before.result c.is_before.ensures c.name.ensures.0 c.name-2.ensures.0 (found_name z.args.s.now z.args.after) z.args.best c.in-Some.is c.if-is_before.true

pub returns : goal.returns
returns c = let z = c in
    better_by z.args.s.now _ z.args.c c.name.result c.name-2.result c.is_before.result c.is_before.ensures c.name.ensures.0 c.name-2.ensures.0 (found_name z.args.s.now z.args.after) z.args.best c.is_above-2.result c.in-Some.is c.if-is_before.false c.is_above-2.ensures
