use Rattle.std.specs.Prelude.{None}
use mathlib.Core.Bool.{false}
use Rattle.meaning.specs.Means.{stands_known}
use Rattle.helpers.specs.Does.{given}
use Rattle.helpers.proofs.Deciding.{by_each, by_with, by_if, by_unless, by_lookup, by_none}
use borrow.Author.Rules.{rules}
use Rattle.helpers.proofs.call_two.Goals as goal

pub each_helper-requires : goal.each_helper-requires
each_helper-requires c = let z = c in (z.requires.0, z.requires.1, stands_known z.args.s.now z.args.b.now z.args.ent.now _ _ z.requires.2.stands)

pub with_helper-requires : goal.with_helper-requires
with_helper-requires c = let z = c in (z.requires.0, z.requires.1, stands_known z.args.s.now z.args.b.now z.args.ent.now _ _ z.requires.2.stands)

pub if_helper-requires : goal.if_helper-requires
if_helper-requires c = let z = c in (z.requires.0, z.requires.1, stands_known z.args.s.now z.args.b.now z.args.ent.now _ _ z.requires.2.stands)

pub if_helper-requires-in-Unless : goal.if_helper-requires-in-Unless
if_helper-requires-in-Unless c = let z = c in (z.requires.0, z.requires.1, stands_known z.args.s.now z.args.b.now z.args.ent.now _ _ z.requires.2.stands)

pub returns-in-Each : goal.returns-in-Each
returns-in-Each c = let z = c in λ n. by_each z.args.s.now z.args.b.now z.args.ent.now z.args.used z.args.options z.args.h (given n 2 z.args.v z.args.i false None) z.args.has_template z.args.has_inverse c.in-Each.is c.each_helper.result (c.each_helper.ensures z.args.ent.now n z.args.i false None)

pub returns-in-With : goal.returns-in-With
returns-in-With c = let z = c in λ n. by_with z.args.s.now z.args.b.now z.args.ent.now z.args.used z.args.options z.args.h (given n 2 z.args.v z.args.i false None) z.args.has_template z.args.has_inverse c.in-With.is c.with_helper.result (c.with_helper.ensures z.args.ent.now n z.args.i false None)

pub returns-in-If : goal.returns-in-If
returns-in-If c = let z = c in λ n. by_if z.args.s.now z.args.b.now z.args.ent.now z.args.used z.args.options z.args.h (given n 2 z.args.v z.args.i false None) z.args.has_template z.args.has_inverse c.in-If.is c.if_helper.result (c.if_helper.ensures z.args.ent.now z.args.used z.args.has_template z.args.has_inverse n z.args.i None)

pub returns-in-Unless : goal.returns-in-Unless
returns-in-Unless c = let z = c in λ n. by_unless z.args.s.now z.args.b.now z.args.ent.now z.args.used z.args.options z.args.h (given n 2 z.args.v z.args.i false None) z.args.has_template z.args.has_inverse c.in-Unless.is c.if_helper-in-Unless.result (c.if_helper-in-Unless.ensures z.args.ent.now z.args.used z.args.has_template z.args.has_inverse n z.args.i None)

pub returns-in-Lookup : goal.returns-in-Lookup
returns-in-Lookup c = let z = c in λ n. by_lookup z.args.s.now z.args.b.now z.args.ent.now z.args.used z.args.options z.args.h (given n 2 z.args.v z.args.i false None) z.args.has_template z.args.has_inverse c.in-Lookup.is c.lookup_helper.result (c.lookup_helper.ensures z.args.used z.args.has_template z.args.has_inverse n false None)

pub returns-in-Unknown : goal.returns-in-Unknown
returns-in-Unknown c = let z = c in λ n. by_none z.args.s.now z.args.b.now z.args.ent.now z.args.used z.args.options z.args.h (given n 2 z.args.v z.args.i false None) z.args.has_template z.args.has_inverse c.in-Unknown.is
