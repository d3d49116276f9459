use Rattle.std.specs.Prelude.{None}
use mathlib.Core.Bool.{false}
use native.Mathlib.Omega.{arith}
use Rattle.helpers.specs.declared.Does.TheVariants.{Bad}
use Rattle.helpers.specs.Does.{given}
use Rattle.helpers.proofs.Deciding.{lookup_few, by_each, by_with, by_if, by_unless, by_lookup, by_none}
use borrow.Author.Rules.{rules}
use Rattle.helpers.proofs.call_one.Goals as goal
use Rattle.error.specs.declared.RenderErrorReason.TheVariants.{ParamNotFoundForIndex}

pub returns-in-Each : goal.returns-in-Each
returns-in-Each c = let z = c in λ ent n u. by_each z.args.s.now z.args.b.now ent z.args.used z.args.options z.args.h (given n 1 z.args.v u false None) z.args.has_template z.args.has_inverse c.in-Each.is c.each_helper.result (c.each_helper.ensures ent n u false None)

pub returns-in-With : goal.returns-in-With
returns-in-With c = let z = c in λ ent n u. by_with z.args.s.now z.args.b.now ent z.args.used z.args.options z.args.h (given n 1 z.args.v u false None) z.args.has_template z.args.has_inverse c.in-With.is c.with_helper.result (c.with_helper.ensures ent n u false None)

pub returns-in-If : goal.returns-in-If
returns-in-If c = let z = c in λ ent n u. by_if z.args.s.now z.args.b.now ent z.args.used z.args.options z.args.h (given n 1 z.args.v u false None) z.args.has_template z.args.has_inverse c.in-If.is c.if_helper.result (c.if_helper.ensures ent z.args.used z.args.has_template z.args.has_inverse n u None)

pub returns-in-Unless : goal.returns-in-Unless
returns-in-Unless c = let z = c in λ ent n u. by_unless z.args.s.now z.args.b.now ent z.args.used z.args.options z.args.h (given n 1 z.args.v u false None) z.args.has_template z.args.has_inverse c.in-Unless.is c.if_helper-in-Unless.result (c.if_helper-in-Unless.ensures ent z.args.used z.args.has_template z.args.has_inverse n u None)

pub returns-in-Lookup : goal.returns-in-Lookup
returns-in-Lookup c = let z = c in λ ent n u. by_lookup z.args.s.now z.args.b.now ent z.args.used z.args.options z.args.h (given n 1 z.args.v u false None) z.args.has_template z.args.has_inverse c.in-Lookup.is (Bad ParamNotFoundForIndex) (λ g st t e ns T I G E ht hi. lookup_few z.args.s.now z.args.b.now ent t z.args.used z.args.options (given n 1 z.args.v u false None) g st e ns T I G E (omega arith))

pub returns-in-Unknown : goal.returns-in-Unknown
returns-in-Unknown c = let z = c in λ ent n u. by_none z.args.s.now z.args.b.now ent z.args.used z.args.options z.args.h (given n 1 z.args.v u false None) z.args.has_template z.args.has_inverse c.in-Unknown.is
