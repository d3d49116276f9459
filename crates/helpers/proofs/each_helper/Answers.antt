use mathlib.Core.Path.{sym, ◌∙◌}
use borrow.Author.Tests.{not-true, not-false}
use Rattle.helpers.proofs.Deciding.{each_none, each_bodiless, each_scalar, each_taken, each_inverse, each_closed}
use Rattle.helpers.specs.Does.{given}
use borrow.Author.Rules.{rules}
use Rattle.helpers.proofs.each_helper.Goals as goal

pub returns-then-count-eq0 : goal.returns-then-count-eq0
returns-then-count-eq0 c = let z = c in λ ent n u y x g st t e ns T I G E ht hi. each_none z.args.s.now z.args.b.now ent t z.args.used z.args.options (given n z.args.count z.args.v u y x) g st e ns T I G E c.if-count-eq0.true

pub returns-then-not-has_template : goal.returns-then-not-has_template
returns-then-not-has_template c = let z = c in λ ent n u y x g st t e ns T I G E ht hi. each_bodiless z.args.s.now z.args.b.now ent t z.args.used z.args.options (given n z.args.count z.args.v u y x) g st e ns T I G E c.if-count-eq0.false (sym ht ∙ c.if-not-has_template.true)

pub returns-then-not-is_collection : goal.returns-then-not-is_collection
returns-then-not-is_collection c = let z = c in λ ent n u y x g st t e ns T I G E ht hi. each_scalar z.args.s.now z.args.b.now ent t z.args.used z.args.options (given n z.args.count z.args.v u y x) g st e ns T I G E c.if-count-eq0.false (sym ht ∙ c.if-not-has_template.false) (sym (c.is_collection.ensures.at ent t E.params.first) ∙ c.if-not-is_collection.true) _ hi c.inverse.result c.inverse.ensures

pub returns-then-is_truthy : goal.returns-then-is_truthy
returns-then-is_truthy c = let z = c in λ ent n u y x g st t e ns T I G E ht hi. each_taken z.args.s.now z.args.b.now ent t z.args.used z.args.options (given n z.args.count z.args.v u y x) g st e ns T I G E c.if-count-eq0.false (sym ht ∙ c.if-not-has_template.false) (sym (c.is_collection.ensures.at ent t E.params.first) ∙ c.if-not-is_collection.false) (sym (c.is_truthy.ensures.at ent t E.params.first) ∙ c.if-is_truthy.true) c.in_scope.result c.in_scope.ensures

pub returns-then-has_inverse : goal.returns-then-has_inverse
returns-then-has_inverse c = let z = c in λ ent n u y x g st t e ns T I G E ht hi. each_inverse z.args.s.now z.args.b.now ent t z.args.used z.args.options (given n z.args.count z.args.v u y x) g st e ns T I G E c.if-count-eq0.false (sym ht ∙ c.if-not-has_template.false) (sym (c.is_collection.ensures.at ent t E.params.first) ∙ c.if-not-is_collection.false) (sym (c.is_truthy.ensures.at ent t E.params.first) ∙ c.if-is_truthy.false) (sym hi ∙ c.if-has_inverse.true)

pub returns : goal.returns
returns c = let z = c in λ ent n u y x g st t e ns T I G E ht hi. each_closed z.args.s.now z.args.b.now ent t z.args.used z.args.options (given n z.args.count z.args.v u y x) g st e ns T I G E c.if-count-eq0.false (sym ht ∙ c.if-not-has_template.false) (sym (c.is_collection.ensures.at ent t E.params.first) ∙ c.if-not-is_collection.false) (sym (c.is_truthy.ensures.at ent t E.params.first) ∙ c.if-is_truthy.false) (sym hi ∙ c.if-has_inverse.false) c.in_scope-2.result c.in_scope-2.ensures
