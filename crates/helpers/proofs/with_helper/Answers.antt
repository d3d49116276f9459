use mathlib.Core.Path.{sym, ◌∙◌}
use Rattle.helpers.proofs.Deciding.{with_none, with_true, with_false}
use Rattle.helpers.specs.Does.{given}
use borrow.Author.Rules.{rules}
use Rattle.helpers.proofs.with_helper.Goals as goal

pub returns-then-count-eq0 : goal.returns-then-count-eq0
returns-then-count-eq0 c = let z = c in λ ent n u y x g st t e ns T I G E ht hi. with_none z.args.s.now z.args.b.now ent t z.args.used z.args.options (given n z.args.count z.args.v u y x) g st e ns T I G E c.if-count-eq0.true

pub returns-then-is_truthy : goal.returns-then-is_truthy
returns-then-is_truthy c = let z = c in λ ent n u y x g st t e ns T I G E ht hi. with_true z.args.s.now z.args.b.now ent t z.args.used z.args.options (given n z.args.count z.args.v u y x) g st e ns T I G E c.if-count-eq0.false (sym (c.is_truthy.ensures.at ent t E.params.first) ∙ c.if-is_truthy.true) c.in_scope.result c.in_scope.ensures

pub returns : goal.returns
returns c = let z = c in λ ent n u y x g st t e ns T I G E ht hi. with_false z.args.s.now z.args.b.now ent t z.args.used z.args.options (given n z.args.count z.args.v u y x) g st e ns T I G E c.if-count-eq0.false (sym (c.is_truthy.ensures.at ent t E.params.first) ∙ c.if-is_truthy.false) _ hi c.inverse.result c.inverse.ensures
