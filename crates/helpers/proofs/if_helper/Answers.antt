use mathlib.Core.Bool.{true, false}
use mathlib.Core.Path.{sym, ◌∙◌}
use Rattle.helpers.proofs.Deciding.{if_none, if_some}
use Rattle.helpers.specs.Does.{given}
use borrow.Author.Rules.{rules}
use Rattle.helpers.proofs.if_helper.Goals as goal

pub returns-then-count-eq0 : goal.returns-then-count-eq0
returns-then-count-eq0 c = let z = c in λ ent used _ _ n u x g st t e ns T I G E ht hi. if_none z.args.s.now z.args.b.now ent t used z.args.options (given n z.args.count z.args.v u z.args.zero x) g st e ns T I G E z.args.positive c.if-count-eq0.true

pub returns-then-truth : goal.returns-then-truth
returns-then-truth c = let z = c in λ ent used _ _ n u x g st t e ns T I G E ht hi. if_some z.args.s.now z.args.b.now ent t used z.args.options (given n z.args.count z.args.v u z.args.zero x) g st e ns T I G E z.args.positive c.if-count-eq0.false true (sym (c.truth.ensures.at ent t E.params.first) ∙ c.if-truth.true) c.branch-positive.result c.branch-positive.ensures

pub returns : goal.returns
returns c = let z = c in λ ent used _ _ n u x g st t e ns T I G E ht hi. if_some z.args.s.now z.args.b.now ent t used z.args.options (given n z.args.count z.args.v u z.args.zero x) g st e ns T I G E z.args.positive c.if-count-eq0.false false (sym (c.truth.ensures.at ent t E.params.first) ∙ c.if-truth.false) c.branch-positive-2.result c.branch-positive-2.ensures
