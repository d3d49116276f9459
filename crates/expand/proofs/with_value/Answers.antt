use mathlib.Core.Path.{sym, ◌∙◌}
use Rattle.expand.proofs.Calling.{with_none, with_false, with_true}
use borrow.Author.Rules.{rules}
use Rattle.expand.proofs.with_value.Goals as goal

pub returns-then-w-eq0 : goal.returns-then-w-eq0
returns-then-w-eq0 c = let z = c in λ ent g st t e A E. with_none z.args.s.now z.args.b.now ent t z.args.used z.args.options z.args.w g st e A E c.if-w-eq0.true

pub returns-then-is_truthy : goal.returns-then-is_truthy
returns-then-is_truthy c = let z = c in λ ent g st t e A E. with_true z.args.s.now z.args.b.now ent t z.args.used z.args.options z.args.w g st e A E c.if-w-eq0.false (sym c.if-is_truthy.true ∙ c.is_truthy.ensures.at ent t E.params.first) c.in_scope.result c.in_scope.ensures

pub returns : goal.returns
returns c = let z = c in λ ent g st t e A E. with_false z.args.s.now z.args.b.now ent t z.args.used z.args.options z.args.w g st e A E c.if-w-eq0.false (sym c.if-is_truthy.false ∙ c.is_truthy.ensures.at ent t E.params.first) c.unless_strict.result c.unless_strict.ensures
