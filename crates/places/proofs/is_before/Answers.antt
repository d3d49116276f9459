use Rattle.places.proofs.Ordered.{less_before}
use Rattle.rules.specs.Bytes.{before}
use Rattle.rules.specs.Order.{before_irrefl}
use Rattle.rules.specs.Scan.{saying}
use mathlib.Core.Path.{◌∙◌, ap, sym}
use Rattle.places.proofs.is_before.Goals as goal

pub returns-then-i-j : goal.returns-then-i-j
returns-then-i-j c = let s = c.args.s.now in sym (ap (λ x. before (saying s x) (saying s c.args.j)) c.if-i-j.true ∙ before_irrefl (saying s c.args.j))

pub returns : goal.returns
returns c = c.is_lt.ensures ∙ less_before (saying c.args.s.now c.args.i) (saying c.args.s.now c.args.j) c.order.result c.order.ensures
