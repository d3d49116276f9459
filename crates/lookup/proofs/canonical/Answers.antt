use Rattle.lookup.proofs.Ordered.{canonical_refused, canonical_found, canonical_other}
use Rattle.text.specs.Rest.{rest}
use mathlib.Core.Path.{◌∙◌}
use Rattle.lookup.proofs.canonical.Goals as goal

pub returns-in_err-n : goal.returns-in_err-n
returns-in_err-n c = let e = canonical_refused (rest c.args.s.now c.args.b.now c.args.t) c.index_of.result c.index_of.ensures c.in_err-n.was in
    c.from_residual.ensures ∙ e

pub same-requires : goal.same-requires
same-requires c = (c.requires.0, tt, c.requires.1)

pub returns-then-same : goal.returns-then-same
returns-then-same c = canonical_found (rest c.args.s.now c.args.b.now c.args.t) c.index_of.result c.in_ok-n.n c.index_of.ensures c.in_ok-n.was c.same.result c.same.ensures c.if-same.true

pub returns : goal.returns
returns c = canonical_other (rest c.args.s.now c.args.b.now c.args.t) c.index_of.result c.in_ok-n.n c.index_of.ensures c.in_ok-n.was c.same.result c.same.ensures c.if-same.false
