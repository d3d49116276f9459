use Rattle.text.specs.Rest.{rest}
use Rattle.text.specs.Laws.{said_stands}
use Rattle.lookup.proofs.Ordered.{named_same}
use Rattle.places.specs.Nodes.{short}
use native.Mathlib.Omega.{arith}
use mathlib.Core.Path.{◌∙◌, sym}
use borrow.Author.Rules.{rules}
use Rattle.lookup.proofs.latest.Goals as goal

pub overflow_add-n : goal.overflow_add-n
overflow_add-n c = let l = short c.args.s.now c.requires.0.answers in omega (arith, c.name-n.ensures.1)

pub same-requires : goal.same-requires
same-requires c = let l = short c.args.s.now c.requires.0.answers in
    (l, said_stands c.args.s.now c.args.b.now c.name-n.result (omega (arith, c.name-n.ensures.1)), c.requires.2)

pub returns-then-same : goal.returns-then-same
returns-then-same c = rw (sym (named_same c.args.s.now c.args.c c.name-n.result (rest c.args.s.now c.args.b.now c.args.t) c.same.result c.same.ensures c.name-n.ensures.0) ∙ c.if-same.true)

pub returns : goal.returns
returns c = rw (sym (named_same c.args.s.now c.args.c c.name-n.result (rest c.args.s.now c.args.b.now c.args.t) c.same.result c.same.ensures c.name-n.ensures.0) ∙ c.if-same.false)
