use Rattle.lookup.proofs.Ordered.{coming_step}
use Rattle.text.specs.Rest.{rest, Stands, Stepped}
use Rattle.decimal.proofs.Parsing.{coming_none}
use Rattle.decimal.specs.Parsing.{coming, parsed}
use Rattle.rules.specs.Context.{parse_usize}
use lib.ListN.{length}
use native.Mathlib.Omega.{arith}
use mathlib.Core.Path.{◌≡◌, ◌∙◌, ap, sym, subst}
use borrow.Author.Rules.{rules}
use Rattle.lookup.proofs.index_of.Goals as goal

pub returns : goal.returns
returns c = let x = subst (Stepped c.args.s.now c.args.b.now c.loop-c.u) c.in_default.is c.next.ensures in
    c.finish.ensures ∙ ap parsed (sym (coming_none c.loop-c.p) ∙ ap (coming c.loop-c.p) (sym x) ∙ c.loop-c.invariant.1)

pub loop-c-preserved : goal.loop-c-preserved
loop-c-preserved c = let x = subst (Stepped c.args.s.now c.args.b.now c.loop-c.u) c.in-Some.is c.next.ensures in
    (x.1, rw c.feed-p.ensures (coming_step c.loop-c.p c.in-Some.c _ _ _ c.loop-c.invariant.1 x.0))
