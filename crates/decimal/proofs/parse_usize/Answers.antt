use Rattle.decimal.proofs.Parsing.{coming_next, coming_none}
use Rattle.decimal.specs.Parsing.{coming, parsed}
use lib.ListN.{drop_of_length-le}
use mathlib.Core.Path.{sym, ap, ◌∙◌}
use native.Mathlib.Omega.{arith}
use Rattle.decimal.proofs.parse_usize.Goals as goal

pub loop-c-preserved : goal.loop-c-preserved
loop-c-preserved c = let s = c.args.s.now in
    let l = c.loop-c in
    rw c.feed-p.ensures (coming_next l.p s l.c-index (omega arith)) ∙ l.invariant

pub returns : goal.returns
returns c = let s = c.args.s.now in
    let l = c.loop-c in
    c.finish.ensures ∙ ap parsed (sym (coming_none l.p) ∙ ap (coming l.p) (sym (drop_of_length-le s (omega arith))) ∙ l.invariant)
