use Rattle.scan.proofs.Words.{worded_end, worded_no}
use mathlib.Core.Path.{◌∙◌}
use Rattle.scan.proofs.word_end.Goals as goal

pub returns-then-byte-w : goal.returns-then-byte-w
returns-then-byte-w c = let a = c.args in
    worded_no a.w.now a.s.now a.i c.loop-k.k c.loop-k.invariant c.loop-k-test.true (λ e. c.if-byte-w.true (c.byte.ensures ∙ e))

pub returns : goal.returns
returns c = worded_end c.args.w.now c.args.s.now c.args.i c.loop-k.k c.loop-k.invariant c.loop-k-test.false
