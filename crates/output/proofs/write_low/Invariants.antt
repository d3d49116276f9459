use mathlib.Core.Path.{◌≡◌}
use lib.ListN.{take, drop}
use Rattle.output.specs.Writer.{output, all_put}
use Rattle.output.proofs.write_low.Given as goal

abbrev pub invariant-loop-i : goal.invariant-loop-i
invariant-loop-i l = (l.q.high ≡ l.initial.q.high) × (l.q.block_text ≡ l.initial.q.block_text) × (drop l.from l.texts ≡ drop l.from l.initial.texts) × (all_put (drop l.i (take l.n (drop l.from l.initial.texts))) (output l.q l.texts) ≡ all_put (take l.n (drop l.from l.initial.texts)) (output l.initial.q l.initial.texts))
