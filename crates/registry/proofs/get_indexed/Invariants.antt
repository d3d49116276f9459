use Rattle.registry.specs.Index.{Looking}
use Rattle.layout.specs.Text.{text_at}
use Rattle.rules.specs.Bits.{bits}
use Rattle.registry.proofs.get_indexed.Given as goal

abbrev pub invariant-loop-i : goal.invariant-loop-i
invariant-loop-i l = Looking 16 (bits l.b) (text_at (bits l.b) l.at) l.n l.i
