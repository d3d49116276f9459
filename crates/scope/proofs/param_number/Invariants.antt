use Rattle.rules.specs.Bits.{bits}
use Rattle.layout.specs.Text.{text_at}
use Rattle.scope.proofs.Searching.{Searches}
use Rattle.scope.proofs.param_number.Given as goal

abbrev pub invariant-loop-i : goal.invariant-loop-i
invariant-loop-i l = Searches l.b l.ent l.scopes (text_at (bits l.b) l.p) l.used l.i
