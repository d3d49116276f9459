use mathlib.Core.Path.{◌≡◌}
use Prim.Native.Nat.{◌+◌}
use lib.ListN.{drop}
use Rattle.rules.specs.Support.{entities}
use Rattle.support.specs.Table.{row_in}
use Rattle.support.proofs.row.Given as goal

abbrev pub invariant-loop-k : goal.invariant-loop-k
invariant-loop-k l = row_in entities l.c ≡ l.k + row_in (drop l.k entities) l.c
