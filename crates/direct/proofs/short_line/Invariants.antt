use Rattle.direct.specs.Direct.{short_bytes}
use Rattle.support.specs.Runs.{inner_byte}
use Rattle.rules.specs.Bytes.{run}
use lib.ListN.{drop}
use mathlib.Core.Path.{◌≡◌}
use Prim.Native.Nat.{◌+◌, ◌-◌}
use Rattle.direct.proofs.short_line.Given as goal

abbrev pub invariant-loop-j : goal.invariant-loop-j
invariant-loop-j l = run inner_byte (short_bytes l.n l.x) ≡ l.j - 1 + run inner_byte (drop (l.j - 1) (short_bytes l.n l.x))
