use Rattle.saying.specs.Said.{own_end}
use mathlib.Core.Path.{◌≡◌}
use Rattle.saying.proofs.own_end.Given as goal

abbrev pub invariant-loop-j : goal.invariant-loop-j
invariant-loop-j l = own_end l.s l.i ≡ own_end l.s l.j
