use Rattle.strings.specs.Plain.{plain_end}
use mathlib.Core.Path.{◌≡◌}
use Rattle.strings.proofs.plain_end.Given as goal

abbrev pub invariant-loop-j : goal.invariant-loop-j
invariant-loop-j l = plain_end l.s l.i ≡ plain_end l.s l.j
