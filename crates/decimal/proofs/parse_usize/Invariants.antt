use Rattle.decimal.specs.Parsing.{coming}
use Rattle.rules.specs.Context.{parse_usize}
use lib.ListN.{drop}
use mathlib.Core.Path.{◌≡◌}
use Rattle.decimal.proofs.parse_usize.Given as goal

abbrev pub invariant-loop-c : goal.invariant-loop-c
invariant-loop-c l = coming l.p (drop l.c-index l.s) ≡ parse_usize l.s
