use Rattle.decimal.specs.Parsing.{fed_all}
use Rattle.decimal.specs.declared.Parse.TheVariants.{Empty}
use Rattle.rules.specs.Bytes.{digits}
use lib.ListN.{take}
use mathlib.Core.Path.{◌≡◌}
use Rattle.test_decimal.proofs.parse_digits_of.Given as goal

abbrev pub invariant-loop-i : goal.invariant-loop-i
invariant-loop-i l = l.p ≡ fed_all Empty (take l.i (digits l.n))
