use Rattle.decimal.proofs.Writing.{Written}
use Rattle.rules.specs.Bytes.{digits}
use Rattle.decimal.proofs.write_digits.Given as goal

abbrev pub invariant-loop-i : goal.invariant-loop-i
invariant-loop-i l = Written l.initial.out l.at (digits l.n) l.rest l.i l.out
