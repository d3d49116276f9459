use mathlib.Core.Path.{◌∙◌, ◌≡◌, ap, refl, subst, sym}
use lib.ListN.{length}
use Rattle.rules.specs.Bytes.{Bytes}
use Rattle.saying.specs.Said.{remaining, Inside, Stepped}
use Rattle.output.specs.Writer.{output}
use Rattle.print.specs.Printed.{printed, printed_cons, printed_none}
use Rattle.print.proofs.Said.{part_in, part_inside, part_less, part_printed}
use borrow.Author.Rules.{rules}
use Rattle.print.proofs.write_said.Given as goal

abbrev pub invariant-loop-c : goal.invariant-loop-c
invariant-loop-c l = Inside l.s l.i l.j × (length l.out ≡ length l.initial.out) × (printed l.indent l.escape (remaining l.s l.i l.j) (output l.q l.out) ≡ printed l.indent l.escape (remaining l.s l.initial.i l.initial.j) (output l.initial.q l.initial.out))

abbrev pub decreases-loop-c : goal.decreases-loop-c
decreases-loop-c l = length (remaining l.s l.i l.j)
