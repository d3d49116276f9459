use Rattle.output.specs.Writer.{output}
use Rattle.print.specs.Printed.{printed, printed_cons, printed_none}
use Rattle.rules.specs.Bytes.{Bytes}
use Rattle.text.specs.Rest.{Stands, Stepped, rest}
use borrow.Author.Rules.{rules}
use lib.ListN.{length}
use mathlib.Core.Path.{◌∙◌, ◌≡◌, ap, refl, subst, sym}
use native.Mathlib.Omega.{arith}
use Rattle.print.proofs.write_steps.Given as goal

abbrev pub invariant-loop-c : goal.invariant-loop-c
invariant-loop-c l = Stands l.s l.b l.u × (length l.out ≡ length l.initial.out) × (printed l.indent l.escape (rest l.s l.b l.u) (output l.q l.out) ≡ printed l.indent l.escape (rest l.s l.b l.initial.u) (output l.initial.q l.initial.out))

abbrev pub decreases-loop-c : goal.decreases-loop-c
decreases-loop-c l = length (rest l.s l.b l.u)
