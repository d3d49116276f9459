use Prim.Native.Nat.{◌-◌}
use Rattle.scan.proofs.Runs.{run_end, run_off, run_on}
use Rattle.print.specs.Span.{is_calm, calm_end}
use borrow.Author.Rules.{rules}
use borrow.Author.Tests.{not-false, not-true}
use lib.ListN.{length}
use mathlib.Core.Path.{◌∙◌, ◌≡◌, refl, sym}
use Rattle.print.proofs.calm_end.Given as goal

abbrev pub invariant-loop-j : goal.invariant-loop-j
invariant-loop-j l = calm_end l.s l.i ≡ calm_end l.s l.j

abbrev pub decreases-loop-j : goal.decreases-loop-j
decreases-loop-j l = length l.s - l.j
