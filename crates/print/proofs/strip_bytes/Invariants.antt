use Rattle.text.specs.Strip.{stripped}
use lib.ListN.{drop}
use mathlib.Core.Path.{◌≡◌}
use Rattle.print.specs.Target as target
use Rattle.print.proofs.strip_bytes.Given as goal

abbrev pub invariant-loop-d : goal.invariant-loop-d
invariant-loop-d l = target.Stands l.s l.b l.w l.u × (stripped l.v (target.rest l.s l.b l.w l.initial.u) ≡ stripped (drop l.d-index l.v) (target.rest l.s l.b l.w l.u))
