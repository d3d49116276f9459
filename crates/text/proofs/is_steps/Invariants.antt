use Rattle.rules.specs.Bytes.{same}
use Rattle.text.specs.Rest.{Stands, rest}
use lib.ListN.{drop}
use mathlib.Core.Path.{◌≡◌}
use Rattle.text.proofs.is_steps.Given as goal

abbrev pub invariant-loop-d : goal.invariant-loop-d
invariant-loop-d l = Stands l.s l.b l.u × (same (rest l.s l.b l.initial.u) l.w ≡ same (rest l.s l.b l.u) (drop l.d-index l.w))
