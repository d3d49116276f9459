use Rattle.text.specs.Rest.{Stands, rest}
use Rattle.text.specs.Strip.{stripped}
use lib.ListN.{drop}
use mathlib.Core.Path.{◌≡◌}
use Rattle.text.proofs.strip_bytes.Given as goal

abbrev pub invariant-loop-d : goal.invariant-loop-d
invariant-loop-d l = Stands l.s l.b l.u × (stripped l.w (rest l.s l.b l.initial.u) ≡ stripped (drop l.d-index l.w) (rest l.s l.b l.u))
