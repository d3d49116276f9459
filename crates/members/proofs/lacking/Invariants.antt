use Rattle.members.proofs.Counting.{lacking_step}
use Rattle.meaning.specs.Meaning.{json_of, pairs}
use Rattle.merging.specs.Counting as spec
use Rattle.rules.specs.Context.{base_map}
use native.Mathlib.Omega.{arith}
use Prim.Native.Nat.{ℕ, ◌-◌, ◌≤◌}
use mathlib.Core.Path.{◌≡◌, ◌∙◌, ap, refl}
use Rattle.members.proofs.lacking.Given as goal

abbrev pub invariant-loop-k : goal.invariant-loop-k
invariant-loop-k l = (l.r ≤ l.k) × (l.r ≡ spec.lacking (pairs l.b l.ent (json_of l.s l.b l.ent) l.h l.k) (base_map (json_of l.s l.b l.ent l.base)))
