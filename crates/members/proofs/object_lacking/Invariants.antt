use Rattle.members.proofs.Counting.{lacking_step}
use Rattle.meaning.specs.Entries.{place}
use Rattle.meaning.specs.Meaning.{json_of, pairs}
use Rattle.merging.specs.Counting as spec
use Rattle.layout.specs.Text.{text_at}
use Rattle.parts.specs.Holds.{Holds}
use Rattle.places.specs.Places.{json_at}
use Rattle.rules.specs.Bits.{bits}
use Rattle.rules.specs.Bundle.{string}
use Rattle.rules.specs.Context.{base_map}
use Rattle.rules.specs.Json.{get_member}
use native.Mathlib.Omega.{arith}
use Prim.Native.Nat.{ℕ, ◌-◌, ◌≤◌}
use mathlib.Core.Path.{◌≡◌, ◌∙◌, ap, refl, sym, subst}
use Rattle.members.proofs.object_lacking.Given as goal

abbrev pub invariant-loop-k : goal.invariant-loop-k
invariant-loop-k l = (l.r ≤ l.k) × (l.r ≡ spec.lacking (pairs l.b l.ent (json_of l.s l.b l.ent) l.h l.k) (base_map (json_at l.s l.i)))
