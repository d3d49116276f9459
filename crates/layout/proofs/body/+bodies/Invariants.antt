use Prim.Native.Nat.{◌*◌, ◌+◌, ◌-◌}
use Rattle.layout.proofs.Bodies.{elements_context, in_body, placed_context}
use Rattle.layout.specs.Walk.{place_by}
use Rattle.layout.specs.WalkLaws.{left}
use Rattle.rules.specs.Bits.{bits}
use mathlib.Core.Path.{◌≡◌}
use Rattle.layout.proofs.body.+bodies.Given as goal

abbrev pub decreases-body : goal.decreases-body
decreases-body l = 3 * l.d

abbrev pub decreases-element : goal.decreases-element
decreases-element l = 3 * l.d + 2

abbrev pub decreases-maybe_body : goal.decreases-maybe_body
decreases-maybe_body l = 3 * l.d + 1

abbrev pub invariant-body-loop : goal.invariant-body-loop
invariant-body-loop l = left elements_context placed_context (in_body l.w l.d) (bits l.b) (l.n - l.counter) (place_by l.cur) ≡ left elements_context placed_context (in_body l.w l.d) (bits l.b) l.n (place_by l.initial.cur)
