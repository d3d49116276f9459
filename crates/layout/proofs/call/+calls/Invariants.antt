use Prim.Native.Nat.{◌*◌, ◌+◌, ◌-◌, ◌≤◌}
use Rattle.layout.proofs.Calls.{pairs_left}
use Rattle.layout.specs.Names.{key_before}
use Rattle.layout.specs.Walk.{place_by, unmarked}
use Rattle.layout.specs.WalkLaws.{left}
use Rattle.rules.specs.Bits.{bits}
use Rattle.rules.specs.Bundle.{param}
use mathlib.Core.Option.{none}
use mathlib.Core.Path.{◌≡◌}
use Rattle.layout.proofs.call.+calls.Given as goal

abbrev pub decreases-call : goal.decreases-call
decreases-call l = 4 * l.d + 3

abbrev pub decreases-pairs : goal.decreases-pairs
decreases-pairs l = 4 * l.d + 2

abbrev pub decreases-param : goal.decreases-param
decreases-param l = 4 * l.d

abbrev pub decreases-params : goal.decreases-params
decreases-params l = 4 * l.d + 1

abbrev pub invariant-pairs-loop-i : goal.invariant-pairs-loop-i
invariant-pairs-loop-i l = (l.prev ≤ 524288) × (pairs_left (param l.d) (l.n - l.i) (key_before (bits l.b) l.i l.prev) (bits l.b) (place_by l.cur) ≡ pairs_left (param l.d) l.n none (bits l.b) (place_by l.initial.cur))

abbrev pub invariant-params-loop : goal.invariant-params-loop
invariant-params-loop l = left unmarked unmarked (param l.d) (bits l.b) (l.n - l.counter) (place_by l.cur) ≡ left unmarked unmarked (param l.d) (bits l.b) l.n (place_by l.initial.cur)
