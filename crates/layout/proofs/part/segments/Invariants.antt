use Prim.Native.Nat.{◌-◌}
use Rattle.layout.specs.Walk.{place_by, unmarked}
use Rattle.layout.specs.WalkLaws.{left}
use Rattle.rules.specs.Bits.{bits}
use Rattle.rules.specs.Bundle.{seg}
use mathlib.Core.Path.{◌≡◌}
use Rattle.layout.proofs.part.segments.Given as goal

abbrev pub invariant-loop : goal.invariant-loop
invariant-loop l = left unmarked unmarked seg (bits l.b) (l.n - l.counter) (place_by l.cur) ≡ left unmarked unmarked seg (bits l.b) l.n (place_by l.initial.cur)
