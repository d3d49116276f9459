use Rattle.value.specs.Numbers.{decoded}
use Prim.Native.Nat.{◌-◌, ◌<◌}
use Rattle.context.proofs.Walking.{Walks}
use Rattle.context.proofs.quickly.Given as goal

abbrev pub invariant-loop : goal.invariant-loop
invariant-loop l = Walks l.s l.b l.ent (decoded l.v) l.p l.n (decoded l.cur) l.at (l.n - l.counter) × (l.cur < 4294967296)
