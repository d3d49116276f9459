use Prim.Native.Nat.{◌-◌}
use Rattle.context.proofs.Walking.{Walks}
use Rattle.context.proofs.walk.Given as goal

abbrev pub invariant-loop : goal.invariant-loop
invariant-loop l = Walks l.s l.b l.ent l.initial.cur l.p l.n l.cur l.at (l.n - l.counter)
