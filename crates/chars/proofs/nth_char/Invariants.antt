use Prim.Native.Nat.{◌-◌}
use Rattle.chars.specs.Spelled.{Spelled}
use Rattle.rules.specs.Context.{chars}
use Rattle.text.specs.Rest.{rest}
use lib.ListN.{get_elem?}
use mathlib.Core.Path.{◌≡◌}
use Rattle.chars.proofs.nth_char.Given as goal

abbrev pub invariant-loop : goal.invariant-loop
invariant-loop l = Spelled l.s l.b l.u × (get_elem? (chars (rest l.s l.b l.initial.u)) l.k ≡ get_elem? (chars (rest l.s l.b l.u)) (l.k - l.counter))
