use Prim.Native.Nat.{◌+◌, ◌-◌}
use mathlib.Core.Path.{◌≡◌}
use Rattle.rules.specs.Bits.{bits}
use Rattle.layout.specs.Text.{text_at}
use Rattle.scope.specs.Names.{hash_param}
use Rattle.scope.proofs.hash_number.Given as goal

abbrev pub invariant-loop-i : goal.invariant-loop-i
invariant-loop-i l = (hash_param l.b l.ent (text_at (bits l.b) l.p) l.h l.n ≡ hash_param l.b l.ent (text_at (bits l.b) l.p) (l.h + l.i) (l.n - l.i))
