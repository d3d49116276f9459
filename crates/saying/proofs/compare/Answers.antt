use Prim.Native.Nat.{◌+◌}
use Rattle.saying.proofs.Remaining.{inside_start}
use mathlib.Core.Path.{refl}
use native.Mathlib.Omega.{arith}
use Rattle.saying.proofs.compare.Goals as goal

pub loop-a-init : goal.loop-a-init
loop-a-init c = (inside_start c.args.s.now (c.args.i + 1) (omega arith), inside_start c.args.s.now (c.args.j + 1) (omega arith), refl)
