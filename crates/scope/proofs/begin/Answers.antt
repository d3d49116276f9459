use mathlib.Core.Path.{ap}
use lib.ListN.{replicate}
use Rattle.scope.specs.declared.Scope.{Scope}
use Rattle.scope.proofs.begin.Goals as goal

pub returns : goal.returns
returns c = ap (λ (x : Scope). replicate 32 x) c.child-c.ensures
