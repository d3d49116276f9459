use Prim.Native.Nat.{ℕ}
use Rattle.rules.specs.Bytes.{byte_at}
use borrow.Author.Rules.{rules}
use lib.Dec.{eqb}
use mathlib.Core.Path.{ap}
use Rattle.places.proofs.is_object.Goals as goal

pub returns : goal.returns
returns c = ap (λ (o : ℕ). eqb (byte_at c.args.s.now o) 123) c.start-o.ensures.0
