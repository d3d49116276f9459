use Rattle.decimal.proofs.Digits.{no_place}
use Rattle.decimal.proofs.Powers.{power_at}
use native.Mathlib.Omega.{arith}
use Rattle.decimal.proofs.place.Goals as goal

pub returns-then-k-ge20 : goal.returns-then-k-ge20
returns-then-k-ge20 c = no_place c.args.n c.args.k (omega arith) c.if-k-ge20.true

pub returns : goal.returns
returns c = rw (power_at c.args.k (omega arith))
