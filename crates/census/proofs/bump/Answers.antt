use native.Mathlib.Omega.{arith}
use borrow.Author.Tests.{eq-eqb, ne_eqb, le-leb, lt-leb}
use Rattle.census.specs.Count.{bump}
use Rattle.census.proofs.bump.Goals as goal

pub returns-then-k-kind : goal.returns-then-k-kind
unfolding bump
returns-then-k-kind c = let s = c in rw (ne_eqb s.args.k s.args.kind c.if-k-kind.true)

pub returns-then-n-ge65535 : goal.returns-then-n-ge65535
unfolding bump
returns-then-n-ge65535 c = let s = c in rw (eq-eqb s.args.k s.args.kind (omega arith), le-leb 65535 s.args.n c.if-n-ge65535.true)

pub returns : goal.returns
unfolding bump
returns c = let s = c in rw (eq-eqb s.args.k s.args.kind (omega arith), lt-leb 65535 s.args.n (omega arith))
