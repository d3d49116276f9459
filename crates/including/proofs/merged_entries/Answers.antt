use native.Mathlib.Omega.{arith}
use borrow.Author.Tests.{eq-eqb, ne_eqb}
use Rattle.including.proofs.merged_entries.Goals as goal

pub returns-then-n-eq0 : goal.returns-then-n-eq0
returns-then-n-eq0 c = rw (eq-eqb c.args.n 0 c.if-n-eq0.true)

pub merged_count-requires : goal.merged_count-requires
merged_count-requires c = let z = c in (z.requires.0, z.requires.1, z.requires.2 (omega (arith, c.if-n-eq0.false)))

pub returns : goal.returns
returns c = rw (ne_eqb c.args.n 0 c.if-n-eq0.false) c.merged_count.ensures
