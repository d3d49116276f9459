use borrow.Author.Rules.{rules}
use borrow.Author.Tests.{eq-eqb, ne_eqb}
use Rattle.print.specs.Span.{calm_string}
use Rattle.print.proofs.calm_string.Goals as goal

pub returns-then-byte-eq34 : goal.returns-then-byte-eq34
unfolding calm_string
returns-then-byte-eq34 c = rw (← c.calm_end-e.ensures, ← c.byte.ensures, eq-eqb c.byte.result 34 c.if-byte-eq34.true)

pub returns : goal.returns
unfolding calm_string
returns c = rw (← c.calm_end-e.ensures, ← c.byte.ensures, ne_eqb c.byte.result 34 c.if-byte-eq34.false)
