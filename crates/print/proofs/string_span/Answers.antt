use borrow.Author.Rules.{rules}
use borrow.Author.Tests.{eq-eqb, ne_eqb}
use Rattle.print.specs.Span.{string_span}
use Rattle.print.proofs.string_span.Goals as goal

pub returns-then-byte-eq34 : goal.returns-then-byte-eq34
unfolding string_span
returns-then-byte-eq34 c = rw (← c.own_end-e.ensures, ← c.byte.ensures, eq-eqb c.byte.result 34 c.if-byte-eq34.true)

pub returns : goal.returns
unfolding string_span
returns c = rw (← c.own_end-e.ensures, ← c.byte.ensures, ne_eqb c.byte.result 34 c.if-byte-eq34.false)
