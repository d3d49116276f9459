use borrow.Author.Tests.{lt-ltb, le-ltb}
use borrow.Author.Rules.{rules}
use Rattle.plain.proofs.found.Goals as goal

pub returns-then-n-lt2 : goal.returns-then-n-lt2
returns-then-n-lt2 c = rw (lt-ltb c.args.n 2 c.if-n-lt2.true)

pub returns : goal.returns
returns c = rw (le-ltb c.args.n 2 c.if-n-lt2.false)
