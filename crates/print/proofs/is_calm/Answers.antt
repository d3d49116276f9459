use borrow.Author.Tests.{le-leb, lt-leb}
use mathlib.Core.Path.{sym, ◌∙◌}
use borrow.Author.Rules.{rules}
use Rattle.print.proofs.is_calm.Goals as goal

pub returns-then-c-lt32 : goal.returns-then-c-lt32
returns-then-c-lt32 c = rw (lt-leb 32 c.args.c c.if-c-lt32.true)

pub returns-then-is_escaped : goal.returns-then-is_escaped
returns-then-is_escaped c = rw (le-leb 32 c.args.c c.if-c-lt32.false, sym c.is_escaped.ensures, c.if-is_escaped.true)

pub returns : goal.returns
returns c = rw (le-leb 32 c.args.c c.if-c-lt32.false, sym c.is_escaped.ensures, c.if-is_escaped.false)
