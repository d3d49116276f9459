use Rattle.layout.proofs.Parts.{marked_is, marked_none}
use native.Mathlib.Omega.{arith}
use Rattle.layout.proofs.part.marked.Goals as goal

pub returns-then-p-lt-START : goal.returns-then-p-lt-START
returns-then-p-lt-START c = marked_none c.args.p c.if-p-lt-START.true

pub returns : goal.returns
returns c = marked_is c.args.p (omega arith)
