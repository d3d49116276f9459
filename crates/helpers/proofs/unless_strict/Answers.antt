use Rattle.helpers.proofs.unless_strict.Goals as goal

pub returns-then-strict : goal.returns-then-strict
returns-then-strict c = rw c.if-strict.true

pub returns : goal.returns
returns c = rw c.if-strict.false
