use Rattle.scope.proofs.turn.Goals as goal

pub returns : goal.returns
returns c = rw (c.weight.ensures.0, c.weight-2.ensures.0, c.weight-3.ensures.0)
