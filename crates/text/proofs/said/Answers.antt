use Rattle.text.proofs.said.Goals as goal

pub returns-in_err-c : goal.returns-in_err-c
returns-in_err-c c = rw c.from_residual.ensures c.in_err-c.ensures

pub returns : goal.returns
returns c = c.in_ok-c.ensures
