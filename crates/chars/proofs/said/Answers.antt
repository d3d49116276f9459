use Rattle.chars.proofs.Strings.{said_first}
use Rattle.chars.proofs.said.Goals as goal

pub next_char-requires : goal.next_char-requires
next_char-requires c = (c.requires.0, c.requires.1.2)

pub returns-in_err-n : goal.returns-in_err-n
returns-in_err-n c = rw c.from_residual.ensures (c.in_err-n.ensures c.requires.1.1)

pub returns : goal.returns
returns c = let a = c.args in
    let p = c.requires in
    said_first a.s.now a.b.now a.at c.in_ok-n.n c.in_ok-n.e p.1.1 (c.in_ok-n.ensures p.1.1) p.1.2 p.0
