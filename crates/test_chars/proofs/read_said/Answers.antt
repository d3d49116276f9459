use Rattle.chars.specs.Laws.{nothing_spelled}
use Rattle.test_chars.proofs.read_said.Goals as goal

pub returns-then-s-q : goal.returns-then-s-q
returns-then-s-q c = nothing_spelled c.args.s.now c.args.b.now

pub returns-then-string_end-eq0 : goal.returns-then-string_end-eq0
returns-then-string_end-eq0 c = nothing_spelled c.args.s.now c.args.b.now
