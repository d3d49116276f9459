use Rattle.std.proofs.Common.{arith, sym, ◌∙◌}
use Rattle.chars.specs.Laws.{nothing_spelled}
use Rattle.rules.specs.BundleLaws.{bits_size}
use Rattle.test_chars.proofs.read_packed.Goals as goal

pub returns-then-b-p : goal.returns-then-b-p
returns-then-b-p c = nothing_spelled c.args.s.now c.args.b.now

pub returns-then-is_valid : goal.returns-then-is_valid
returns-then-is_valid c = (omega (arith, c.if-b-p.false, bits_size c.args.b.now), sym c.is_valid.ensures ∙ c.if-is_valid.true)

pub returns : goal.returns
returns c = nothing_spelled c.args.s.now c.args.b.now
