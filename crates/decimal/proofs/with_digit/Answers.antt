use Rattle.decimal.proofs.Parsing.{below_digits, above_digits, too_large, one_more}
use native.Mathlib.Omega.{arith}
use Rattle.decimal.proofs.with_digit.Goals as goal

pub returns-then-c-lt48 : goal.returns-then-c-lt48
returns-then-c-lt48 c = below_digits c.args.n c.args.c c.if-c-lt48.true

pub returns-then-c-gt57 : goal.returns-then-c-gt57
returns-then-c-gt57 c = above_digits c.args.n c.args.c c.if-c-lt48.false c.if-c-gt57.true

pub returns-then-n-gt1844674407370955161 : goal.returns-then-n-gt1844674407370955161
returns-then-n-gt1844674407370955161 c = too_large c.args.n c.args.c c.if-c-lt48.false c.if-c-gt57.false (omega arith)

pub overflow_sub-d-2 : goal.overflow_sub-d-2
overflow_sub-d-2 c = omega arith

pub returns-then-d-n : goal.returns-then-d-n
returns-then-d-n c = too_large c.args.n c.args.c c.if-c-lt48.false c.if-c-gt57.false (omega arith)

pub returns : goal.returns
returns c = one_more c.args.n c.args.c _ c.if-c-lt48.false c.if-c-gt57.false (omega arith) (omega arith)
