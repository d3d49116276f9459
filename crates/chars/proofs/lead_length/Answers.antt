use Rattle.chars.proofs.Leads.{one_byte, two_bytes, three_bytes, four_bytes}
use mathlib.Core.Path.{sym}
use native.Mathlib.Omega.{arith}
use Rattle.chars.proofs.lead_length.Goals as goal

pub returns-then-c-lt128 : goal.returns-then-c-lt128
returns-then-c-lt128 c = sym (one_byte c.args.c (omega (arith, c.if-c-lt128.true)))

pub returns-then-c-lt224 : goal.returns-then-c-lt224
returns-then-c-lt224 c = sym (two_bytes c.args.c (omega (arith, c.if-c-lt128.false)) (omega (arith, c.if-c-lt224.true)))

pub returns-then-c-lt240 : goal.returns-then-c-lt240
returns-then-c-lt240 c = sym (three_bytes c.args.c (omega (arith, c.if-c-lt224.false)) (omega (arith, c.if-c-lt240.true)))

pub returns : goal.returns
returns c = sym (four_bytes c.args.c (omega (arith, c.if-c-lt240.false)))
