use Prim.Native.Nat.{◌-◌}
use native.Mathlib.Omega.{arith}
use lib.ListN.{drop}
use Rattle.output.specs.Writer.{output}
use Rattle.print.proofs.Said.{no_part}
use borrow.Author.Rules.{rules}
use Rattle.print.proofs.write_part.Goals as goal

pub returns : goal.returns
returns c = let a = c.args in
    no_part a.indent.now a.escape (drop a.i a.s.now) (a.e - a.i) (output a.w a.out.now) (omega (arith, c.if-i-e.false))

-- LEFT
-- part-feed-bytes-end : tie.Need-slice-bounds-feed-bytes-end
-- part-feed-bytes-end c =
--     c.before.before.before.before.before.requires c.before.if1.true
