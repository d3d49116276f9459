use Prim.Native.Nat.{◌+◌, suc}
use Rattle.rules.specs.State.{depth}
use Rattle.rules.specs.Tree.{name_end}
use Rattle.rules.specs.Picks.{picks}
use Rattle.strings.proofs.Lengths.{string_goes}
use borrow.Author.Rules.{rules}
use lib.ListN.{length}
use native.Mathlib.Omega.{arith}
use Rattle.plan_read.proofs.name_end.Goals as goal

pub returns-then-byte-ne34 : goal.returns-then-byte-ne34
unfolding name_end
returns-then-byte-ne34 c = simp (← c.byte.ensures) (search picks depth 9)

pub returns-then-e-eq-NOTHING : goal.returns-then-e-eq-NOTHING
unfolding name_end
returns-then-e-eq-NOTHING c = simp (← c.byte.ensures, ← c.string_end-e.ensures) (search picks depth 9)

pub colon_behind-requires : goal.colon_behind-requires
colon_behind-requires c = let g = string_goes c.args.s.now (suc (length c.args.s.now)) (c.args.i + 1) in
    omega (arith, c.string_end-e.ensures, g.within, c.requires)

pub returns : goal.returns
unfolding name_end
returns c = simp (← c.byte.ensures, ← c.string_end-e.ensures, ← c.colon_behind.ensures) (search picks depth 9)
