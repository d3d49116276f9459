use Rattle.rules.specs.Picks.{picks}
use Rattle.rules.specs.Tree.{colon_end}
use Rattle.scan.proofs.Bounds.{spaces_go}
use borrow.Author.Rules.{rules}
use native.Mathlib.Omega.{arith}
use Rattle.plan_read.proofs.colon_behind.Goals as goal

pub overflow_add-at : goal.overflow_add-at
overflow_add-at c = let p = c.requires in
    let w = spaces_go c.args.s.now c.args.i p.0 in
    omega (arith, c.find_mark-m.ensures.place, w.within, p.1)

pub returns-then-m-eq58 : goal.returns-then-m-eq58
unfolding colon_end
returns-then-m-eq58 c = let m = c.find_mark-m in
    simp (← m.ensures.place, ← m.ensures.here, ← c.spaces_end.ensures) (search picks depth 9)

pub returns : goal.returns
unfolding colon_end
returns c = let m = c.find_mark-m in
    simp (← m.ensures.place, ← m.ensures.here) (search picks depth 9)
