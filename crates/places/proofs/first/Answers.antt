use Rattle.places.proofs.Walking.{none_at}
use Rattle.places.specs.Children.{walk_start, walk_child, walk_end}
use Prim.Native.Nat.{ℕ, ◌<◌, ◌≤◌}
use mathlib.Core.Path.{sym, subst}
use Rattle.places.proofs.Fields.{index}
use native.Mathlib.Omega.{arith}
use borrow.Author.Rules.{rules}
use Rattle.places.proofs.first.Goals as goal

pub overflow_add-i : goal.overflow_add-i
overflow_add-i c = omega (arith, (index c.args.s.now c.args.tab.now c.requires.0 c.args.i c.requires.1).small)

pub overflow_add-result : goal.overflow_add-result
overflow_add-result c = omega (arith, (index c.args.s.now c.args.tab.now c.requires.0 c.args.i c.requires.1).small)

pub returns-then-i-end : goal.returns-then-i-end
returns-then-i-end c = sym (walk_child c.args.s.now c.args.i 0 _ (walk_start c.args.s.now c.args.i c.requires.0.answers c.requires.1) (omega (arith, c.end.ensures, c.if-i-end.true))).is

pub returns : goal.returns
returns c = none_at _ 0 0 (walk_end c.args.s.now c.args.i 0 _ (walk_start c.args.s.now c.args.i c.requires.0.answers c.requires.1) (omega (arith, c.end.ensures, c.if-i-end.false))) (omega arith)
