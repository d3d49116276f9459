use Rattle.places.proofs.Walking.{next_found, next_none}
use Rattle.places.proofs.Fields.{index}
use Rattle.places.specs.Children.{end_at, behind}
use borrow.Author.Tests.{lt-ltb, le-ltb}
use mathlib.Core.Option.{some}
use mathlib.Core.Path.{ap, refl}
use native.Mathlib.Omega.{arith}
use borrow.Author.Rules.{rules}
use Rattle.places.proofs.next.Goals as goal

pub returns-then-n-end : goal.returns-then-n-end
unfolding behind
returns-then-n-end c = (
  λ j q. next_found c.args.s.now c.args.i c.requires.0.answers c.requires.1 j c.args.c c.end-n.result c.end-n.ensures q (omega (arith, c.end.ensures, c.if-n-end.true)),
  rw (lt-ltb (end_at c.args.s.now c.args.c) (end_at c.args.s.now c.args.i) (omega (arith, c.end-n.ensures, c.end.ensures, c.if-n-end.true))) (ap some c.end-n.ensures),
)

pub returns : goal.returns
unfolding behind
returns c = (
  λ j q. next_none c.args.s.now c.args.i c.requires.0.answers c.requires.1 j c.args.c c.end-n.result c.end-n.ensures q (omega (arith, c.end.ensures, c.if-n-end.false)),
  rw (le-ltb (end_at c.args.s.now c.args.c) (end_at c.args.s.now c.args.i) (omega (arith, c.end-n.ensures, c.end.ensures, c.if-n-end.false))),
)
