use Rattle.lookup.proofs.Spelling.{place_spells}
use Rattle.places.specs.Nodes.{short}
use native.Mathlib.Omega.{arith}
use borrow.Author.Rules.{rules}
use Rattle.lookup.proofs.place_text.Goals as goal

pub overflow_add-result : goal.overflow_add-result
overflow_add-result c = let l = short c.args.s.now c.requires.0.answers in omega (arith, c.start-o.ensures.1)

pub returns : goal.returns
returns c = let l = short c.args.s.now c.requires.0.answers in place_spells c.args.s.now c.args.b.now c.args.tab.now c.requires.0 c.args.i c.requires.1 c.start-o.result c.start-o.ensures.0 (omega (arith, c.start-o.ensures.1))
