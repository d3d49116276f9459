use Rattle.places.proofs.Fields.{index, name_is}
use native.Mathlib.Omega.{arith}
use borrow.Author.Rules.{rules}
use Rattle.places.proofs.name.Goals as goal

pub offset_bounds-tab-i : goal.offset_bounds-tab-i
offset_bounds-tab-i c = omega (arith, (index c.args.s.now c.args.tab.now c.requires.0 c.args.i c.requires.1).small)

pub bounds-tab-i : goal.bounds-tab-i
bounds-tab-i c = (index c.args.s.now c.args.tab.now c.requires.0 c.args.i c.requires.1).inside

pub returns : goal.returns
returns c = name_is c.args.s.now c.args.tab.now c.requires.0 c.args.i c.requires.1
