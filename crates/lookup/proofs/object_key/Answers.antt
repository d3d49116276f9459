use native.Mathlib.Omega.{arith}
use mathlib.Core.Path.{sym, subst}
use Rattle.layout.specs.Text.{text_at}
use Rattle.rules.specs.Bits.{bits}
use Rattle.lookup.specs.Keyed.{KeyNumber}
use Rattle.lookup.proofs.Keyed.{object_key}
use borrow.Author.Rules.{rules}
use Rattle.lookup.proofs.object_key.Goals as goal

pub placed_number-requires : goal.placed_number-requires
placed_number-requires c = (c.place_number.ensures.small, omega arith)

pub returns : goal.returns
returns c = let z = c in
    let a = z.args in
    subst (KeyNumber a.s.now a.b.now a.i (text_at (bits a.b.now) a.q)) (sym c.placed_number.ensures)
    (object_key a.s.now a.b.now a.tab.now z.requires.0 a.i z.requires.2 (text_at (bits a.b.now) a.q) c.place_number.result c.place_number.ensures)
