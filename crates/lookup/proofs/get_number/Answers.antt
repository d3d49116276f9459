use native.Mathlib.Omega.{arith}
use mathlib.Core.Path.{sym, subst}
use Rattle.layout.specs.Text.{text_at}
use Rattle.rules.specs.Bits.{bits}
use Rattle.value.specs.Numbers.{decoded}
use Rattle.lookup.specs.Numbers.{NumberGot}
use borrow.Author.Rules.{rules}
use Rattle.lookup.proofs.get_number.Goals as goal

pub returns-then-u-ge-PAIR : goal.returns-then-u-ge-PAIR
returns-then-u-ge-PAIR c = c.asked_number-u.ensures.pair c.if-u-ge-PAIR.true

pub place_number-r-requires : goal.place_number-r-requires
place_number-r-requires c = let z = c in
    (z.requires.0, z.requires.1, c.asked_number-u.ensures.within (omega (arith, c.if-u-ge-PAIR.false)) c.if-tag.true, z.requires.3, z.requires.4)

pub placed_number-requires : goal.placed_number-requires
placed_number-requires c = (c.place_number-r.ensures.small, omega arith)

pub returns-then-tag : goal.returns-then-tag
returns-then-tag c = let z = c in
    let a = z.args in
    subst (NumberGot a.s.now a.b.now a.ent.now (decoded a.v) (text_at (bits a.b.now) a.q)) (sym c.placed_number.ensures)
    (c.asked_number-u.ensures.place (omega (arith, c.if-u-ge-PAIR.false)) c.if-tag.true a.tab.now z.requires.0 c.place_number-r.result c.place_number-r.ensures)

pub returns : goal.returns
returns c = c.asked_number-u.ensures.other (omega (arith, c.if-u-ge-PAIR.false)) c.if-tag.false
