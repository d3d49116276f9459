use native.Mathlib.Omega.{arith}
use Rattle.layout.specs.Text.{text_at}
use Rattle.rules.specs.Bits.{bits}
use Rattle.lookup.proofs.Numbers.{asked_inner, asked_plain}
use borrow.Author.Rules.{rules}
use Rattle.lookup.proofs.asked_number.Goals as goal

pub returns-then-v-ge-MERGED : goal.returns-then-v-ge-MERGED
returns-then-v-ge-MERGED c = let z = c in
    let a = z.args in
    asked_inner a.s.now a.b.now a.ent.now a.v z.requires.1 (text_at (bits a.b.now) a.q) c.if-v-ge-MERGED.true c.inner_number.result c.inner_number.ensures

pub returns : goal.returns
returns c = let z = c in
    let a = z.args in
    asked_plain a.s.now a.b.now a.ent.now a.v z.requires.1 (text_at (bits a.b.now) a.q) (omega (arith, c.if-v-ge-MERGED.false)) (omega arith)
