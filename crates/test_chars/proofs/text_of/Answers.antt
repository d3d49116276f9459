use Rattle.std.proofs.Common.{arith, subst}
use Rattle.chars.specs.Laws.{nothing_spelled, packed_spelled}
use Rattle.meaning.specs.Standing.{PlainStands}
use Rattle.rules.specs.BundleLaws.{bits_size}
use Rattle.test_chars.proofs.text_of.Goals as goal

pub returns-in-PackedChar : goal.returns-in-PackedChar
returns-in-PackedChar c =
    let a = c.args in
    let h = subst (PlainStands a.s.now a.b.now) c.in-PackedChar.is c.requires.1 in
    (packed_spelled a.s.now a.b.now c.in-PackedChar.p c.in-PackedChar.n h, omega (arith, h.within, bits_size a.b.now, c.requires.0))

pub returns-in_default : goal.returns-in_default
returns-in_default c = (nothing_spelled c.args.s.now c.args.b.now, omega arith)
