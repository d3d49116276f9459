use Rattle.rules.specs.Scan.{hex_four}
use Rattle.rules.specs.State.{depth}
use Rattle.rules.specs.Picks.{no, picks}
use borrow.Author.Rules.{rules}
use borrow.Author.Tests.{ne_eqb}
use mathlib.Core.Path.{refl}
use Rattle.strings.proofs.hex_four.Goals as goal

pub returns-then-a-eq16 : goal.returns-then-a-eq16
unfolding hex_four
returns-then-a-eq16 c = (simp (← c.byte.ensures, ← c.hex_digit-a.ensures.0) (search picks depth 9), search rules)

pub returns-then-b-eq16 : goal.returns-then-b-eq16
unfolding hex_four
returns-then-b-eq16 c = (simp (← c.byte.ensures, ← c.hex_digit-a.ensures.0, ← c.byte-2.ensures, ← c.hex_digit-b.ensures.0) (search picks depth 9), search rules)

pub returns-then-c-eq16 : goal.returns-then-c-eq16
unfolding hex_four
returns-then-c-eq16 c = (
  simp (← c.byte.ensures, ← c.hex_digit-a.ensures.0, ← c.byte-2.ensures, ← c.hex_digit-b.ensures.0, ← c.byte-3.ensures, ← c.hex_digit-c.ensures.0)
      (search (picks, c.if-a-eq16.false) depth 9),
  search rules,
)

pub returns-then-d-eq16 : goal.returns-then-d-eq16
unfolding hex_four
returns-then-d-eq16 c = (
  simp (
    ← c.byte.ensures,
    ← c.hex_digit-a.ensures.0,
    ← c.byte-2.ensures,
    ← c.hex_digit-b.ensures.0,
    ← c.byte-3.ensures,
    ← c.hex_digit-c.ensures.0,
    ← c.byte-4.ensures,
    ← c.hex_digit-d.ensures.0,
  )
      (search (picks, c.if-a-eq16.false, c.if-b-eq16.false) depth 9),
  search rules,
)

pub returns : goal.returns
unfolding hex_four
returns c = (
  simp (
    ← c.byte.ensures,
    ← c.hex_digit-a.ensures.0,
    ← c.byte-2.ensures,
    ← c.hex_digit-b.ensures.0,
    ← c.byte-3.ensures,
    ← c.hex_digit-c.ensures.0,
    ← c.byte-4.ensures,
    ← c.hex_digit-d.ensures.0,
  )
      (no _ _ _ _ (ne_eqb _ _ c.if-a-eq16.false) (no _ _ _ _ (ne_eqb _ _ c.if-b-eq16.false) (no _ _ _ _ (ne_eqb _ _ c.if-c-eq16.false) (no _ _ _ _ (ne_eqb _ _ c.if-d-eq16.false) refl)))),
  search rules,
)
