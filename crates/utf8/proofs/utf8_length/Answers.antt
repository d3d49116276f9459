use native.Mathlib.Omega.{arith}
use Prim.Native.Nat.{suc, ◌+◌, ◌-◌}
use mathlib.Core.Bool.{true, false}
use mathlib.Core.Path.{refl, sym, ◌∙◌}
use Rattle.rules.specs.Bytes.{byte_at}
use Rattle.rules.specs.Utf8.{length_outside}
use Rattle.utf8.proofs.Steps.{length_is, length_none, lead_few, tails_no, tails_on}
use Rattle.utf8.proofs.utf8_length.Goals as goal

pub returns-then-s-i : goal.returns-then-s-i
returns-then-s-i c = sym (length_outside c.args.s.now c.args.i c.if-s-i.true)

pub returns-in_default : goal.returns-in_default
returns-in_default c = length_none c.args.s.now c.args.i c.if-s-i.false (rw c.in_default.is at c.lead.ensures)

pub returns-then-left-eq0 : goal.returns-then-left-eq0
returns-then-left-eq0 c = let s = c.args.s.now in
    let i = c.args.i in
    let w = c.in-Wants in
    let asked = rw w.is at c.lead.ensures in
    length_is s i w.left 0 w.low w.high true c.if-s-i.false asked c.if-left-eq0.true refl

pub returns-then-not-stands : goal.returns-then-not-stands
returns-then-not-stands c = let s = c.args.s.now in
    let i = c.args.i in
    let w = c.in-Wants in
    let asked = rw w.is at c.lead.ensures in
    length_is s i w.left (suc (w.left - 1)) w.low w.high false c.if-s-i.false asked (omega arith) (tails_no s (i + 1) (w.left - 1) w.low w.high (sym c.stands.ensures ∙ c.if-not-stands.true))

pub returns-then-left-eq1 : goal.returns-then-left-eq1
returns-then-left-eq1 c = let s = c.args.s.now in
    let i = c.args.i in
    let w = c.in-Wants in
    let asked = rw w.is at c.lead.ensures in
    length_is s i w.left 1 w.low w.high true c.if-s-i.false asked c.if-left-eq1.true (tails_on s (i + 1) (i + 2) 0 w.low w.high true (sym c.stands.ensures ∙ c.if-not-stands.false) (omega arith) refl)

pub returns-then-not-stands-2 : goal.returns-then-not-stands-2
returns-then-not-stands-2 c = let s = c.args.s.now in
    let i = c.args.i in
    let w = c.in-Wants in
    let asked = rw w.is at c.lead.ensures in
    length_is s i w.left (suc (suc (w.left - 2))) w.low w.high false c.if-s-i.false asked (omega arith)
    (tails_on s (i + 1) (i + 2) (suc (w.left - 2)) w.low w.high false (sym c.stands.ensures ∙ c.if-not-stands.false) (omega arith)
    (tails_no s (i + 2) (w.left - 2) 128 191 (sym c.stands-2.ensures ∙ c.if-not-stands-2.true)))

pub returns-then-left-eq2 : goal.returns-then-left-eq2
returns-then-left-eq2 c = let s = c.args.s.now in
    let i = c.args.i in
    let w = c.in-Wants in
    let asked = rw w.is at c.lead.ensures in
    length_is s i w.left 2 w.low w.high true c.if-s-i.false asked c.if-left-eq2.true
    (tails_on s (i + 1) (i + 2) 1 w.low w.high true (sym c.stands.ensures ∙ c.if-not-stands.false) (omega arith)
    (tails_on s (i + 2) (i + 3) 0 128 191 true (sym c.stands-2.ensures ∙ c.if-not-stands-2.false) (omega arith) refl))

pub returns-then-not-stands-3 : goal.returns-then-not-stands-3
returns-then-not-stands-3 c = let s = c.args.s.now in
    let i = c.args.i in
    let w = c.in-Wants in
    let asked = rw w.is at c.lead.ensures in
    let few = lead_few (byte_at s i) w.left w.low w.high asked in
    length_is s i w.left 3 w.low w.high false c.if-s-i.false asked (omega (arith, few))
    (tails_on s (i + 1) (i + 2) 2 w.low w.high false (sym c.stands.ensures ∙ c.if-not-stands.false) (omega arith)
    (tails_on s (i + 2) (i + 3) 1 128 191 false (sym c.stands-2.ensures ∙ c.if-not-stands-2.false) (omega arith)
    (tails_no s (i + 3) 0 128 191 (sym c.stands-3.ensures ∙ c.if-not-stands-3.true))))

pub returns : goal.returns
returns c = let s = c.args.s.now in
    let i = c.args.i in
    let w = c.in-Wants in
    let asked = rw w.is at c.lead.ensures in
    let few = lead_few (byte_at s i) w.left w.low w.high asked in
    length_is s i w.left 3 w.low w.high true c.if-s-i.false asked (omega (arith, few))
    (tails_on s (i + 1) (i + 2) 2 w.low w.high true (sym c.stands.ensures ∙ c.if-not-stands.false) (omega arith)
    (tails_on s (i + 2) (i + 3) 1 128 191 true (sym c.stands-2.ensures ∙ c.if-not-stands-2.false) (omega arith)
    (tails_on s (i + 3) (i + 4) 0 128 191 true (sym c.stands-3.ensures ∙ c.if-not-stands-3.false) (omega arith) refl)))
