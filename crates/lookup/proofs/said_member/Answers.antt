use Prim.Native.Nat.{ℕ, suc, ◌+◌, ◌-◌}
use mathlib.Core.Bool.{◌&&◌}
use mathlib.Core.Path.{◌≡◌, sym, ap, ◌∙◌}
use native.Mathlib.Omega.{arith}
use lib.Dec.{eqb, leb, ltb}
use lib.ListN.{length}
use borrow.Author.Rules.{rules}
use borrow.Author.Tests.{eqb-true, leb-true, ltb-true}
use Rattle.rules.specs.Order.{and_left, and_right}
use Rattle.rules.specs.Scan.{saying_from}
use Rattle.saying.specs.Said.{remaining}
use Rattle.places.specs.Places.{member}
use Rattle.lookup.proofs.said_member.Goals as goal

pub overflow_sub-q : goal.overflow_sub-q
overflow_sub-q c = let z = c in
    let a = z.args in
    let t = c.if-k-at.true in
    let rest = and_right (eqb a.k 0) (ltb 0 a.at && leb a.at 65536) t in
    let none = eqb-true a.k 0 (and_left (eqb a.k 0) (ltb 0 a.at && leb a.at 65536) t) in
    let some = ltb-true 0 a.at (and_left (ltb 0 a.at) (leb a.at 65536) rest) in
    let near = leb-true a.at 65536 (and_right (ltb 0 a.at) (leb a.at 65536) rest) in
    omega (arith, some)

pub member-requires : goal.member-requires
member-requires c = let z = c in
    let a = z.args in
    let t = c.if-k-at.true in
    let rest = and_right (eqb a.k 0) (ltb 0 a.at && leb a.at 65536) t in
    let none = eqb-true a.k 0 (and_left (eqb a.k 0) (ltb 0 a.at && leb a.at 65536) t) in
    let some = ltb-true 0 a.at (and_left (ltb 0 a.at) (leb a.at 65536) rest) in
    let near = leb-true a.at 65536 (and_right (ltb 0 a.at) (leb a.at 65536) rest) in
    (z.requires.0, z.requires.1, omega (arith, near))

pub returns-then-k-at : goal.returns-then-k-at
returns-then-k-at c = let z = c in
    let a = z.args in
    let t = c.if-k-at.true in
    let rest = and_right (eqb a.k 0) (ltb 0 a.at && leb a.at 65536) t in
    let none = eqb-true a.k 0 (and_left (eqb a.k 0) (ltb 0 a.at && leb a.at 65536) t) in
    let some = ltb-true 0 a.at (and_left (ltb 0 a.at) (leb a.at 65536) rest) in
    let near = leb-true a.at 65536 (and_right (ltb 0 a.at) (leb a.at 65536) rest) in
    let e : a.at - 1 + 1 ≡ a.at = omega (arith, some) in
    c.member.ensures
    ∙ ap (λ (n : ℕ). member a.s.now a.i (saying_from a.s.now (suc (length a.s.now)) n)) e
    ∙ ap (λ (m : ℕ). member a.s.now a.i (remaining a.s.now a.at m)) (sym none)

pub returns : goal.returns
returns c = c.any_member.ensures
