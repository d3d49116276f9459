use Rattle.chars.proofs.Counts.{count_few}
use Rattle.chars.specs.Spelled.{Parted}
use Rattle.rules.specs.Bytes.{Bytes}
use Rattle.rules.specs.Context.{chars}
use lib.ListN.{length}
use mathlib.Core.Path.{ap, subst}
use native.Mathlib.Omega.{arith}
use Rattle.chars.proofs.char_count.Goals as goal

pub returns : goal.returns
returns c = let a = c.args in
    let p = c.requires in
    let l = c.loop-w in
    let e = subst (λ z. Parted a.s.now a.b.now l.u z) c.in_default.is c.next_char.ensures in
    let n = ap (λ (x : Bytes). length (chars x)) e in
    let i = l.invariant.1 in
    (omega (arith, n, i), omega (arith, i, count_few a.s.now a.b.now p.0 p.1 a.t p.2))

pub overflow_add-count : goal.overflow_add-count
overflow_add-count c = let a = c.args in
    let p = c.requires in
    let i = c.loop-w.invariant.1 in
    omega (arith, i, count_few a.s.now a.b.now p.0 p.1 a.t p.2)
