use borrow.Enum.Refused.{opened}
use Prim.Native.Nat.{ℕ, ◌+◌, ◌-◌}
use native.Mathlib.Omega.{arith}
use mathlib.Core.Path.{◌≡◌, refl, sym, ap, ◌∙◌, subst}
use Rattle.rules.specs.Bits.{bits}
use Rattle.layout.specs.Text.{text_at}
use Rattle.value.specs.Numbers.{decoded}
use Rattle.meaning.specs.Meaning.{pairs, json_of, merged_of, rank}
use Rattle.merging.specs.Lookup.{find_last}
use Rattle.lookup.specs.Answers as answers
use Rattle.lookup.specs.Keys.{KeyFound}
use Rattle.lookup.specs.Numbers.{pair_at}
use Rattle.lookup.proofs.Finding.{Inward, inward_start, inward_merged, inward_room, inward_on, inward_less}
use Rattle.lookup.proofs.Numbers.{pair_key, inner_base, inner_pair}
use Rattle.lookup.proofs.Ordered.{string_near}
use Rattle.lookup.proofs.Told.{no_merged}
use borrow.Author.Rules.{rules}
use Rattle.lookup.proofs.inner_number.Goals as goal

pub returns : goal.returns
returns c = let z = c in
    let a = z.args in
    let s = a.s.now in
    let b = a.b.now in
    let ent = a.ent.now in
    let key = text_at (bits b) a.q in
    let l = c.loop-h in
    inner_base s b ent (decoded a.v) key l.u l.invariant (ap merged_of (sym c.decode.ensures) ∙ no_merged c.decode.result (opened c.in_default.in_default-own.keys2)) c.pathless_number-2.result _ c.pathless_number-2.ensures (omega arith) refl

pub last_pair-k-requires : goal.last_pair-k-requires
last_pair-k-requires c = let z = c in
    let a = z.args in
    let s = a.s.now in
    let b = a.b.now in
    let ent = a.ent.now in
    let key = text_at (bits b) a.q in
    let l = c.loop-h in
    let e = sym c.decode.ensures ∙ c.in-Merged.is in
    (z.requires.0, inward_room s b ent (decoded a.v) key (decoded l.u) l.invariant c.in-Merged.h c.in-Merged.n e, (inward_merged s b ent (decoded a.v) key (decoded l.u) l.invariant c.in-Merged.h c.in-Merged.n e).keys, string_near b a.q z.requires.0 z.requires.2, z.requires.3)

pub overflow_add-h : goal.overflow_add-h
overflow_add-h c = let z = c in
    let a = z.args in
    let s = a.s.now in
    let b = a.b.now in
    let ent = a.ent.now in
    let key = text_at (bits b) a.q in
    let l = c.loop-h in
    let e = sym c.decode.ensures ∙ c.in-Merged.is in
    let f = pair_key s b ent c.in-Merged.h c.in-Merged.n _ c.last_pair-k.result c.if-k-ne0.true (c.last_pair-k.ensures s) in
    omega (arith, c.if-k-ne0.true, f.high, inward_room s b ent (decoded a.v) key (decoded l.u) l.invariant c.in-Merged.h c.in-Merged.n e)

pub low-low-requires : goal.low-low-requires
low-low-requires c = let z = c in
    let a = z.args in
    let s = a.s.now in
    let b = a.b.now in
    let ent = a.ent.now in
    let key = text_at (bits b) a.q in
    let l = c.loop-h in
    let e = sym c.decode.ensures ∙ c.in-Merged.is in
    let f = pair_key s b ent c.in-Merged.h c.in-Merged.n _ c.last_pair-k.result c.if-k-ne0.true (c.last_pair-k.ensures s) in
    omega (arith, f.high, inward_room s b ent (decoded a.v) key (decoded l.u) l.invariant c.in-Merged.h c.in-Merged.n e)

pub returns-then-k-ne0 : goal.returns-then-k-ne0
returns-then-k-ne0 c = let z = c in
    let a = z.args in
    let s = a.s.now in
    let b = a.b.now in
    let ent = a.ent.now in
    let key = text_at (bits b) a.q in
    let l = c.loop-h in
    let e = sym c.decode.ensures ∙ c.in-Merged.is in
    let f = pair_key s b ent c.in-Merged.h c.in-Merged.n _ c.last_pair-k.result c.if-k-ne0.true (c.last_pair-k.ensures s) in
    inner_pair s b ent (decoded a.v) key l.u l.invariant c.in-Merged.h c.in-Merged.n e _ f c.pathless_number.result _
    (c.pathless_number.ensures ∙ ap (λ (n : ℕ). answers.pathless (decoded n)) c.low-low.ensures) (omega arith) refl

pub loop-h-smaller : goal.loop-h-smaller
loop-h-smaller c = let z = c in
    let a = z.args in
    let s = a.s.now in
    let b = a.b.now in
    let ent = a.ent.now in
    let key = text_at (bits b) a.q in
    let l = c.loop-h in
    let e = sym c.decode.ensures ∙ c.in-Merged.is in
    inward_less s b ent (decoded a.v) key (decoded l.u) l.invariant c.in-Merged.h c.in-Merged.n e (decoded c.high-u.result) (ap decoded c.high-u.ensures)

pub loop-h-preserved : goal.loop-h-preserved
loop-h-preserved c = let z = c in
    let a = z.args in
    let s = a.s.now in
    let b = a.b.now in
    let ent = a.ent.now in
    let key = text_at (bits b) a.q in
    let l = c.loop-h in
    let e = sym c.decode.ensures ∙ c.in-Merged.is in
    inward_on s b ent (decoded a.v) key (decoded l.u) l.invariant c.in-Merged.h c.in-Merged.n e (decoded c.high-u.result) (ap decoded c.high-u.ensures)
    (subst (λ (k : ℕ). KeyFound s b ent c.in-Merged.h c.in-Merged.n (find_last (pairs b ent (json_of s b ent) c.in-Merged.h c.in-Merged.n) key) (pair_at c.in-Merged.h k)) c.if-k-ne0.false (c.last_pair-k.ensures s))
