use Prim.Native.Nat.{ℕ, ◌+◌, ◌-◌, ◌≤◌}
use native.Mathlib.Omega.{arith}
use mathlib.Core.Path.{◌≡◌, refl, sym, ap, ◌∙◌, subst}
use Rattle.rules.specs.Bits.{bits}
use Rattle.rules.specs.Bytes.{Bytes, same}
use Rattle.layout.specs.Text.{text_at}
use Rattle.meaning.specs.Meaning.{pairs, json_of}
use Rattle.merging.specs.Lookup.{find_last}
use Rattle.lookup.specs.Keys.{KeyFound}
use Rattle.lookup.specs.Numbers.{pair_at}
use Rattle.lookup.proofs.Finding.{last_hit, last_miss, last_none}
use Rattle.lookup.proofs.Numbers.{pair_some}
use Rattle.lookup.proofs.Ordered.{string_near}
use borrow.Author.Rules.{rules}
use Rattle.lookup.proofs.last_pair.Goals as goal

pub overflow_add-h : goal.overflow_add-h
overflow_add-h c = omega (arith, c.requires.1)

pub is_key-requires : goal.is_key-requires
is_key-requires c = let z = c in
    (omega (arith, c.place-p.ensures, string_near z.args.b.now _ z.requires.0 (z.requires.2.keys (c.loop-i.i - 1) (omega (arith)))), z.requires.3, z.requires.4)

pub returns-then-is_key : goal.returns-then-is_key
returns-then-is_key c = let a = c.args in
    let e : c.loop-i.i - 1 + 1 ≡ c.loop-i.i = omega arith in
    λ s.
    subst (KeyFound s a.b.now a.ent.now a.h a.n (find_last (pairs a.b.now a.ent.now (json_of s a.b.now a.ent.now) a.h a.n) (text_at (bits a.b.now) a.q))) (sym (ap (pair_at a.h) e ∙ pair_some a.h c.loop-i.i c.loop-i-test.true))
    (last_hit s a.b.now a.ent.now a.h a.n (text_at (bits a.b.now) a.q) _ c.loop-i.i c.loop-i-test.true (c.loop-i.invariant s) c.is_key.result (c.is_key.ensures ∙ ap (λ (p : ℕ). same (text_at (bits a.b.now) p) (text_at (bits a.b.now) a.q)) c.place-p.ensures) (omega arith) c.if-is_key.true)

pub loop-i-preserved : goal.loop-i-preserved
loop-i-preserved c = let a = c.args in
    λ s. last_miss s a.b.now a.ent.now a.h a.n (text_at (bits a.b.now) a.q) _ c.loop-i.i c.loop-i-test.true (c.loop-i.invariant s) c.is_key.result (c.is_key.ensures ∙ ap (λ (p : ℕ). same (text_at (bits a.b.now) p) (text_at (bits a.b.now) a.q)) c.place-p.ensures) c.if-is_key.false

pub returns : goal.returns
returns c = let a = c.args in
    λ s. last_none s a.b.now a.ent.now a.h a.n (text_at (bits a.b.now) a.q) _ c.loop-i.i (λ z. omega (arith, c.loop-i-test.false)) (c.loop-i.invariant s)
