use Prim.Native.Nat.{ℕ, ◌+◌, ◌^◌}
use mathlib.Core.Path.{sym, ap, ◌∙◌, subst}
use native.Mathlib.Omega.{arith}
use Rattle.rules.specs.Bits.{bits}
use Rattle.layout.specs.Text.{text_at}
use Rattle.meaning.specs.Entries.{place}
use Rattle.scope.specs.NameBits.{Has, bit_of, has_own, keys_on}
use Rattle.scope.proofs.hash_bits.Goals as goal

pub loop-i-preserved : goal.loop-i-preserved
loop-i-preserved c = let a = c.args in
    let l = c.loop-i in
    keys_on a.b.now a.ent.now l.r c.name_bit-r.result a.h l.i l.invariant
    (subst (λ (x : ℕ). Has x (text_at (bits a.b.now) (place a.ent.now (a.h + l.i)))) (sym (c.name_bit-r.ensures ∙ ap (λ (q : ℕ). 2 ^ bit_of (text_at (bits a.b.now) q)) c.place.ensures))
    (has_own (text_at (bits a.b.now) (place a.ent.now (a.h + l.i)))))

pub returns : goal.returns
returns c = let z = c in λ k l j lt. c.loop-i.invariant k l j (omega arith)
