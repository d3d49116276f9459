use Rattle.direct.specs.Direct.{short_bytes, short_length}
use Rattle.support.proofs.Runs.{run_next, line_found}
use Rattle.support.specs.Runs.{inner_byte, line_length}
use Rattle.bits.specs.Packed.{number_bytes}
use Rattle.rules.specs.Bytes.{run}
use lib.Seq.{get_or-take}
use lib.ListN.{get_or, drop}
use borrow.Author.Tests.{ne_eqb}
use mathlib.Core.Path.{◌≡◌, refl, sym, ap, ◌∙◌}
use mathlib.Core.Bool.{true, not}
use Prim.Native.Nat.{ℕ, ◌+◌, ◌-◌}
use native.Mathlib.Nat.{zero-add}
use native.Mathlib.Omega.{arith}
use Rattle.direct.proofs.short_line.Goals as goal

pub returns-then-short_byte-eq10 : goal.returns-then-short_byte-eq10
returns-then-short_byte-eq10 c = let a = c.args in
    let j = c.loop-j.j - 1 in
    let v = short_bytes a.n a.x in
    let n = short_length a.n a.x c.requires in
    let x : get_or v j 0 ≡ 10 = get_or-take a.n (number_bytes 7 a.x) j 0 (omega arith) ∙ sym c.short_byte.ensures ∙ c.if-short_byte-eq10.true in
    let e : c.loop-j.j ≡ j + 1 = omega arith in
    e ∙ line_found true v 0 j refl (omega arith) (zero-add (run inner_byte v) ∙ c.loop-j.invariant) (omega arith) (rw x) ∙ zero-add (line_length true v)

pub loop-j-preserved : goal.loop-j-preserved
loop-j-preserved c = let a = c.args in
    let j = c.loop-j.j - 1 in
    let v = short_bytes a.n a.x in
    let n = short_length a.n a.x c.requires in
    let x : get_or v j 0 ≡ c.short_byte.result = get_or-take a.n (number_bytes 7 a.x) j 0 (omega arith) ∙ sym c.short_byte.ensures in
    let y : inner_byte (get_or v j 0) ≡ true = ap inner_byte x ∙ ap not (ne_eqb c.short_byte.result 10 c.if-short_byte-eq10.false) in
    let e : j + 1 ≡ c.loop-j.j + 1 - 1 = omega arith in
    run_next inner_byte v j (omega arith) _ y c.loop-j.invariant ∙ ap (λ (k : ℕ). k + run inner_byte (drop k v)) e

pub returns : goal.returns
returns c = let a = c.args in
    let l = c.loop-j in
    let n = short_length a.n a.x c.requires in
    omega (arith, l.invariant, n)
