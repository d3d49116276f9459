use Rattle.rules.specs.Bytes.{Bytes}
use mathlib.Core.Path.{◌≡◌, ap, ◌∙◌}
use Prim.Native.Nat.{ℕ, ◌+◌}
use native.Mathlib.Omega.{arith}
use lib.ListN.{get_or, take, set}
use lib.Seq.{sets}
use Rattle.output.proofs.Texts.{copy_more}
use Rattle.output.proofs.copy.Goals as goal

pub loop-i-preserved : goal.loop-i-preserved
loop-i-preserved c = let a = c.args in
    let l = c.loop-i in
    ap (λ (x : Bytes). set x (a.at + l.i) (get_or a.v.now l.i 0)) l.invariant ∙ copy_more a.out.now a.v.now a.at l.i (omega arith)

pub returns : goal.returns
returns c = let a = c.args in
    let l = c.loop-i in
    let e : l.i ≡ a.n = omega arith in
    l.invariant ∙ ap (λ (i : ℕ). sets a.out.now a.at (take i a.v.now)) e
