use Prim.Native.Nat.{ℕ, ◌+◌, ◌-◌}
use Rattle.chars.proofs.Chars.{get_first, get_on}
use Rattle.rules.specs.Bytes.{Bytes}
use Rattle.rules.specs.Context.{chars}
use Rattle.text.specs.Rest.{rest}
use lib.ListN.{get_elem?}
use mathlib.Core.List.{[]}
use mathlib.Core.Path.{◌≡◌, ◌∙◌, ap}
use native.Mathlib.Omega.{arith}
use Rattle.chars.proofs.nth_char.Goals as goal

pub loop-init : goal.loop-init
loop-init c = (c.requires.2, ap (get_elem? (chars (rest c.args.s.now c.args.b.now c.args.t))) (omega arith))

pub returns-in_err-w : goal.returns-in_err-w
returns-in_err-w c = let a = c.args in
    let l = c.loop in
    let e : rest a.s.now a.b.now l.u ≡ [] = c.in_err-w.ensures in
    rw c.from_residual.ensures (l.invariant.1 ∙ ap (λ (x : Bytes). get_elem? (chars x) (a.k - l.counter)) e)

pub loop-preserved : goal.loop-preserved
loop-preserved c = let a = c.args in
    let l = c.loop in
    let f = c.in_ok-w.ensures in
    let d : a.k - l.counter - 1 ≡ a.k - (l.counter + 1) = omega arith in
    let m = chars (rest a.s.now a.b.now c.in_ok-w.w) in
    (f.spelled, l.invariant.1 ∙ get_on (chars (rest a.s.now a.b.now l.u)) f.letter m (a.k - l.counter) f.first (λ z. omega arith) ∙ ap (get_elem? m) d)

pub returns-in_err-v : goal.returns-in_err-v
returns-in_err-v c = let a = c.args in
    let l = c.loop in
    let e : rest a.s.now a.b.now l.u ≡ [] = c.in_err-v.ensures in
    rw c.from_residual-in_err-v.ensures (l.invariant.1 ∙ ap (λ (x : Bytes). get_elem? (chars x) (a.k - l.counter)) e)

pub returns : goal.returns
returns c = let a = c.args in
    let l = c.loop in
    let o = c.in_ok-v in
    let f = o.ensures in
    record { letter = f.letter; value = f.value; is = l.invariant.1 ∙ get_first (chars (rest a.s.now a.b.now l.u)) f.letter _ (a.k - l.counter) f.first (omega arith) }
